-- The link of a key: no two have one key.
use Rattle.std.proofs.Common.{◌≡◌, ◌≢◌, ℕ, ◌<◌, Bool, true, false, cond, get_or, ap, sym, ◌∙◌, arith, Option, Some, None}
use Rattle.std.specs.Prelude.{nat_lt, IfNone, IfSome, MatchOption}
use Rattle.std.specs.List.{position_or_len}
use Rattle.std.proofs.lemmas.Bool.{false_from_ne_true, lt-ltb, ltb-true}
use Rattle.std.proofs.lemmas.List.Sums.{position_or_len_is}
use Rattle.sr_model.specs.declared.link.Link.{Link}
use Rattle.sr_model.specs.declared.link.LinkNo.{LinkNo}
use Rattle.sr_model.specs.declared.name.LinkKey.{LinkKey}
use Rattle.sr_model.specs.Case.{key_at}
use Rattle.sr_model.specs.Graph.{Graph, IsNamed, link_count, no_link}
use Rattle.sr_model.specs.Key.{mirror}
use Rattle.sr_model.specs.KeyOrder.{same_key}
use Rattle.sr_laws.proofs.Keys.{key-one}
use Rattle.sr_laws.proofs.Places.{key-told}
use Rattle.sr_print.specs.Account.{back_of, link_with}

told-by : (g : Graph) (key : LinkKey) (at : ℕ) (b : Bool) → position_or_len (λ (link : Link). same_key link.key key) g.links ≡ at → nat_lt at (link_count g) ≡ b → link_with g key ≡ cond b (Some at) None
told-by g key at b is small = ap (λ m. cond (nat_lt m (link_count g)) (Some m) None) is ∙ ap (λ c. cond c (Some at) None) small

with-found : (g : Graph) (key : LinkKey) (l : ℕ) → IsNamed g → l < link_count g → key_at g l ≡ key → link_with g key ≡ Some l
with-found g key l named within is =
    let test = λ (link : Link). same_key link.key key in
    let earlier : (k : ℕ) → k < l → test (get_or g.links k no_link) ≡ false = λ k lt. false_from_ne_true (same_key (key_at g k) key) (λ same. let e : k ≡ l = key-one g named k l (omega (arith, lt, within)) within ((key-told (key_at g k) key).0 same ∙ sym is) in omega (arith, e, lt)) in
    told-by g key l true (position_or_len_is test g.links l no_link (omega (arith, within)) earlier (λ lt. (key-told (key_at g l) key).1 is)) (lt-ltb l (link_count g) within)

with-none : (g : Graph) (key : LinkKey) → ((l : ℕ) → l < link_count g → key_at g l ≢ key) → link_with g key ≡ None
with-none g key none =
    let test = λ (link : Link). same_key link.key key in
    told-by g key (link_count g) false (position_or_len_is test g.links (link_count g) no_link (omega arith) (λ k lt. false_from_ne_true (same_key (key_at g k) key) (λ same. none k lt ((key-told (key_at g k) key).0 same))) (λ lt. absurd (omega (arith, lt)))) (false_from_ne_true (nat_lt (link_count g) (link_count g)) (λ e. omega (arith, ltb-true (link_count g) (link_count g) e)))

back-found : (g : Graph) (l back : ℕ) → IsNamed g → back < link_count g → key_at g back ≡ mirror (key_at g l) → back_of g l ≡ Some back
unfolding back_of
back-found g l back named within is = with-found g (mirror (key_at g l)) back named within is

back-none : (g : Graph) (l : ℕ) → ((k : ℕ) → k < link_count g → key_at g k ≢ mirror (key_at g l)) → back_of g l ≡ None
unfolding back_of
back-none g l none = with-none g (mirror (key_at g l)) none

-- the link of the mirrored key is the opposite link
pub back-is : (g : Graph) (l : ℕ) (key : LinkKey) (answer : Option LinkNo) → IsNamed g → key ≡ mirror (key_at g l)
    → IfSome answer (λ (link : LinkNo). (link.0 < link_count g) × (key_at g link.0 ≡ key)) → IfNone answer ((k : ℕ) → k < link_count g → key_at g k ≢ key)
    → MatchOption answer (back_of g l ≡ None) (λ (back : LinkNo). (back_of g l ≡ Some back.0) × (back.0 < link_count g))
back-is g l key None named is found none = back-none g l (λ k lt e. none k lt (e ∙ sym is))
back-is g l key (Some link) named is found none = (back-found g l link.0 named found.0 (found.1 ∙ is), found.0)
