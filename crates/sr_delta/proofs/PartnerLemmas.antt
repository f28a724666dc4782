-- How partners are found in order of key.
use Rattle.std.proofs.Common.{◌≡◌, ◌≢◌, ℕ, ◌+◌, ◌<◌, ◌≤◌, ⊎_elim, List, [], ◌∷◌, ◌++◌, length, Option, Some, None, refl, arith, ap, sym, ◌∙◌, subst}
use Rattle.std.specs.Prelude.{IfSome, IfNone}
use Rattle.std.proofs.lemmas.Bool.{cases_lt, cases_eq}
use Rattle.std.proofs.lemmas.List.{length-append, get_or_push, get_or_append_left}
use Rattle.sr_model.specs.declared.link.LinkNo.{LinkNo}
use Rattle.sr_model.specs.declared.name.LinkKey.{LinkKey}
use Rattle.sr_model.specs.Key.{KeyLt}
use Rattle.sr_model.specs.Graph.{Graph, link_count, IsNamed}
use Rattle.sr_model.specs.Case.{key_at}
use Rattle.sr_laws.proofs.Keys.{KeyLt-trans, KeyLt-irrefl}
use Rattle.sr_delta.specs.Partners.{AllBelow, IsPartner, partner_at, ArePartnersBelow}

-- one more link lies below
pub below-more : (g : Graph) (key : LinkKey) (at : ℕ) → AllBelow g at key → KeyLt (key_at g at) key → AllBelow g (at + 1) key
below-more g key at below here k lt =
    ⊎_elim
    (λ (e : k ≡ at). subst (λ j. KeyLt (key_at g j) key) (sym e) here)
    (λ (ne : k ≢ at). below k (omega arith))
    (cases_eq k at)

-- below a link's key is below the next one's
pub below-next : (g h : Graph) → IsNamed g → (l at : ℕ) → l + 1 < link_count g → AllBelow h at (key_at g l) → AllBelow h at (key_at g (l + 1))
below-next g h named l at within below k lt = KeyLt-trans (key_at h k) (key_at g l) (key_at g (l + 1)) (below k lt) (named.keys l (l + 1) (omega arith) within)

-- where the link at the first place from which on none is below hasn't the key, none has
pub none-has : (g : Graph) → IsNamed g → (key : LinkKey) (at : ℕ) → AllBelow g at key → (at < link_count g → KeyLt (key_at g at) key → ⊥) → (at < link_count g → key_at g at ≢ key) → (k : ℕ) → k < link_count g → key_at g k ≢ key
none-has g named key at below first other k within is =
    ⊎_elim
    (λ (low : k < at). KeyLt-irrefl key (subst (λ j. KeyLt j key) is (below k low)))
    (λ (high : at ≤ k).
    ⊎_elim
    (λ (e : k ≡ at). other (omega arith) (ap (key_at g) (sym e) ∙ is))
    (λ (ne : k ≢ at). first (omega arith) (subst (λ j. KeyLt (key_at g at) j) is (named.keys at k (omega arith) within)))
    (cases_eq k at))
    (cases_lt k at)

-- the link found by the key is the partner
pub partner-found : (g h : Graph) (l : ℕ) → l < link_count g → (p : Option LinkNo) → IfSome p (λ (k : LinkNo). (k.0 < link_count h) × (key_at h k.0 ≡ key_at g l)) → IfNone p ((k : ℕ) → k < link_count h → key_at h k ≢ key_at g l) → IsPartner g h l p
partner-found g h l within None found none = λ k is. none k is.1 is.2
partner-found g h l within (Some k) found none = (within, found.0, found.1)

-- there are none of no links
pub partners-none : (g h : Graph) → ArePartnersBelow g h 0 []
partners-none g h = record { long = refl; each = λ l lt. absurd (omega arith) }

-- one more
pub partners-push : (g h : Graph) (n : ℕ) (list : List (Option LinkNo)) (p : Option LinkNo) → ArePartnersBelow g h n list → IsPartner g h n p → ArePartnersBelow g h (n + 1) (list ++ p ∷ [])
partners-push g h n list p r is = record {
  long = (let long : length (list ++ p ∷ []) ≡ length list + 1 = length-append list (p ∷ []) in omega (arith, r.long));
  each = λ l lt. ⊎_elim
      (λ (e : l ≡ n).
      let last : partner_at (list ++ p ∷ []) l ≡ p = get_or_push list p None l (r.long ∙ sym e) in
      subst (λ j. IsPartner g h j (partner_at (list ++ p ∷ []) l)) (sym e) (subst (λ q. IsPartner g h n q) (sym last) is))
      (λ (ne : l ≢ n).
      let low : l < length list = omega (arith, r.long) in
      subst (λ q. IsPartner g h l q) (sym (get_or_append_left list (p ∷ []) None l low)) (r.each l (omega arith)))
      (cases_eq l n);
}
