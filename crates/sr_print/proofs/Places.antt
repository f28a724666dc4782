-- The number of a link among the announced keys between its nodes.
use Rattle.std.proofs.Common.{◌≡◌, ℕ, zero, suc, ◌-◌, ◌<◌, cond, List, [], ◌∷◌, ap, sym, ◌∙◌, Some}
use Rattle.std.specs.Prelude.{slice_get, nat_lt}
use Rattle.std.specs.List.{find, position_or_len}
use Rattle.std.proofs.lemmas.Bool.{cond_both}
use Rattle.std.proofs.lemmas.List.Folds.{find_at}
use Rattle.std.proofs.lemmas.Option.{same_Some}
use Rattle.sr_model.specs.declared.name.LinkKey.{LinkKey}
use Rattle.sr_model.specs.Case.{key_at}
use Rattle.sr_model.specs.Graph.{link_count}
use Rattle.sr_model.specs.KeyOrder.{same_key}
use Rattle.sr_model.specs.Label.{Net, keys_between, IsPlace}
use Rattle.sr_model.specs.Rule.{IsAccepted}
use Rattle.sr_laws.proofs.Places.{key-told, place-one, get_from, place-at}
use Rattle.sr_print.specs.Links.{place_between}

-- a key that stands there is found
find-key : (keys : List LinkKey) (key : LinkKey) (i : ℕ) → slice_get keys i ≡ Some key → find (λ (k : LinkKey). same_key k key) keys ≡ Some key
find-key [] key i e = absurd {0} (cc)
find-key (k ∷ ks) key zero e = ap (λ b. cond b (Some k) (find (λ (x : LinkKey). same_key x key) ks)) ((key-told k key).1 (same_Some k key e)) ∙ e
find-key (k ∷ ks) key (suc i) e = cond_both (same_key k key) (Some k) (find (λ (x : LinkKey). same_key x key) ks) (λ o. o ≡ Some key) (λ same. ap Some ((key-told k key).0 same)) (λ other. find-key ks key i e)

at-place : (keys : List LinkKey) (key : LinkKey) (n : ℕ) → IsPlace keys key n → slice_get (keys_between keys key.from key.to) (n - 1) ≡ Some key
at-place keys key n is = (get_from (nat_lt 0 n) (slice_get (keys_between keys key.from key.to) (n - 1)) key is).1

-- the place that is told is the place
pub place_is : (n : Net) (l k : ℕ) → IsAccepted n → l < link_count n.graph → IsPlace n.announced (key_at n.graph l) k → k ≡ place_between n.announced (key_at n.graph l)
place_is n l k accepted within is =
    let key = key_at n.graph l in
    let keys = keys_between n.announced key.from key.to in
    let found : find (λ (x : LinkKey). same_key x key) keys ≡ Some key = find-key keys key (k - 1) (at-place n.announced key k is) in
    let there : IsPlace n.announced key (place_between n.announced key) = place-at n.announced key (position_or_len (λ (x : LinkKey). same_key x key) keys) (sym (find_at (λ (x : LinkKey). same_key x key) keys) ∙ found) in
    let one = place-one n.graph n.announced accepted.announced l within in
    one.2 k is ∙ sym (one.2 (place_between n.announced key) there)
