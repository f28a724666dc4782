-- An audit has a repair of a name, or it has none.
use Rattle.std.proofs.Common.{◌≡◌, ◌≢◌, ℕ, zero, suc, ◌⊎◌, ⊎_elim, inl, inr, true, List, [], ◌∷◌, Some, slice_get, refl, sym, ap, ◌∙◌, subst}
use Rattle.std.proofs.lemmas.Option.{same_Some}
use Rattle.sr_model.specs.declared.audit.Item.{Item}
use Rattle.sr_model.specs.Audit.{is_least, IsItem, IsAudit}
use Rattle.sr_model.specs.Label.{Net}
use Rattle.sr_laws.proofs.Parts.{true_or}
use Rattle.sr_diff.specs.Named.{ItemName, item_name}
use Rattle.sr_diff.specs.Diff.{IsUnrepaired}
use Rattle.sr_diff.proofs.NameLemmas.{repaired-least, name-cases}
use Rattle.sr_laws.proofs.Audits.{item_one}

-- a list under this name
abbrev pub IsListNamed : Net → ItemName → Item → Type 0
IsListNamed n name item = (is_least item.answer ≡ true) × (item_name n item ≡ name)

named-cases : (n : Net) (name : ItemName) (item : Item) → IsListNamed n name item ⊎ (IsListNamed n name item → ⊥)
named-cases n name item = ⊎_elim
    (λ least. ⊎_elim
    (λ same. inl (least, same))
    (λ (ne : item_name n item ≢ name). inr (λ both. ne both.1))
    (name-cases (item_name n item) name))
    (λ no. inr (λ both. cc (both.0, no)))
    (true_or (is_least item.answer))

-- a member of which the fact holds, or there is none
member-cases : (P : Item → Type 0) → ((x : Item) → P x ⊎ (P x → ⊥)) → (xs : List Item) → ((k : ℕ) × (x : Item) × (slice_get xs k ≡ Some x) × P x) ⊎ ((k : ℕ) (x : Item) → slice_get xs k ≡ Some x → P x → ⊥)
member-cases P cases [] = inr (λ k x e p. cc (e))
member-cases P cases (y ∷ xs) = ⊎_elim
    (λ (holds : P y). inl (0, y, refl, holds))
    (λ (fails : P y → ⊥). ⊎_elim
    (λ there. inl (suc there.0, there.1, there.2, there.3))
    (λ (none : (k : ℕ) (x : Item) → slice_get xs k ≡ Some x → P x → ⊥). inr (at fails none))
    (member-cases P cases xs))
    (cases y)
  where
    at : (P y → ⊥) → ((k : ℕ) (x : Item) → slice_get xs k ≡ Some x → P x → ⊥) → (k : ℕ) (x : Item) → slice_get (y ∷ xs) k ≡ Some x → P x → ⊥
    at fails none zero x e p = fails (subst P (sym (same_Some y x e)) p)
    at fails none (suc k) x e p = none k x e p

-- an item stands in the audit
pub item-there : (n : Net) (items : List Item) (item : Item) → IsAudit n items → IsItem n item → (k : ℕ) × (slice_get items k ≡ Some item)
item-there n items item audit is =
    let at = audit.all item.case item.dest.0 is.within is.affected in
    let same : at.1 ≡ item = item_one n at.1 item (audit.each at.0 at.1 at.2) is at.3 at.4 in
    (at.0, at.2 ∙ ap Some same)

-- a list of the audit under this name, or the net has no repair under it
pub repair-cases : (n : Net) (items : List Item) (name : ItemName) → IsAudit n items → ((k : ℕ) × (x : Item) × (slice_get items k ≡ Some x) × IsListNamed n name x) ⊎ IsUnrepaired n name
repair-cases n items name audit = ⊎_elim
    (λ there. inl there)
    (λ (none : (k : ℕ) (x : Item) → slice_get items k ≡ Some x → IsListNamed n name x → ⊥). inr (λ repair has.
    let at = item-there n items has.0 audit has.1 in
    none at.0 has.0 at.1 (repaired-least n has.0 repair has.3, has.2)))
    (member-cases (IsListNamed n name) (named-cases n name) items)
