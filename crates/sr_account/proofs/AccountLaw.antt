-- The law of the account: an item is used exactly where no reason holds of it, and a line tells of one item alone.
use Rattle.std.proofs.Common.{◌≡◌, ℕ, ◌<◌, ◌⊎◌, inl, inr, ⊎_elim, List, ap, sym, ◌∙◌, subst, Some}
use Rattle.std.specs.Prelude.{slice_get}
use Rattle.std.proofs.lemmas.Bool.{cases_order}
use Rattle.sr_model.specs.Label.{Net}
use Rattle.sr_lsp.specs.declared.table.Part.{Part}
use Rattle.sr_lsp.specs.declared.table.Part.TheVariants as part
use Rattle.sr_lsdb.specs.declared.facts.Facts.{Facts}
use Rattle.sr_lsdb.specs.Facts.{AreInRange}
use Rattle.sr_domain.specs.Net.{IsNetOf}
use Rattle.sr_account.specs.declared.aside.Aside.{Aside}
use Rattle.sr_account.specs.declared.aside.Place.{Place}
use Rattle.sr_account.specs.declared.aside.Reason.{Reason}
use Rattle.sr_account.specs.declared.aside.Reason.TheVariants.{HostName}
use Rattle.sr_account.specs.Items.{IsFactItem, IsPartAt, Item, PartPlace, PlaceBefore, item_place}
use Rattle.sr_account.specs.Items.Item.{OfPart, OfAdj, OfPrefix}
use Rattle.sr_account.specs.Reasons.{IsUnhindered, LspFails, PartFails}
use Rattle.sr_account.specs.Used.{IsPartUsed, IsUsed}
use Rattle.sr_account.specs.Asides.{AreAsides, IsTold, aside_of}
use Rattle.sr_account.specs.Laws.{IsAccountOf, IsInOrder, IsToldOnce}
use Rattle.sr_account.proofs.PlaceLaw.{before-itself, item-one}
use Rattle.sr_account.proofs.ReachUsed.{lsp-free, reach-free, reach-used}
use Rattle.sr_account.proofs.AdjUsed.{adj-free, adj-used}
use Rattle.sr_account.proofs.PrefixUsed.{prefix-free, prefix-sid-free, prefix-sid-used, prefix-used}
use Rattle.sr_account.proofs.RiskUsed.{risk-free, risk-used}
use Rattle.sr_account.proofs.CapabilityUsed.{capability-free, capability-used}

module _ (facts : Facts) (net : Net) (up : IsInOrder facts) (is : IsNetOf facts net) where
  part-used : (place : PartPlace) (said : Part) → IsPartAt facts place said → ((r : Reason) → LspFails facts place.id r → ⊥) → ((r : Reason) → PartFails facts place said r → ⊥) → IsPartUsed facts net place said
  part-used place (part.Reach reach) at clear free = let r = reach-used facts net is place reach at clear free in (r.0, r.1)
  part-used place (part.Prefix prefix) at clear free = prefix-used facts net up is place prefix at clear free
  part-used place (part.Name name) at clear free = free HostName tt
  part-used place (part.Risk risk) at clear free = risk-used facts net is place risk at clear free
  part-used place (part.Capability capability) at clear free = capability-used facts net up is place capability at clear free

  part-free : (place : PartPlace) (said : Part) → IsPartUsed facts net place said → (r : Reason) → LspFails facts place.id r ⊎ PartFails facts place said r → ⊥
  part-free place (part.Reach reach) used r = ⊎_elim (lsp-free facts net up is place.id used.1.node used.1.of_node r) (reach-free facts net up is place.id reach used.0 used.1 r)
  part-free place (part.Prefix prefix) used r = ⊎_elim (lsp-free facts net up is place.id used.3.node used.3.of_node r) (prefix-free facts net is place prefix used r)
  part-free place (part.Name name) used r = absurd used
  part-free place (part.Risk risk) used r = ⊎_elim (lsp-free facts net up is place.id used.node used.of_node r) (risk-free facts net is place.id risk used r)
  part-free place (part.Capability capability) used r = ⊎_elim (lsp-free facts net up is place.id used.node used.of_node r) (capability-free facts net place capability used r)

  -- an item of which no reason holds is used
  pub item-used : (item : Item) → IsFactItem facts item → IsUnhindered facts item → IsUsed facts net item
  item-used (OfPart place said) has free = part-used place said has (λ r fails. free r (inl fails)) (λ r fails. free r (inr fails))
  item-used (OfAdj place reach k sid) has free = adj-used facts net is place reach k sid has.0 has.1 (λ r fails. free r (inl fails)) (λ r fails. free r (inr (inl fails))) (λ r fails. free r (inr (inr fails)))
  item-used (OfPrefix place prefix k sid) has free = prefix-sid-used facts net up is place prefix k sid has.0 has.1 (λ r fails. free r (inl fails)) (λ r fails. free r (inr fails))

  -- no reason holds of an item that is used
  pub item-free : (item : Item) → IsFactItem facts item → IsUsed facts net item → IsUnhindered facts item
  item-free (OfPart place said) has used = part-free place said used
  item-free (OfAdj place reach k sid) has used = λ r. ⊎_elim
      (lsp-free facts net up is place.id used.gives.node used.gives.of_node r)
      (⊎_elim (reach-free facts net up is place.id reach used.link used.gives r) (adj-free facts net up is place reach k sid has.0 used r))
  item-free (OfPrefix place prefix k sid) has used = λ r. ⊎_elim (lsp-free facts net up is place.id used.node used.of_node r) (prefix-sid-free facts net is place prefix k sid used r)

-- ---- lines

module _ (facts : Facts) (asides : List Aside) (are : AreAsides facts asides) where
  -- a line tells of the item at its place, of which a reason holds
  told-item : (item : Item) → IsFactItem facts item → (n : ℕ) (aside : Aside) → slice_get asides n ≡ Some aside → aside.place ≡ item_place item → IsUnhindered facts item → ⊥
  told-item item has n aside at place free =
      let line = are.each n aside at in
      let same : line.item ≡ item = item-one facts line.item item line.is_item has (ap (λ (a : Aside). a.place) (sym line.is) ∙ place) in
      subst (IsUnhindered facts) (sym same) free line.reason line.first.holds

  -- two lines are at two places
  line-one : (m n : ℕ) (a b : Aside) → slice_get asides m ≡ Some a → slice_get asides n ≡ Some b → a.place ≡ b.place → m ≡ n
  line-one m n a b at there same = ⊎_elim
      (λ (e : m ≡ n). e)
      (λ (apart : (m < n) ⊎ (n < m)). ⊎_elim
      (λ (less : m < n). absurd (before-itself b.place (subst (λ (p : Place). PlaceBefore p b.place) same (are.ascending m n a b less at there))))
      (λ (less : n < m). absurd (before-itself b.place (subst (λ (p : Place). PlaceBefore b.place p) same (are.ascending n m b a less there at))))
      apart)
      (cases_order m n)

  told-once : (item : Item) → IsTold facts asides item → IsToldOnce facts asides item
  told-once item told = record {
    told = told;
    once = λ n aside at place. line-one n told.line aside (aside_of item told.reason) at told.told place;
  }

pub account : (facts : Facts) (net : Net) (asides : List Aside) → IsInOrder facts → AreInRange facts → IsNetOf facts net → AreAsides facts asides → IsAccountOf facts net asides
account facts net asides up range is are = λ item has. ⊎_elim
    (λ (free : IsUnhindered facts item). inl (item-used facts net up is item has free, λ n aside at place. told-item facts asides are item has n aside at place free))
    (λ (told : IsTold facts asides item). inr (λ used. item-free facts net up is item has used told.reason told.first.holds, told-once facts asides are item told))
    (are.all item has)
