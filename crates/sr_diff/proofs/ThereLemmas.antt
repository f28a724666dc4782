-- What the other net has under a name.
use Rattle.std.proofs.Common.{◌≡◌, ℕ, ◌⊎◌, inl, inr, Bool, true, false, refl, sym, ap, ◌∙◌, subst, Option, Some, None}
use Rattle.std.specs.Prelude.{◌↔◌, IsTrue, MatchOption, is_some, not}
use Rattle.sr_model.specs.declared.audit.Item.{Item}
use Rattle.sr_model.specs.declared.case.Case.{Case}
use Rattle.sr_model.specs.declared.repair.Answer.{Answer}
use Rattle.sr_model.specs.declared.repair.Answer.TheVariants.{NoPath, NoList, TooDeep}
use Rattle.sr_model.specs.Audit.{is_least}
use Rattle.sr_model.specs.Case.{IsAffected}
use Rattle.sr_model.specs.Label.{Net}
use Rattle.sr_model.specs.Repair.{IsCaseAnswer}
use Rattle.sr_model.specs.Rule.{IsNet}
use Rattle.sr_repair.specs.Stack.{HasNoList}
use Rattle.sr_diff.specs.declared.purpose.Purpose.{Purpose}
use Rattle.sr_diff.specs.declared.changes.Likeness.TheVariants.{Same, Other}
use Rattle.sr_diff.specs.Named.{ItemName, NamedRepair, name_at, item_name, repair_of}
use Rattle.sr_diff.specs.Diff.{HasRepair, IsUnrepaired, IsLost, IsSame, IsOther}
use Rattle.sr_diff.specs.Matched.{IsPurposeNamed, IsNoName, IsListFor, IsListNamed, IsLikeness}
use Rattle.sr_diff.proofs.NameLemmas.{dest-within, purpose-one, repaired-list, repaired-least, least-repaired, same-other}

-- an answer that isn't a list
pub bare-answer : (a : Answer) → (a ≡ NoPath) ⊎ ((a ≡ NoList) ⊎ ((k : ℕ) × (a ≡ TooDeep k))) → is_least a ≡ false
bare-answer a (inl none) = ap is_least none
bare-answer a (inr (inl none)) = ap is_least none
bare-answer a (inr (inr deep)) = ap is_least deep.1

-- a net without such a link or node has no repair under the name
pub no_name-unrepaired : (n : Net) (name : ItemName) → IsNet n → IsNoName n.graph name → IsUnrepaired n name
no_name-unrepaired n name net none repair has =
    none has.0.case has.0.dest.0 has.1.within (dest-within n has.0 net has.1) has.2

-- nor has one whose answer isn't a list
pub no_list-unrepaired : (n : Net) (name : ItemName) (purpose : Purpose) → IsNet n → IsPurposeNamed n.graph name purpose → HasNoList n purpose.case purpose.dest.0 → IsUnrepaired n name
no_list-unrepaired n name purpose net is none repair has =
    let item = has.0 in
    let one = purpose-one n item.case purpose.case item.dest.0 purpose.dest.0 net has.1.within is.case (dest-within n item net has.1) is.dest (has.2 ∙ sym is.named) in
    let list = repaired-list n item repair has.3 in
    let affected : IsAffected n purpose.case purpose.dest.0 = subst (λ (d : ℕ). IsAffected n purpose.case d) one.1 (subst (λ (c : Case). IsAffected n c item.dest.0) one.0 has.1.affected) in
    let answer : IsCaseAnswer n purpose.case purpose.dest.0 item.answer = subst (λ (d : ℕ). IsCaseAnswer n purpose.case d item.answer) one.1 (subst (λ (c : Case). IsCaseAnswer n c item.dest.0 item.answer) one.0 has.1.answer) in
    none list.0 affected (subst (λ (a : Answer). IsCaseAnswer n purpose.case purpose.dest.0 a) list.1 answer)

-- the list for the case and the destination has their name
list-named : (n : Net) (name : ItemName) (purpose : Purpose) (item : Item) → IsPurposeNamed n.graph name purpose → IsListFor n purpose.case purpose.dest.0 item → IsListNamed n name item
list-named n name purpose item is list = record {
  is = list.is;
  named = ap (λ (c : Case). name_at n.graph c item.dest.0) list.case_is ∙ ap (λ (d : ℕ). name_at n.graph purpose.case d) list.dest_is ∙ is.named;
  least = list.least;
}

-- the item found for the case and the destination is found under their name
pub found-named : (n : Net) (name : ItemName) (purpose : Purpose) (found : Option Item) → IsNet n → IsPurposeNamed n.graph name purpose → MatchOption found (HasNoList n purpose.case purpose.dest.0) (IsListFor n purpose.case purpose.dest.0) → MatchOption found (IsUnrepaired n name) (IsListNamed n name)
found-named n name purpose None net is found = no_list-unrepaired n name purpose net is found
found-named n name purpose (Some item) net is found = list-named n name purpose item is found

-- a list under the name is a repair under it
pub named-repair : (n : Net) (name : ItemName) (item : Item) → IsListNamed n name item → (repair : NamedRepair) × HasRepair n name repair × (repair_of n item ≡ Some repair)
named-repair n name item is =
    let has = least-repaired n item is.least in
    (has.0, (item, is.is, is.named, has.1), has.1)

-- ---- lost or not

-- a repair under whose name nothing is found is lost
pub none-lost : (n m : Net) (item : Item) → is_least item.answer ≡ true → IsUnrepaired m (item_name n item) → IsLost n m item
none-lost n m item least none = (least-repaired n item least, none)

-- one under whose name a list is found isn't
pub found-kept : (n m : Net) (item other : Item) → IsListNamed m (item_name n item) other → IsLost n m item → ⊥
found-kept n m item other is lost =
    let has = named-repair m (item_name n item) other is in
    lost.1 has.0 has.1

-- an item that isn't a list isn't lost
pub bare-kept : (n m : Net) (item : Item) → is_least item.answer ≡ false → IsLost n m item → ⊥
bare-kept n m item no_list lost = cc (repaired-least n item lost.0.0 lost.0.1, no_list)

-- ---- the same or not

-- where the old net has no repair under the name, the item's is neither the same nor another one
pub none-apart : (old new : Net) (item : Item) → IsUnrepaired old (item_name new item) → (IsSame old new item → ⊥) × (IsOther old new item → ⊥)
none-apart old new item none = (λ same. none same.0 same.1, λ other. none other.0 other.2)

-- an item that isn't a list has no repair
pub bare-apart : (old new : Net) (item : Item) → is_least item.answer ≡ false → (IsSame old new item → ⊥) × (IsOther old new item → ⊥)
bare-apart old new item no_list = (
  λ same. cc (repaired-least new item same.0 same.2, no_list),
  λ other. cc (repaired-least new item other.1 other.3, no_list),
)

-- the same repair in both nets
pub alike-same : (old new : Net) (item before : Item) → IsNet old → IsListNamed old (item_name new item) before → repair_of old before ≡ repair_of new item → IsLikeness old new item Same
alike-same old new item before net is e =
    let has = named-repair old (item_name new item) before is in
    let same : IsSame old new item = (has.0, has.1, sym e ∙ has.2) in
    (same, λ other. same-other old new item net same other)

-- another repair in the old net
pub unlike-other : (old new : Net) (item before : Item) → IsNet old → is_least item.answer ≡ true → IsListNamed old (item_name new item) before → (repair_of old before ≡ repair_of new item → ⊥) → IsLikeness old new item (Other before)
unlike-other old new item before net least is differ =
    let has = named-repair old (item_name new item) before is in
    let mine = least-repaired new item least in
    let other : IsOther old new item = (has.0, mine.0, has.1, mine.1, λ (e : has.0 ≡ mine.0). differ (has.2 ∙ ap Some e ∙ sym mine.1)) in
    (λ same. same-other old new item net same other, other, is.is, is.named)

-- a repair is lost just where nothing is found under its name
pub lost-told : (n m : Net) (item : Item) (found : Option Item) (none : Bool) → is_least item.answer ≡ true → is_some found ≡ not none → MatchOption found (IsUnrepaired m (item_name n item)) (IsListNamed m (item_name n item)) → IsTrue none ↔ IsLost n m item
lost-told n m item None none least is found = (λ t. none-lost n m item least found, λ lost. told none is)
  where
    told : (none : Bool) → is_some {T = Item} None ≡ not none → IsTrue none
    told true e = refl
    told false e = absurd (cc (e))
lost-told n m item (Some other) none least is found = (λ t. absurd (told none is t), λ lost. absurd (found-kept n m item other found lost))
  where
    told : (none : Bool) → is_some (Some other) ≡ not none → IsTrue none → ⊥
    told true e t = cc (e)
    told false e t = cc (t)
