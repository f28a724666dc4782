-- What the nets cover is lost or gained, changed, or the same.
use Rattle.std.proofs.Common.{◌≡◌, ℕ, zero, suc, ◌⊎◌, ⊎_elim, inl, inr, Bool, true, List, [], ◌∷◌, length, map, Some, slice_get, option_map, refl, sym, ap, ◌∙◌, subst, arith}
use Rattle.std.proofs.lemmas.List.{length-map}
use Rattle.std.proofs.lemmas.Option.{same_Some, slice_get-map}
use Rattle.sr_model.specs.declared.audit.Item.{Item}
use Rattle.sr_model.specs.Audit.{is_least, ItemLt, IsAudit}
use Rattle.sr_model.specs.Label.{Net}
use Rattle.sr_model.specs.Rule.{IsNet}
use Rattle.sr_laws.proofs.Ascending.{Ascends, AreAmong, ascending-one}
use Rattle.sr_laws.proofs.Audits.{audit-one}
use Rattle.sr_diff.specs.Named.{ItemName, item_name}
use Rattle.sr_diff.specs.Diff.{HasRepair, IsLost, IsOther, IsSame, AreSuch, after_of}
use Rattle.sr_diff.specs.Laws.{DiffsAddUp}
use Rattle.sr_diff.proofs.FoundLemmas.{repair-cases}
use Rattle.sr_diff.proofs.NameLemmas.{NameLt, name-irrefl, name-trans, names-ascend, repaired-least, least-repaired, same-other, same-gained, other-gained}
use Rattle.sr_diff.proofs.ThoseLemmas.{PassesBut, those-split, those-rest, those-in, in-those, those-ascend}

-- the answer of the item is a list
abbrev pub covered : Item → Bool
covered item = is_least item.answer

-- the item of the first net is repaired in both
abbrev pub IsKept : Net → Net → Item → Type 0
IsKept n m item = PassesBut covered (IsLost n m) item

-- what is lost is a list
lost-covered : (n m : Net) (item : Item) → IsLost n m item → covered item ≡ true
lost-covered n m item lost = repaired-least n item lost.0.0 lost.0.1

-- ---- repairs that are kept have the same names in both nets

-- the other net's item under the name of a kept one is kept too
kept-there : (n m : Net) (xs ys : List Item) → IsAudit n xs → IsAudit m ys → (k : ℕ) (x : Item) → slice_get xs k ≡ Some x → IsKept n m x
    → (j : ℕ) × (y : Item) × (slice_get ys j ≡ Some y) × (item_name m y ≡ item_name n x) × IsKept m n y
kept-there n m xs ys p q k x e kept = ⊎_elim
    (λ there.
    let here = least-repaired n x kept.0 in
    let back : IsLost m n there.1 → ⊥ = λ lost. lost.1 here.0 (x, p.each k x e, sym there.3.1, here.1) in
    (there.0, there.1, there.2, there.3.1, (there.3.0, back)))
    (λ none. absurd (kept.1 (least-repaired n x kept.0, none)))
    (repair-cases m ys (item_name n x) q)

-- a member of a list of names is a member's name
name-at : (n : Net) (xs : List Item) (k : ℕ) (name : ItemName) → slice_get (map (item_name n) xs) k ≡ Some name → (x : Item) × (slice_get xs k ≡ Some x) × (item_name n x ≡ name)
name-at n [] k name e = absurd (cc (e))
name-at n (x ∷ xs) zero name e = (x, refl, same_Some (item_name n x) name e)
name-at n (x ∷ xs) (suc k) name e = name-at n xs k name e

-- the names of those that are kept are among those of the other net's
names-among : (n m : Net) (xs ys ps qs : List Item) → IsAudit n xs → IsAudit m ys → AreSuch (IsKept n m) xs ps → AreSuch (IsKept m n) ys qs → AreAmong (map (item_name n) ps) (map (item_name m) qs)
names-among n m xs ys ps qs p q a b k name e =
    let at = name-at n ps k name e in
    let here = those-in (IsKept n m) xs ps a k at.0 at.1 in
    let there = kept-there n m xs ys p q here.0.0 at.0 here.0.1 here.1 in
    let also = in-those (IsKept m n) ys qs b there.0 there.1 there.2 there.4 in
    (also.0, slice_get-map (item_name m) qs also.0 ∙ ap (option_map (item_name m)) also.1 ∙ ap Some (there.3 ∙ at.2))

-- they ascend
names-up : (n m : Net) (xs ps : List Item) → IsNet n → IsAudit n xs → AreSuch (IsKept n m) xs ps → Ascends NameLt (map (item_name n) ps)
names-up n m xs ps net p a i j one two lt ei ej =
    let x = name-at n ps i one ei in
    let y = name-at n ps j two ej in
    let xin = those-in (IsKept n m) xs ps a i x.0 x.1 in
    let yin = those-in (IsKept n m) xs ps a j y.0 y.1 in
    let up = those-ascend ItemLt (IsKept n m) xs ps p.ascending a i j x.0 y.0 lt x.1 y.1 in
    subst (λ (z : ItemName). NameLt z two) x.2 (subst (λ (z : ItemName). NameLt (item_name n x.0) z) y.2
    (names-ascend n x.0 y.0 net (p.each xin.0.0 x.0 xin.0.1) (p.each yin.0.0 y.0 yin.0.1) up))

-- both nets keep as many
kept-many : (n m : Net) (xs ys ps qs : List Item) → IsNet n → IsNet m → IsAudit n xs → IsAudit m ys → AreSuch (IsKept n m) xs ps → AreSuch (IsKept m n) ys qs → length ps ≡ length qs
kept-many n m xs ys ps qs net net' p q a b =
    let names : map (item_name n) ps ≡ map (item_name m) qs = ascending-one NameLt name-irrefl name-trans (map (item_name n) ps) (map (item_name m) qs)
    (names-up n m xs ps net p a) (names-up m n ys qs net' q b)
    (names-among n m xs ys ps qs p q a b) (names-among m n ys xs qs ps q p b a) in
    sym (length-map ps (item_name n)) ∙ ap (λ (zs : List ItemName). length zs) names ∙ length-map qs (item_name m)

-- ---- a repair that is kept is changed or the same

either-kept : (old new : Net) (item : Item) → IsOther old new item ⊎ IsSame old new item → IsKept new old item
either-kept old new item (inl other) = (repaired-least new item other.1 other.3, other-gained old new item other)
either-kept old new item (inr same) = (repaired-least new item same.0 same.2, same-gained old new item same)

-- a kept one has a repair in each net, and these differ or are the same
kept-either : (old new : Net) (before after : List Item) → IsAudit old before → IsAudit new after → (k : ℕ) (item : Item) → slice_get after k ≡ Some item → IsKept new old item → (IsOther old new item → ⊥) → (IsSame old new item → ⊥) → ⊥
kept-either old new before after p q k item e kept not_other not_same =
    let mine = least-repaired new item kept.0 in
    let there = kept-there new old after before q p k item e kept in
    let yours = least-repaired old there.1 there.4.0 in
    let has : HasRepair old (item_name new item) yours.0 = (there.1, p.each there.0 there.1 there.2, there.3, yours.1) in
    not_other (yours.0, mine.0, has, mine.1, λ (same : yours.0 ≡ mine.0). not_same (yours.0, has, mine.1 ∙ ap Some (sym same)))

pub diffs-add-up : DiffsAddUp
diffs-add-up old new before after diff net net' p q is =
    let same_before : is.before ≡ before = audit-one old is.before before is.old_audit p in
    let same_after : is.after ≡ after = audit-one new is.after after is.new_audit q in
    let lost = those-rest covered (IsLost old new) before diff.lost (lost-covered old new) (subst (λ (xs : List Item). AreSuch (IsLost old new) xs diff.lost) same_before is.lost) in
    let gained = those-rest covered (IsLost new old) after diff.gained (lost-covered new old) (subst (λ (xs : List Item). AreSuch (IsLost new old) xs diff.gained) same_after is.gained) in
    let changed = subst (λ (xs : List Item). AreSuch (IsOther old new) xs (map after_of diff.changed)) same_after is.changed in
    let same = subst (λ (xs : List Item). AreSuch (IsSame old new) xs is.same.0) same_after is.same.1 in
    let parts = those-split (IsOther old new) (IsSame old new) (IsKept new old) after (map after_of diff.changed) is.same.0 gained.0
    (λ k item e other alike. same-other old new item net alike other) (λ k item e either. either-kept old new item either) (kept-either old new before after p q) changed same gained.1 in
    let many = kept-many old new before after lost.0 gained.0 net net' p q lost.1 gained.1 in
    let pairs : length (map after_of diff.changed) ≡ length diff.changed = length-map diff.changed after_of in
    (omega (arith, lost.2, many, parts, pairs, is.same.2), omega (arith, gained.2, parts, pairs, is.same.2))
