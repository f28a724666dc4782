-- Names of one pair are apart, and so each note is taken once at most.
use Rattle.std.proofs.Common.{◌≡◌, ℕ, ◌+◌, ◌≤◌, Bool, true, false, cond, List, [], ◌∷◌, map, filter, length, length-append, refl, arith, ap, sym, ◌∙◌}
use Rattle.std.specs.List.{AllByRecursion}
use Rattle.std.specs.List.Sorted.{IsStrictlySortedBy}
use Rattle.std.specs.Ordering.{is_eq, ordering_then}
use Rattle.std.specs.declared.cmp.Ordering.{Ordering}
use Rattle.std.specs.declared.cmp.Ordering.TheVariants.{Less, Equal, Greater}
use Rattle.std.proofs.lemmas.Cmp.{eq_by_cmp_equiv}
use Rattle.sr_model.specs.declared.name.PairKey.{PairKey}
use Rattle.sr_lsdb.specs.Order.{pair_cmp}
use Rattle.sr_lsdb.proofs.OrderLemmas.{pair_total}
use Rattle.sr_domain.specs.declared.names.PairName.{PairName}
use Rattle.sr_domain.specs.declared.risks.RiskName.{RiskName}
use Rattle.sr_domain.specs.declared.risks.RiskNote.{RiskNote}
use Rattle.sr_domain.specs.Groups.{name_cmp, same_name}
use Rattle.sr_domain.specs.GroupTables.{NamesAscend, groups_said, is_of, is_under, link_name, note_group, pair_name_cmp}
use Rattle.sr_domain.proofs.GroupsLemmas.{name_total}

-- the names of one pair ascend
then-less : (r s : Ordering) → is_eq r ≡ true → ordering_then r s ≡ Less → s ≡ Less
then-less Less s h e = absurd (cc)
then-less Equal s h e = e
then-less Greater s h e = absurd (cc)

name-less : (pair : PairKey) (a b : PairName) → is_of pair a ≡ true → is_of pair b ≡ true → pair_name_cmp a b ≡ Less → name_cmp a.name b.name ≡ Less
name-less pair a b of_a of_b e = then-less (pair_cmp a.pair b.pair) (name_cmp a.name b.name) (sym ((eq_by_cmp_equiv pair_total).congr pair a.pair b.pair of_a) ∙ of_b) e

names-below : (pair : PairKey) (a : PairName) → is_of pair a ≡ true → (ns : List PairName) → AllByRecursion (λ (y : PairName). pair_name_cmp a y ≡ Less) ns → AllByRecursion (λ (m : RiskName). name_cmp a.name m ≡ Less) (map link_name (filter (is_of pair) ns))
names-below pair a of_a [] all = tt
names-below pair a of_a (n ∷ ns) all = by (names-below pair a of_a ns all.1) (is_of pair n) refl
  where
    by : AllByRecursion (λ (m : RiskName). name_cmp a.name m ≡ Less) (map link_name (filter (is_of pair) ns)) → (b : Bool) → is_of pair n ≡ b → AllByRecursion (λ (m : RiskName). name_cmp a.name m ≡ Less) (map link_name (cond b (n ∷ filter (is_of pair) ns) (filter (is_of pair) ns)))
    by rest true of_n = (name-less pair a n of_a of_n all.0, rest)
    by rest false of_n = rest

pub names-apart : (pair : PairKey) (ns : List PairName) → IsStrictlySortedBy pair_name_cmp ns → NamesAscend (filter (is_of pair) ns)
unfolding IsStrictlySortedBy
names-apart pair [] up = tt
names-apart pair (n ∷ ns) up = by (names-apart pair ns up.1) (is_of pair n) refl
  where
    by : NamesAscend (filter (is_of pair) ns) → (b : Bool) → is_of pair n ≡ b → NamesAscend (cond b (n ∷ filter (is_of pair) ns) (filter (is_of pair) ns))
    by rest true of_n = (names-below pair n of_n ns up.0, rest)
    by rest false of_n = rest

-- how many of the names the note is under
abbrev hits : RiskNote → List PairName → ℕ
hits note [] = 0
hits note (n ∷ ns) = cond (is_under n.name note) 1 0 + hits note ns

no-hits : (note : RiskNote) (name : RiskName) → same_name name note.name ≡ true → (ns : List PairName) → AllByRecursion (λ (m : RiskName). name_cmp name m ≡ Less) (map link_name ns) → hits note ns ≡ 0
no-hits note name same [] all = refl
no-hits note name same (n ∷ ns) all = by (no-hits note name same ns all.1) (is_under n.name note) refl
  where
    differ : (r : Ordering) → r ≡ Less → is_eq r ≡ true → ⊥
    differ Less e f = absurd (cc)
    differ Equal e f = absurd (cc)
    differ Greater e f = absurd (cc)

    by : hits note ns ≡ 0 → (b : Bool) → is_under n.name note ≡ b → cond b 1 0 + hits note ns ≡ 0
    by rest false e = omega arith
    by rest true e = absurd (differ (name_cmp name n.name) all.0 ((eq_by_cmp_equiv name_total).congr name note.name n.name same ∙ (eq_by_cmp_equiv name_total).symm note.name n.name ∙ e))

few-hits : (note : RiskNote) (ns : List PairName) → NamesAscend ns → hits note ns ≤ 1
unfolding IsStrictlySortedBy
few-hits note [] up = omega arith
few-hits note (n ∷ ns) up = by (few-hits note ns up.1) (is_under n.name note) refl
  where
    by : hits note ns ≤ 1 → (b : Bool) → is_under n.name note ≡ b → cond b 1 0 + hits note ns ≤ 1
    by rest false e = omega arith
    by rest true e = let none : hits note ns ≡ 0 = no-hits note n.name e ns up.0 in omega arith

-- one more note
said-none : (ns : List PairName) → length (groups_said ns []) ≡ 0
said-none [] = refl
said-none (n ∷ ns) = said-none ns

said-more : (ns : List PairName) (note : RiskNote) (notes : List RiskNote) → length (groups_said ns (note ∷ notes)) ≡ hits note ns + length (groups_said ns notes)
said-more [] note notes = refl
said-more (n ∷ ns) note notes =
    let rest : length (groups_said ns (note ∷ notes)) ≡ hits note ns + length (groups_said ns notes) = said-more ns note notes in
    length-append (map note_group (filter (is_under n.name) (note ∷ notes))) (groups_said ns (note ∷ notes))
    ∙ by rest (is_under n.name note)
    ∙ ap (λ k. cond (is_under n.name note) 1 0 + hits note ns + k) (sym (length-append (map note_group (filter (is_under n.name) notes)) (groups_said ns notes)))
  where
    by : length (groups_said ns (note ∷ notes)) ≡ hits note ns + length (groups_said ns notes) → (b : Bool) → length (map note_group (cond b (note ∷ filter (is_under n.name) notes) (filter (is_under n.name) notes))) + length (groups_said ns (note ∷ notes)) ≡ cond b 1 0 + hits note ns + (length (map note_group (filter (is_under n.name) notes)) + length (groups_said ns notes))
    by rest true = omega arith
    by rest false = omega arith

pub said-bound : (ns : List PairName) (notes : List RiskNote) → NamesAscend ns → length (groups_said ns notes) ≤ length notes
said-bound ns [] up = omega (arith, said-none ns)
said-bound ns (note ∷ notes) up = omega (arith, said-more ns note notes, few-hits note ns up, said-bound ns notes up)
