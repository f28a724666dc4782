-- The groups of pairs, by the names of their announcements.
use Rattle.std.proofs.Common.{◌≡◌, ℕ, ◌+◌, arith, ◌||◌, ◌&&◌, Bool, true, false, cond, List, [], ◌∷◌, ◌++◌, map, filter, length, get_or, Option, Some, None, refl, ap, sym, ◌∙◌, append_assoc}
use Rattle.std.specs.Cmp.{IsTotalOrder, IsEquivalence, both_ways}
use Rattle.std.specs.List.{list_any, dedup}
use Rattle.std.specs.List.Sorted.{IsPermutation, IsSorted, IsSortedBy, IsStrictlyIncreasing, IsStrictlySortedBy}
use Rattle.std.specs.Ordering.{bool_cmp, eq_by_cmp, is_eq, is_lt, nat_cmp, ordering_reverse, ordering_then}
use Rattle.std.specs.declared.cmp.Ordering.{Ordering}
use Rattle.std.specs.declared.cmp.Ordering.TheVariants.{Less, Equal, Greater}
use Rattle.std.proofs.lemmas.Cmp.{tied_itself, eq_by_cmp_equiv, nat_cmp_total}
use Rattle.std.proofs.lemmas.List.Folds.{list_any-append}
use Rattle.std.proofs.lemmas.List.Kept.{Contains-dedup, Contains-from_dedup, IsStrictlySortedBy-dedup}
use Rattle.std.proofs.lemmas.List.Sorted.{list_any-IsPermutation}
use Rattle.std.proofs.lemmas.Map.Keys.{IsStrictlyIncreasing-from_sorted, Less-from_sorted}
use Rattle.std.proofs.lemmas.Map.Lookups.{CmpEqualImpliesEq, exact_pairs, exact_unsigned}
use Rattle.std.specs.Cmp.{Equal-is}
use Rattle.sr_model.specs.declared.name.PairKey.{PairKey}
use Rattle.sr_lsdb.specs.declared.announcement.Announcement.{Announcement}
use Rattle.sr_domain.specs.declared.groups.RiskTable.{RiskTable}
use Rattle.sr_domain.specs.declared.risks.RiskNote.{RiskNote}
use Rattle.sr_domain.specs.declared.risks.RiskName.{RiskName}
use Rattle.sr_domain.specs.declared.names.PairName.{PairName}
use Rattle.sr_domain.specs.contracts.names.PairNameOrd.TheImpl.Laws as pair_name_laws
use Rattle.sr_domain.specs.contracts.risks.RiskNoteOrd.TheImpl as risk_note
use Rattle.sr_domain.specs.contracts.risks.RiskNoteOrd.TheImpl.Laws as note_laws
use Rattle.sr_domain.specs.contracts.risks.RiskNameOrd.TheImpl.Laws as name_laws
use Rattle.sr_model.specs.Key.{pair_of}
use Rattle.sr_lsdb.specs.Order.{pair_cmp}
use Rattle.sr_lsdb.proofs.OrderLemmas.{pair_total, pair_exact}
use Rattle.sr_domain.proofs.DeterminedLists.{sorted-one}
use Rattle.sr_domain.proofs.KeyLemmas.{any-to, any-from}
use Rattle.sr_domain.proofs.NumbersLemmas.{ascending-has, ascending-rises}
use Rattle.sr_domain.specs.Groups.{name_cmp, is_name, numbered_name, unnumbered_name, speaks_of, same_pair, same_number, is_group_of}
use Rattle.sr_domain.specs.GroupTables.{AreNotesInOrder, GivesGroups, HaveSameNames, HaveSameNotes, IsRiskTable, ascending, groups_in, groups_said, is_noted, is_of, is_under, named, names_from, note_group, pair_name_cmp}

pub name_total : IsTotalOrder name_cmp
name_total = name_laws.total-law

abbrev pub note_cmp : RiskNote → RiskNote → Ordering
note_cmp = risk_note.cmp-value.it

note_total : IsTotalOrder note_cmp
note_total = note_laws.total-law

pair_name_total : IsTotalOrder pair_name_cmp
pair_name_total = pair_name_laws.total-law

or_mixed : (b x y u v : Bool) → ((b && x || u) || (b && y || v)) ≡ (b && (x || y) || (u || v))
or_mixed true true y u v = refl
or_mixed true false true true v = refl
or_mixed true false true false v = refl
or_mixed true false false u v = refl
or_mixed false x y u v = refl

pub any-same : {X : Type 0} (xs : List X) (f g : X → Bool) → ((x : X) → f x ≡ g x) → list_any f xs ≡ list_any g xs
any-same [] f g h = refl
any-same (x ∷ xs) f g h = ap (λ b. b || list_any f xs) (h x) ∙ ap (λ b. g x || b) (any-same xs f g h)

any-or : {X : Type 0} (b x y : X → Bool) (xs : List X) → (list_any (λ z. b z && x z) xs || list_any (λ z. b z && y z) xs) ≡ list_any (λ z. b z && (x z || y z)) xs
any-or b x y [] = refl
any-or b x y (z ∷ zs) = or_mixed (b z) (x z) (y z) (list_any (λ z. b z && x z) zs) (list_any (λ z. b z && y z) zs) ∙ ap (λ t. b z && (x z || y z) || t) (any-or b x y zs)

and_false : (b : Bool) → false ≡ (b && false)
and_false true = refl
and_false false = refl

-- without a name nothing is noted
not-noted : (notes : List RiskNote) (v : ℕ) → is_noted notes None v ≡ false
not-noted [] v = refl
not-noted (n ∷ ns) v = ap (λ b. b || is_noted ns None v) (sym (and_false (same_number v n.group))) ∙ not-noted ns v

-- the groups of notes under a name
any-under : (notes : List RiskNote) (name : RiskName) (v : ℕ) → list_any (same_number v) (map note_group (filter (is_under name) notes)) ≡ is_noted notes (Some name) v
any-under [] name v = refl
any-under (n ∷ ns) name v = by (any-under ns name v) (is_under name n)
  where
    kept : (s x r : Bool) → x ≡ r → (s || x) ≡ (s && true || r)
    kept true x r e = refl
    kept false x r e = e

    left : (s x r : Bool) → x ≡ r → x ≡ (s && false || r)
    left true x r e = e
    left false x r e = e

    by : list_any (same_number v) (map note_group (filter (is_under name) ns)) ≡ is_noted ns (Some name) v → (b : Bool) → list_any (same_number v) (map note_group (cond b (n ∷ filter (is_under name) ns) (filter (is_under name) ns))) ≡ (same_number v n.group && b || is_noted ns (Some name) v)
    by rest true = kept (same_number v n.group) (list_any (same_number v) (map note_group (filter (is_under name) ns))) (is_noted ns (Some name) v) rest
    by rest false = left (same_number v n.group) (list_any (same_number v) (map note_group (filter (is_under name) ns))) (is_noted ns (Some name) v) rest

-- the groups that notes give names
any-said : (names : List PairName) (notes : List RiskNote) (v : ℕ) → list_any (same_number v) (groups_said names notes) ≡ list_any (λ (n : PairName). is_noted notes (Some n.name) v) names
any-said [] notes v = refl
any-said (n ∷ ns) notes v =
    list_any-append (same_number v) (map note_group (filter (is_under n.name) notes)) (groups_said ns notes)
    ∙ ap (λ b. b || list_any (same_number v) (groups_said ns notes)) (any-under notes n.name v)
    ∙ ap (λ b. is_noted notes (Some n.name) v || b) (any-said ns notes v)

-- what a test finds among the names of a pair
any-of : (pair : PairKey) (test : PairName → Bool) (names : List PairName) → list_any test (filter (is_of pair) names) ≡ list_any (λ (n : PairName). same_pair pair n.pair && test n) names
any-of pair test [] = refl
any-of pair test (n ∷ ns) = by (any-of pair test ns) (is_of pair n)
  where
    by : list_any test (filter (is_of pair) ns) ≡ list_any (λ (m : PairName). same_pair pair m.pair && test m) ns → (b : Bool) → list_any test (cond b (n ∷ filter (is_of pair) ns) (filter (is_of pair) ns)) ≡ (b && test n || list_any (λ (m : PairName). same_pair pair m.pair && test m) ns)
    by rest true = ap (λ b. test n || b) rest
    by rest false = rest

spoken : (notes : List RiskNote) (a : Announcement) (g : ℕ) → (is_noted notes (numbered_name a) g || is_noted notes (unnumbered_name a) g) ≡ list_any (λ (n : RiskNote). same_number g n.group && speaks_of n a) notes
spoken notes a g = any-or (λ (n : RiskNote). same_number g n.group) (λ (n : RiskNote). is_name n.name (numbered_name a)) (λ (n : RiskNote). is_name n.name (unnumbered_name a)) notes

-- the names of the announcements stand for them
or_both : (p s t b : Bool) → (p && s || (p && t || b)) ≡ (p && (s || t) || b)
or_both true true t b = refl
or_both true false t b = refl
or_both false s t b = refl

any-named : (notes : List RiskNote) (q pair : PairKey) (o : Option RiskName) (g : ℕ) (rest : List PairName) → list_any (λ (n : PairName). same_pair q n.pair && is_noted notes (Some n.name) g) (named pair o ++ rest) ≡ (same_pair q pair && is_noted notes o g || list_any (λ (n : PairName). same_pair q n.pair && is_noted notes (Some n.name) g) rest)
any-named notes q pair None g rest = ap (λ b. b || list_any (λ (n : PairName). same_pair q n.pair && is_noted notes (Some n.name) g) rest) (and_false (same_pair q pair) ∙ ap (λ b. same_pair q pair && b) (sym (not-noted notes g)))
any-named notes q pair (Some name) g rest = refl

any-names : (notes : List RiskNote) (q : PairKey) (g : ℕ) (anns : List Announcement) → list_any (λ (n : PairName). same_pair q n.pair && is_noted notes (Some n.name) g) (names_from anns) ≡ is_group_of anns notes q g
any-names notes q g [] = refl
any-names notes q g (a ∷ anns) =
    let test : PairName → Bool = λ n. same_pair q n.pair && is_noted notes (Some n.name) g in
    let pair : PairKey = pair_of a.key in
    ap (list_any test) (append_assoc (named pair (numbered_name a)) (named pair (unnumbered_name a)) (names_from anns))
    ∙ any-named notes q pair (numbered_name a) g (named pair (unnumbered_name a) ++ names_from anns)
    ∙ ap (λ b. same_pair q pair && is_noted notes (numbered_name a) g || b) (any-named notes q pair (unnumbered_name a) g (names_from anns))
    ∙ or_both (same_pair q pair) (is_noted notes (numbered_name a) g) (is_noted notes (unnumbered_name a) g) (list_any test (names_from anns))
    ∙ ap (λ b. same_pair q pair && b || list_any test (names_from anns)) (spoken notes a g)
    ∙ ap (λ b. same_pair q pair && list_any (λ (n : RiskNote). same_number g n.group && speaks_of n a) notes || b) (any-names notes q g anns)

-- without notes there are no groups
pub none-spoken : (anns : List Announcement) (pair : PairKey) (g : ℕ) → is_group_of anns [] pair g ≡ false
none-spoken [] pair g = refl
none-spoken (a ∷ anns) pair g = ap (λ b. b || is_group_of anns [] pair g) (sym (and_false (same_pair pair (pair_of a.key)))) ∙ none-spoken anns pair g

-- names in strict order are in order of pairs
first-no_later : (r s : Ordering) → ordering_then r s ≡ Less → is_lt (ordering_reverse r) ≡ false
first-no_later Less s e = refl
first-no_later Equal s e = refl
first-no_later Greater s e = absurd (cc)

pub pairs-in_order : (ns : List PairName) → IsStrictlySortedBy pair_name_cmp ns → IsSortedBy (λ (a b : PairName). is_lt (pair_cmp a.pair b.pair)) ns
pairs-in_order ns up k d low high =
    let a : PairName = get_or ns k d in
    let b : PairName = get_or ns (k + 1) d in
    let less : pair_name_cmp a b ≡ Less = Less-from_sorted pair_name_cmp ns k (k + 1) d up (omega arith) high in
    ap is_lt (pair_total.antisymm b.pair a.pair) ∙ first-no_later (pair_cmp a.pair b.pair) (name_cmp a.name b.name) less

-- a sort and a dedup keep what a test finds
pub any-kept : {X : Type 0} {R : X → X → Ordering} (o : IsTotalOrder R) → CmpEqualImpliesEq R → (eq : X → X → Bool) → ((a b : X) → eq a b ≡ eq_by_cmp R a b) → (xs sorted : List X) → IsPermutation xs sorted → (p : X → Bool) → list_any p (dedup eq sorted) ≡ list_any p xs
any-kept {X} {R} o exact eq ties xs sorted moved p =
    both_ways (list_any p (dedup eq sorted)) (list_any p sorted)
    (λ h. let r = any-to p (dedup eq sorted) h in any-from p sorted r.0 (Contains-from_dedup eq sorted r.0 r.1) r.2)
    (λ h. let r = any-to p sorted h in any-from p (dedup eq sorted) r.0 (Contains-dedup equivalence same sorted r.0 r.1) r.2)
    ∙ sym (list_any-IsPermutation p xs sorted moved)
  where
    equivalence : IsEquivalence eq
    equivalence = record {
      refl = λ x. ties x x ∙ ap is_eq (tied_itself o x);
      symm = λ x y. ties x y ∙ (eq_by_cmp_equiv o).symm x y ∙ sym (ties y x);
      congr = λ x y z e. ties x z ∙ (eq_by_cmp_equiv o).congr x y z (sym (ties x y) ∙ e) ∙ sym (ties y z);
    }

    same : (a b : X) → eq a b ≡ true → a ≡ b
    same a b e = exact a b ((Equal-is (R a b)).0 (sym (ties a b) ∙ e))

-- names and notes in order of names
exact_bool : CmpEqualImpliesEq bool_cmp
exact_bool true true e = refl
exact_bool true false e = absurd (cc)
exact_bool false true e = absurd (cc)
exact_bool false false e = refl

abbrev numbers_cmp : ℕ × ℕ → ℕ × ℕ → Ordering
numbers_cmp x y = ordering_then (nat_cmp x.0 y.0) (nat_cmp x.1 y.1)

abbrev labels_cmp : Bool × (ℕ × ℕ) → Bool × (ℕ × ℕ) → Ordering
labels_cmp x y = ordering_then (bool_cmp x.0 y.0) (numbers_cmp x.1 y.1)

abbrev ends_cmp : ℕ × (Bool × (ℕ × ℕ)) → ℕ × (Bool × (ℕ × ℕ)) → Ordering
ends_cmp x y = ordering_then (nat_cmp x.0 y.0) (labels_cmp x.1 y.1)

pub name_exact : CmpEqualImpliesEq name_cmp
name_exact a b h = ap made (exact_pairs nat_cmp ends_cmp exact_unsigned (exact_pairs nat_cmp labels_cmp exact_unsigned (exact_pairs bool_cmp numbers_cmp exact_bool (exact_pairs nat_cmp nat_cmp exact_unsigned exact_unsigned))) (parts a) (parts b) h)
  where
    parts : RiskName → ℕ × (ℕ × (Bool × (ℕ × ℕ)))
    parts n = (n.from, (n.to, (n.numbered, (n.local, n.remote))))

    made : ℕ × (ℕ × (Bool × (ℕ × ℕ))) → RiskName
    made n = record { from = n.0; to = n.1.0; numbered = n.1.1.0; local = n.1.1.1.0; remote = n.1.1.1.1 }

note_exact : CmpEqualImpliesEq note_cmp
note_exact a b h = ap made (exact_pairs name_cmp nat_cmp name_exact exact_unsigned (a.name, a.group) (b.name, b.group) h)
  where
    made : RiskName × ℕ → RiskNote
    made n = record { name = n.0; group = n.1 }

pub notes-kept : (eq : RiskNote → RiskNote → Bool) → ((a b : RiskNote) → eq a b ≡ eq_by_cmp note_cmp a b) → (notes sorted : List RiskNote) → IsPermutation notes sorted → HaveSameNotes notes (dedup eq sorted)
notes-kept eq ties notes sorted moved = any-kept note_total note_exact eq ties notes sorted moved

pub notes-in_order : (eq : RiskNote → RiskNote → Bool) → ((a b : RiskNote) → eq a b ≡ eq_by_cmp note_cmp a b) → (sorted : List RiskNote) → IsSorted note_cmp sorted → AreNotesInOrder (dedup eq sorted)
notes-in_order eq ties sorted up k d low high =
    let ns : List RiskNote = dedup eq sorted in
    let a : RiskNote = get_or ns k d in
    let b : RiskNote = get_or ns (k + 1) d in
    let less : note_cmp a b ≡ Less = Less-from_sorted note_cmp ns k (k + 1) d (IsStrictlySortedBy-dedup note_total ties sorted up) (omega arith) high in
    ap is_lt (name_total.antisymm b.name a.name) ∙ first-no_later (name_cmp a.name b.name) (nat_cmp a.group b.group) less

name-exact_pairs : CmpEqualImpliesEq pair_name_cmp
name-exact_pairs a b h = ap made (exact_pairs pair_cmp name_cmp pair_exact name_exact (a.pair, a.name) (b.pair, b.name) h)
  where
    made : PairKey × RiskName → PairName
    made n = record { pair = n.0; name = n.1 }

pub names-kept : (eq : PairName → PairName → Bool) → ((a b : PairName) → eq a b ≡ eq_by_cmp pair_name_cmp a b) → (names sorted : List PairName) → IsPermutation names sorted → HaveSameNames names (dedup eq sorted)
names-kept eq ties names sorted moved = any-kept pair_name_total name-exact_pairs eq ties names sorted moved

pub names-once : (eq : PairName → PairName → Bool) → ((a b : PairName) → eq a b ≡ eq_by_cmp pair_name_cmp a b) → (sorted : List PairName) → IsSorted pair_name_cmp sorted → IsStrictlySortedBy pair_name_cmp (dedup eq sorted)
names-once eq ties sorted up = IsStrictlySortedBy-dedup pair_name_total ties sorted up

pub groups-ascend : (table : RiskTable) (pair : PairKey) → IsStrictlyIncreasing (groups_in table pair)
groups-ascend table pair = IsStrictlyIncreasing-from_sorted (groups_in table pair) (ascending-rises (groups_said (filter (is_of pair) table.names.items) table.notes.items))

pub ascending-is : (eq : ℕ → ℕ → Bool) → ((a b : ℕ) → eq a b ≡ eq_by_cmp nat_cmp a b) → (ns sorted : List ℕ) → IsPermutation ns sorted → IsSorted nat_cmp sorted → dedup eq sorted ≡ ascending ns
ascending-is eq ties ns sorted moved up = sorted-one nat_cmp_total exact_unsigned (dedup eq sorted) (ascending ns) (IsStrictlySortedBy-dedup nat_cmp_total ties sorted up) (ascending-rises ns)
    (λ v. any-kept nat_cmp_total exact_unsigned eq ties ns sorted moved (same_number v) ∙ sym (ascending-has v ns))

-- from the names to the announcements
pub groups-given : (table : RiskTable) (anns : List Announcement) (said : List RiskNote) → HaveSameNotes said table.notes.items → HaveSameNames (names_from anns) table.names.items → GivesGroups (groups_in table) anns said
groups-given table anns said same its = λ p g.
    let notes : List RiskNote = table.notes.items in
    let noted : PairName → Bool = λ n. is_noted notes (Some n.name) g in
    ascending-has g (groups_said (filter (is_of p) table.names.items) notes)
    ∙ any-said (filter (is_of p) table.names.items) notes g
    ∙ any-of p noted table.names.items
    ∙ its (λ n. same_pair p n.pair && noted n)
    ∙ any-names notes p g anns
    ∙ any-same anns (tested notes p g) (tested said p g) (λ a. ap (λ b. same_pair p (pair_of a.key) && b) (same (λ (n : RiskNote). same_number g n.group && speaks_of n a)))
  where
    tested : List RiskNote → PairKey → ℕ → Announcement → Bool
    tested notes pair g a = same_pair pair (pair_of a.key) && list_any (λ (n : RiskNote). same_number g n.group && speaks_of n a) notes

-- a table without names and notes
none-ascend : (ns : List PairName) → ns ≡ [] → IsStrictlySortedBy pair_name_cmp ns
unfolding IsStrictlySortedBy
none-ascend [] e = tt
none-ascend (n ∷ ns) e = absurd (cc)

pub no-table : (table : RiskTable) → table.names.items ≡ [] → table.notes.items ≡ [] → IsRiskTable table
no-table table none silent = record { names = none-ascend table.names.items none; notes = λ k d low high. absurd (omega (arith, ap length silent)) }

pub none-given : (table : RiskTable) (anns : List Announcement) (said : List RiskNote) → table.names.items ≡ [] → said ≡ [] → GivesGroups (groups_in table) anns said
none-given table anns said none silent = λ p g.
    ap (λ (ns : List PairName). list_any (same_number g) (ascending (groups_said (filter (is_of p) ns) table.notes.items))) none
    ∙ sym (ap (λ (ns : List RiskNote). is_group_of anns ns p g) silent ∙ none-spoken anns p g)
