-- Lists in strict order that hold the same are the same.
use Rattle.std.proofs.Common.{◌≡◌, ℕ, List, ap, sym, ◌∙◌, Some}
use Rattle.std.specs.Prelude.{Contains}
use Rattle.std.specs.Cmp.{IsTotalOrder}
use Rattle.std.specs.List.{list_any}
use Rattle.std.specs.List.Sorted.{IsPermutation, IsStrictlySortedBy}
use Rattle.std.specs.Ordering.{eq_by_cmp}
use Rattle.std.specs.declared.cmp.Ordering.{Ordering}
use Rattle.std.proofs.lemmas.Cmp.{nat_cmp_total}
use Rattle.std.proofs.lemmas.List.Sorted.{Contains-permutation}
use Rattle.std.proofs.lemmas.Map.Keys.{sorted_from_strictly_increasing}
use Rattle.std.proofs.lemmas.Map.Lookups.{CmpEqualImpliesEq, btree_set_from_contains, exact_unsigned}
use Rattle.std.proofs.lemmas.Option.{slice_get-get_or, slice_get_within, get_or_from_slice_get}
use Rattle.sr_model.specs.declared.name.LinkKey.{LinkKey}
use Rattle.sr_model.specs.declared.name.PairKey.{PairKey}
use Rattle.sr_model.proofs.KeyOrderLemmas.{key_total, key-from_cmp}
use Rattle.sr_laws.proofs.Ascending.{AreAmong}
use Rattle.sr_lsdb.specs.declared.facts.Facts.{Facts}
use Rattle.sr_lsdb.specs.declared.announcement.Announcement.{Announcement}
use Rattle.sr_domain.specs.Announced.{AreKeysOf}
use Rattle.sr_domain.specs.Groups.{AreGroupsOf}

-- two lists in strict order are the same where each key stands in both or in neither
pub sorted-one : {K : Type 0} {R : K → K → Ordering} → IsTotalOrder R → CmpEqualImpliesEq R → (xs ys : List K) → IsStrictlySortedBy R xs → IsStrictlySortedBy R ys → ((key : K) → list_any (eq_by_cmp R key) xs ≡ list_any (eq_by_cmp R key) ys) → xs ≡ ys
sorted-one total exact xs ys up vp same = btree_set_from_contains total (record { keys = xs }) (record { keys = ys }) up vp same exact

-- announcements have one list of keys
pub keys-one : (announcements : List Announcement) (xs ys : List LinkKey) → AreKeysOf announcements xs → AreKeysOf announcements ys → xs ≡ ys
keys-one announcements xs ys a b = sorted-one key_total key-from_cmp xs ys a.ascending b.ascending (λ key. a.each key ∙ sym (b.each key))

-- a pair has one list of groups
pub groups-one : (facts : Facts) (pair : PairKey) (xs ys : List ℕ) → AreGroupsOf facts pair xs → AreGroupsOf facts pair ys → xs ≡ ys
groups-one facts pair xs ys a b = sorted-one nat_cmp_total exact_unsigned xs ys (sorted_from_strictly_increasing xs a.ascending) (sorted_from_strictly_increasing ys b.ascending) (λ group. a.each group ∙ sym (b.each group))

-- what a list holds, its permutation holds
pub among-moved : {A : Type 0} (xs ys : List A) → IsPermutation xs ys → AreAmong xs ys
among-moved xs ys moved k a is =
    let c : Contains ys a = Contains-permutation xs ys a moved (k, slice_get_within xs k a is, get_or_from_slice_get xs k a a is) in
    (c.0, slice_get-get_or ys c.0 a c.1 ∙ ap Some c.2)
