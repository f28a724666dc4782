-- The distinct keys of announcements by a sort, and a key that is sought among them.
use Rattle.std.proofs.Common.{◌≡◌, ◌||◌, ℕ, ◌+◌, ◌<◌, ◌≤◌, ⊎_elim, Bool, true, false, List, [], ◌∷◌, map, length, get_or, refl, arith, ap, sym, ◌∙◌, subst, Err}
use Rattle.std.specs.Prelude.{Contains}
use Rattle.std.specs.Cmp.{both_ways, IsEquivalence}
use Rattle.std.specs.List.{list_any, dedup}
use Rattle.std.specs.List.Sorted.{IsPermutation, IsSorted, IsStrictlySortedBy, IsBinarySearchResult, IsPartitionPoint}
use Rattle.std.specs.Ordering.{is_eq, is_lt, ordering_reverse}
use Rattle.std.specs.declared.cmp.Ordering.TheVariants.{Less, Equal, Greater}
use Rattle.std.proofs.lemmas.Bool.{cases_lt}
use Rattle.std.proofs.lemmas.Cmp.{tied_itself, tied_back, eq_by_cmp_equiv}
use Rattle.std.proofs.lemmas.List.Folds.{list_any_at}
use Rattle.std.proofs.lemmas.List.Kept.{Contains-dedup, Contains-from_dedup, IsStrictlySortedBy-dedup}
use Rattle.std.proofs.lemmas.List.Sorted.{searchable_from_sorted, IsPermutation-sym, Contains-permutation}
use Rattle.std.proofs.lemmas.Map.Keys.{Less-from_sorted}
use Rattle.std.specs.Cmp.{Equal-is}
use Rattle.sr_model.specs.declared.name.LinkKey.{LinkKey}
use Rattle.sr_model.specs.KeyOrder.{key_cmp, same_key}
use Rattle.sr_model.proofs.KeyOrderLemmas.{key_total, key-from_cmp}
use Rattle.sr_lsdb.specs.declared.announcement.Announcement.{Announcement}
use Rattle.sr_domain.specs.Announced.{AreKeysOf, is_announced, announced_key}
use Rattle.sr_domain.proofs.MemberLemmas.{here, later, mapped-to, mapped-from}

pub same-from : (a b : LinkKey) → same_key a b ≡ true → a ≡ b
same-from a b e = key-from_cmp a b ((Equal-is (key_cmp a b)).0 e)

pub same-itself : (a : LinkKey) → same_key a a ≡ true
same-itself a = ap is_eq (tied_itself key_total a)

-- a test that some element passes
pub any-to : {X : Type 0} (p : X → Bool) (xs : List X) → list_any p xs ≡ true → (x : X) × Contains xs x × (p x ≡ true)
any-to p [] e = absurd (cc)
any-to {X} p (x ∷ xs) e = by (λ h. any-to p xs h) (p x) refl e
  where
    by : (list_any p xs ≡ true → (y : X) × Contains xs y × (p y ≡ true)) → (b : Bool) → p x ≡ b → (b || list_any p xs) ≡ true → (y : X) × Contains (x ∷ xs) y × (p y ≡ true)
    by rest true h g = (x, here x xs, h)
    by rest false h g = let r = rest g in (r.0, later x xs r.0 r.1, r.2)

pub any-from : {X : Type 0} (p : X → Bool) (xs : List X) (x : X) → Contains xs x → p x ≡ true → list_any p xs ≡ true
any-from p xs x c e = list_any_at p xs c.0 x c.1 (ap p c.2 ∙ e)

key-contained : (keys : List LinkKey) (key : LinkKey) → list_any (same_key key) keys ≡ true → Contains keys key
key-contained keys key e = let r = any-to (same_key key) keys e in subst (λ (k : LinkKey). Contains keys k) (sym (same-from key r.0 r.2)) r.1

pub keys-sorted : (eq : LinkKey → LinkKey → Bool) (ties : (a b : LinkKey) → eq a b ≡ same_key a b) (anns : List Announcement) (sorted : List LinkKey) → IsPermutation (map announced_key anns) sorted → IsSorted key_cmp sorted → AreKeysOf anns (dedup eq sorted)
keys-sorted eq ties anns sorted moved up = record {
  ascending = IsStrictlySortedBy-dedup key_total ties sorted up;
  each = λ key. both_ways (list_any (same_key key) (dedup eq sorted)) (is_announced anns key) (forth key) (back key);
}
  where
    equivalence : IsEquivalence eq
    equivalence = record {
      refl = λ x. ties x x ∙ same-itself x;
      symm = λ x y. ties x y ∙ (eq_by_cmp_equiv key_total).symm x y ∙ sym (ties y x);
      congr = λ x y z e. ties x z ∙ (eq_by_cmp_equiv key_total).congr x y z (sym (ties x y) ∙ e) ∙ sym (ties y z);
    }

    exact : (a b : LinkKey) → eq a b ≡ true → a ≡ b
    exact a b e = same-from a b (sym (ties a b) ∙ e)

    forth : (key : LinkKey) → list_any (same_key key) (dedup eq sorted) ≡ true → is_announced anns key ≡ true
    forth key e =
        let r = mapped-from announced_key anns key (Contains-permutation sorted (map announced_key anns) key (IsPermutation-sym (map announced_key anns) sorted moved) (Contains-from_dedup eq sorted key (key-contained (dedup eq sorted) key e))) in
        any-from (λ (a : Announcement). same_key key a.key) anns r.0 r.1 (ap (same_key key) r.2 ∙ same-itself key)

    back : (key : LinkKey) → is_announced anns key ≡ true → list_any (same_key key) (dedup eq sorted) ≡ true
    back key e =
        let r = any-to (λ (a : Announcement). same_key key a.key) anns e in
        let same : r.0.key ≡ key = sym (same-from key r.0.key r.2) in
        let there : Contains (map announced_key anns) key = subst (λ (k : LinkKey). Contains (map announced_key anns) k) same (mapped-to announced_key anns r.0 r.1) in
        let kept : Contains (dedup eq sorted) key = Contains-dedup equivalence exact sorted key (Contains-permutation (map announced_key anns) sorted key moved there) in
        any-from (same_key key) (dedup eq sorted) key kept (same-itself key)

pub sought-found : (keys : List LinkKey) (key : LinkKey) (at : ℕ) → at < length keys → ((d : LinkKey) → key_cmp (get_or keys at d) key ≡ Equal) → list_any (same_key key) keys ≡ true
sought-found keys key at within tied = list_any_at (same_key key) keys at key within (ap is_eq (tied_back key_total (get_or keys at key) key (tied key)))

in-order : (keys : List LinkKey) → IsStrictlySortedBy key_cmp keys → IsSorted key_cmp keys
in-order keys up k d low high =
    let less : key_cmp (get_or keys k d) (get_or keys (k + 1) d) ≡ Less = Less-from_sorted key_cmp keys k (k + 1) d up (omega arith) high in
    ap is_lt (key_total.antisymm (get_or keys (k + 1) d) (get_or keys k d) ∙ ap ordering_reverse less)

pub sought-missing : (keys : List LinkKey) (key : LinkKey) (i : ℕ) → IsStrictlySortedBy key_cmp keys → IsBinarySearchResult (λ y. key_cmp y key) keys (Err i) → list_any (same_key key) keys ≡ false
sought-missing keys key i up missed = by (list_any (same_key key) keys) refl
  where
    by : (b : Bool) → list_any (same_key key) keys ≡ b → b ≡ false
    by false e = refl
    by true e =
        let parts : IsPartitionPoint (λ y. key_cmp y key ≡ Less) (λ y. key_cmp y key ≡ Greater) keys i = missed (searchable_from_sorted key_total (λ (k : LinkKey). k) keys key (in-order keys up)) in
        let there = key-contained keys key e in
        let tied : key_cmp (get_or keys there.0 key) key ≡ Equal = ap (λ k. key_cmp k key) there.2 ∙ tied_itself key_total key in
        absurd (⊎_elim
        (λ (low : there.0 < i). let bad : Less ≡ Equal = sym (parts.0 there.0 key (omega arith) low) ∙ tied in cc)
        (λ (high : i ≤ there.0). let bad : Greater ≡ Equal = sym (parts.1 there.0 key high there.1) ∙ tied in cc)
        (cases_lt there.0 i))
