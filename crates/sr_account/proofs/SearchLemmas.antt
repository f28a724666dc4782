-- What a binary search finds among sorted elements, and what the lists of the survey have.
use Rattle.std.proofs.Common.{◌≡◌, ◌||◌, ℕ, ◌<◌, ◌≤◌, ⊎_elim, Bool, true, false, List, [], ◌∷◌, map, length, get_or, Option, Some, None, refl, arith, ap, sym, ◌∙◌, Err}
use Rattle.std.specs.Cmp.{IsTotalOrder, Equal-is}
use Rattle.std.specs.List.{list_any}
use Rattle.std.specs.List.Sorted.{IsSorted, IsBinarySearchResult, IsPartitionPoint}
use Rattle.std.specs.Option.{option_to_list}
use Rattle.std.specs.Ordering.{eq_by_cmp, is_eq, nat_cmp}
use Rattle.std.specs.declared.cmp.Ordering.{Ordering}
use Rattle.std.specs.declared.cmp.Ordering.TheVariants.{Less, Equal, Greater}
use Rattle.std.proofs.lemmas.Bool.{cases_lt}
use Rattle.std.proofs.lemmas.Cmp.{tied_itself, tied_back, eq_by_cmp_equiv}
use Rattle.std.proofs.lemmas.List.Folds.{list_any_at, list_any-append}
use Rattle.std.proofs.lemmas.List.Sorted.{list_any-IsPermutation, searchable_from_sorted}
use Rattle.std.proofs.lemmas.Map.Lookups.{CmpEqualImpliesEq, exact_pairs, exact_unsigned}
use Rattle.sr_model.specs.Key.{pair_of}
use Rattle.sr_lsdb.specs.declared.facts.Facts.{Facts}
use Rattle.sr_lsdb.specs.Order.{pair_cmp}
use Rattle.sr_lsdb.proofs.OrderLemmas.{pair_total, pair_exact}
use Rattle.sr_lsdb.specs.declared.announcement.Announcement.{Announcement}
use Rattle.sr_domain.specs.declared.risks.RiskName.{RiskName}
use Rattle.sr_domain.specs.Announced.{announcements_of}
use Rattle.sr_domain.specs.Groups.{is_name, numbered_name, same_name, same_pair, unnumbered_name}
use Rattle.sr_domain.specs.Links.{links_of}
use Rattle.sr_domain.proofs.GroupsLemmas.{name_total}
use Rattle.sr_domain.proofs.KeyLemmas.{any-to, any-from}
use Rattle.sr_domain.proofs.MemberLemmas.{mapped-from, mapped-to}
use Rattle.sr_account.specs.declared.survey.Ends.{Ends}
use Rattle.sr_account.specs.contracts.survey.EndsOrd.TheImpl.Laws as ends_laws
use Rattle.sr_account.specs.Reasons.{AnnouncesLink, IsPairUsed}
use Rattle.sr_account.specs.Steps.{AreSortedFrom, ends_cmp, ends_of, has_link, link_pair, names_by, names_in}

pub sought-there : {T : Type 0} {R : T → T → Ordering} (o : IsTotalOrder R) → (xs : List T) (x : T) (i : ℕ) → i < length xs → ((d : T) → R (get_or xs i d) x ≡ Equal) → true ≡ list_any (eq_by_cmp R x) xs
sought-there {T} {R} o xs x i within tied = sym (list_any_at (eq_by_cmp R x) xs i x within (ap is_eq (tied_back o (get_or xs i x) x (tied x))))

pub sought-nowhere : {T : Type 0} {R : T → T → Ordering} (o : IsTotalOrder R) → (xs : List T) (x : T) (i : ℕ) → IsSorted R xs → IsBinarySearchResult (λ y. R y x) xs (Err i) → false ≡ list_any (eq_by_cmp R x) xs
sought-nowhere {T} {R} o xs x i up missed = by (list_any (eq_by_cmp R x) xs) refl
  where
    by : (b : Bool) → list_any (eq_by_cmp R x) xs ≡ b → false ≡ b
    by false e = refl
    by true e =
        let parts : IsPartitionPoint (λ y. R y x ≡ Less) (λ y. R y x ≡ Greater) xs i = missed (searchable_from_sorted o (λ (y : T). y) xs x up) in
        let there = any-to (eq_by_cmp R x) xs e in
        let y = there.0 in
        let k = there.1.0 in
        let tied : R (get_or xs k y) x ≡ Equal = ap (λ (z : T). R z x) there.1.2 ∙ tied_back o x y ((Equal-is (R x y)).0 there.2) in
        absurd (⊎_elim
        (λ (low : k < i). let bad : Less ≡ Equal = sym (parts.0 k y (omega arith) low) ∙ tied in cc)
        (λ (high : i ≤ k). let bad : Greater ≡ Equal = sym (parts.1 k y high there.1.1) ∙ tied in cc)
        (cases_lt k i))

-- a sorted list passes the tests of what was sorted
pub sorted-same : {T : Type 0} {R : T → T → Ordering} (said sorted items : List T) (p : T → Bool) → AreSortedFrom R said sorted → items ≡ sorted → list_any p items ≡ list_any p said
sorted-same said sorted items p s e = ap (list_any p) e ∙ sym (list_any-IsPermutation p said sorted s.same)

-- the order of ends
ends_total : IsTotalOrder ends_cmp
ends_total = ends_laws.total-law

abbrev ends-at : ℕ × ℕ → Ends
ends-at n = record { from = n.0; to = n.1 }

ends_exact : CmpEqualImpliesEq ends_cmp
ends_exact a b h = ap ends-at (exact_pairs nat_cmp nat_cmp exact_unsigned exact_unsigned (a.from, a.to) (b.from, b.to) h)

-- the ends of an announcement are found among those of all
pub ends-said : (facts : Facts) (ends : Ends) → list_any (eq_by_cmp ends_cmp ends) (map ends_of (announcements_of facts)) ≡ true → AnnouncesLink facts ends.from ends.to
ends-said facts ends e =
    let there = any-to (eq_by_cmp ends_cmp ends) (map ends_of (announcements_of facts)) e in
    let same : ends ≡ there.0 = ends_exact ends there.0 ((Equal-is (ends_cmp ends there.0)).0 there.2) in
    let from = mapped-from ends_of (announcements_of facts) there.0 there.1 in
    (from.0, from.1, ap (λ (x : Ends). x.from) (from.2 ∙ sym same), ap (λ (x : Ends). x.to) (from.2 ∙ sym same))

pub ends-found : (facts : Facts) (ends : Ends) → AnnouncesLink facts ends.from ends.to → list_any (eq_by_cmp ends_cmp ends) (map ends_of (announcements_of facts)) ≡ true
ends-found facts ends h =
    let same : ends_of h.0 ≡ ends = ap (λ (f : ℕ). ends-at (f, h.0.key.to)) h.2 ∙ ap (λ (t : ℕ). ends-at (ends.from, t)) h.3 in
    any-from (eq_by_cmp ends_cmp ends) (map ends_of (announcements_of facts)) (ends_of h.0) (mapped-to ends_of (announcements_of facts) h.0 h.1)
    (ap (λ (x : Ends). is_eq (ends_cmp ends x)) same ∙ ap is_eq (tied_itself ends_total ends))

-- the announcement has the name
abbrev pub is_named : RiskName → Announcement → Bool
is_named name a = is_name name (numbered_name a) || is_name name (unnumbered_name a)

or_nothing : (b : Bool) → (b || false) ≡ b
or_nothing true = refl
or_nothing false = refl

named-one : (name : RiskName) (o : Option RiskName) → list_any (same_name name) (option_to_list o) ≡ is_name name o
named-one name None = refl
named-one name (Some other) = or_nothing (same_name name other) ∙ (eq_by_cmp_equiv name_total).symm name other

pub named-any : (name : RiskName) (anns : List Announcement) → list_any (same_name name) (names_in anns) ≡ list_any (is_named name) anns
named-any name [] = refl
named-any name (a ∷ anns) =
    list_any-append (same_name name) (names_by a) (names_in anns)
    ∙ ap (λ (b : Bool). b || list_any (same_name name) (names_in anns)) (list_any-append (same_name name) (option_to_list (numbered_name a)) (option_to_list (unnumbered_name a)))
    ∙ ap (λ (b : Bool). (b || list_any (same_name name) (option_to_list (unnumbered_name a))) || list_any (same_name name) (names_in anns)) (named-one name (numbered_name a))
    ∙ ap (λ (b : Bool). (is_name name (numbered_name a) || b) || list_any (same_name name) (names_in anns)) (named-one name (unnumbered_name a))
    ∙ ap (λ (b : Bool). is_named name a || b) (named-any name anns)

-- the bidirectional link of an announcement is in use
pub linked-used : (facts : Facts) (a : Announcement) → has_link facts a ≡ true → IsPairUsed facts a
linked-used facts a e =
    let there = any-to (same_pair (pair_of a.key)) (map link_pair (links_of facts)) e in
    let same : pair_of a.key ≡ there.0 = pair_exact (pair_of a.key) there.0 ((Equal-is (pair_cmp (pair_of a.key) there.0)).0 there.2) in
    let from = mapped-from link_pair (links_of facts) there.0 there.1 in
    (from.0, from.1, from.2 ∙ sym same)

pub used-linked : (facts : Facts) (a : Announcement) → IsPairUsed facts a → has_link facts a ≡ true
used-linked facts a h =
    any-from (same_pair (pair_of a.key)) (map link_pair (links_of facts)) (link_pair h.0) (mapped-to link_pair (links_of facts) h.0 h.1)
    (ap (same_pair (pair_of a.key)) h.2 ∙ ap is_eq (tied_itself pair_total (pair_of a.key)))
