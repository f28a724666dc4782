-- What the lists of the survey take up, one announcement after the other.
use Rattle.std.proofs.Common.{◌≡◌, ℕ, ◌+◌, ◌<◌, Bool, true, List, [], ◌∷◌, ◌++◌, map, filter, length, get_or, take, Option, Some, None, ap, sym, ◌∙◌}
use Rattle.std.specs.List.{filter_map, cons_option, list_any}
use Rattle.std.specs.List.Sorted.{IsPermutation}
use Rattle.std.specs.Ordering.{eq_by_cmp}
use Rattle.std.proofs.lemmas.List.Sorted.{list_any-IsPermutation}
use Rattle.sr_model.specs.declared.name.PairKey.{PairKey}
use Rattle.sr_model.specs.Key.{pair_of}
use Rattle.sr_lsdb.specs.declared.facts.Facts.{Facts}
use Rattle.sr_lsdb.specs.Order.{pair_cmp}
use Rattle.sr_lsdb.specs.declared.announcement.Announcement.{Announcement}
use Rattle.sr_domain.specs.declared.links.FoundLink.{FoundLink}
use Rattle.sr_domain.specs.Links.{links_of}
use Rattle.sr_domain.proofs.AnnouncedLemmas.{filter-kept_at}
use Rattle.sr_account.specs.Steps.{has_link, link_pair}

pick-end : {X Y Z : Type 0} (f : X → Option Y) (g : Y → Z) (xs : List X) (a : X) (y : Y) → f a ≡ Some y → map g (filter_map f (xs ++ a ∷ [])) ≡ map g (filter_map f xs) ++ g y ∷ []
pick-end {X} {Y} {Z} f g [] a y e = ap (λ (o : Option Y). map g (cons_option o [])) e
pick-end {X} {Y} {Z} f g (x ∷ xs) a y e = by (f x) (pick-end f g xs a y e)
  where
    by : (o : Option Y) → map g (filter_map f (xs ++ a ∷ [])) ≡ map g (filter_map f xs) ++ g y ∷ [] → map g (cons_option o (filter_map f (xs ++ a ∷ []))) ≡ map g (cons_option o (filter_map f xs)) ++ g y ∷ []
    by None rest = rest
    by (Some z) rest = ap (λ (l : List Z). g z ∷ l) rest

pick-skip : {X Y : Type 0} (f : X → Option Y) (xs : List X) (a : X) → f a ≡ None → filter_map f (xs ++ a ∷ []) ≡ filter_map f xs
pick-skip {X} {Y} f [] a e = ap (λ (o : Option Y). cons_option o []) e
pick-skip {X} {Y} f (x ∷ xs) a e = ap (cons_option (f x)) (pick-skip f xs a e)

-- the pair of one more link
pub pairs-more : (f : Announcement → Option FoundLink) (test : Announcement → Bool) (anns : List Announcement) (i : ℕ) (a : Announcement) (link : FoundLink) (pair : PairKey) (pairs new : List PairKey) → i < length anns → get_or anns i a ≡ a → test a ≡ true → f a ≡ Some link → pair ≡ link_pair link → pairs ≡ map link_pair (filter_map f (filter test (take i anns))) → new ≡ pairs ++ pair ∷ [] → new ≡ map link_pair (filter_map f (filter test (take (i + 1) anns)))
pairs-more f test anns i a link pair pairs new lt at kept found is was pushed =
    pushed
    ∙ ap (λ (p : PairKey). pairs ++ p ∷ []) is
    ∙ ap (λ (l : List PairKey). l ++ link_pair link ∷ []) was
    ∙ sym (pick-end f link_pair (filter test (take i anns)) a link found)
    ∙ sym (ap (λ (l : List Announcement). map link_pair (filter_map f l)) (filter-kept_at test anns i a lt at kept))

-- an announcement that gives no link in use
pub pairs-same : (f : Announcement → Option FoundLink) (test : Announcement → Bool) (anns : List Announcement) (i : ℕ) (a : Announcement) (pairs : List PairKey) → i < length anns → get_or anns i a ≡ a → test a ≡ true → f a ≡ None → pairs ≡ map link_pair (filter_map f (filter test (take i anns))) → pairs ≡ map link_pair (filter_map f (filter test (take (i + 1) anns)))
pairs-same f test anns i a pairs lt at kept none was =
    was
    ∙ sym (ap (map link_pair) (pick-skip f (filter test (take i anns)) a none))
    ∙ sym (ap (λ (l : List Announcement). map link_pair (filter_map f l)) (filter-kept_at test anns i a lt at kept))

-- what a search among the sorted pairs answers
pub linked-test : (facts : Facts) (a : Announcement) (pair : PairKey) (said sorted items : List PairKey) (r : Bool) → r ≡ list_any (eq_by_cmp pair_cmp pair) items → pair ≡ pair_of a.key → items ≡ sorted → IsPermutation said sorted → said ≡ map link_pair (links_of facts) → has_link facts a ≡ r
linked-test facts a pair said sorted items r answer is e moved f =
    ap (list_any (eq_by_cmp pair_cmp (pair_of a.key))) (sym f)
    ∙ list_any-IsPermutation (eq_by_cmp pair_cmp (pair_of a.key)) said sorted moved
    ∙ ap (list_any (eq_by_cmp pair_cmp (pair_of a.key))) (sym e)
    ∙ ap (λ (p : PairKey). list_any (eq_by_cmp pair_cmp p) items) (sym is)
    ∙ sym answer
