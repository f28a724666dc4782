-- The net of a graph and its labels is accepted, and is that of the facts.
use Rattle.std.proofs.Common.{◌≡◌, ℕ, zero, suc, ◌+◌, ◌<◌, ◌≤◌, Bool, true, false, cond, ◌||◌, List, [], ◌∷◌, map, length, get_or, refl, arith, ap, sym, ◌∙◌, subst, Option, Some, None, ⊎_elim}
use Rattle.std.specs.Prelude.{Contains, slice_get}
use Rattle.std.specs.Option.{option_map}
use Rattle.std.specs.List.{filter_map, cons_option, list_any}
use Rattle.std.specs.List.Sorted.{IsPermutation, IsStrictlyIncreasing}
use Rattle.std.specs.Ordering.{is_eq}
use Rattle.std.specs.declared.cmp.Ordering.TheVariants.{Less}
use Rattle.std.specs.Cmp.{Equal-is}
use Rattle.std.proofs.lemmas.Option.{same_Some}
use Rattle.sr_model.specs.declared.rule.DomainRule.TheVariants.{DuplicateIndex, IndexOutside, AdjLabelClash}
use Rattle.std.proofs.lemmas.Cmp.{tied_itself}
use Rattle.std.proofs.lemmas.List.{length-map, get_or_default}
use Rattle.std.proofs.lemmas.List.Folds.{list_any_at}
use Rattle.std.proofs.lemmas.List.Sorted.{IsPermutation-sym, Contains-permutation}
use Rattle.std.proofs.lemmas.Map.Keys.{Less-from_sorted}
use Rattle.sr_model.specs.declared.name.LinkKey.{LinkKey}
use Rattle.sr_model.specs.declared.link.Link.{Link}
use Rattle.sr_model.specs.declared.label.AdjLabel.{AdjLabel}
use Rattle.sr_model.specs.KeyOrder.{key_cmp, same_key}
use Rattle.sr_model.proofs.KeyOrderLemmas.{key_total, key-from_cmp, KeyLt-from_cmp}
use Rattle.sr_model.specs.Graph.{Graph, link_at, no_link, tail}
use Rattle.sr_model.specs.Label.{Labels}
use Rattle.sr_model.specs.Rule.{IsAccepted, AreAnnounced, adj_labels_of, NoAdjClash, IsFirstBroken}
use Rattle.sr_labels.specs.Rules.{HaveSrgbs}
use Rattle.sr_lsdb.specs.declared.facts.Facts.{Facts}
use Rattle.sr_lsdb.specs.declared.announcement.Announcement.{Announcement}
use Rattle.sr_domain.specs.declared.links.FoundLink.{FoundLink}
use Rattle.sr_domain.specs.Announced.{two_way_of, is_announced, AreKeysOf}
use Rattle.sr_domain.specs.Nodes.{nodes_of, all_labels, labels_of}
use Rattle.sr_domain.specs.Links.{links_of, link_by, link_of, is_in_use, labelled, link_label, adj_label_by, place_in}
use Rattle.sr_domain.specs.Rules.{AreKept}
use Rattle.sr_domain.specs.Steps.{IsGraphOf}
use Rattle.sr_domain.specs.Net.{IsNetOf}
use Rattle.sr_domain.proofs.MemberLemmas.{here, later, picked-from, nowhere, cases}
use Rattle.sr_domain.proofs.PlacesLemmas.{place-at}
use Rattle.sr_domain.proofs.AdjLemmas.{clash-moved}

-- the first of two equal lists of links
first-same : (x y : FoundLink) (xs ys : List FoundLink) → x ∷ xs ≡ y ∷ ys → (x ≡ y) × (xs ≡ ys)
first-same x y xs ys e = (cc, cc)

-- a link of a graph with its label, as it was found
abbrev pub found_as : Link → Option ℕ → FoundLink
found_as link label = record { key = link.key; metric = link.metric; label = label }

-- the links with their labels, one by one
pub labelled-from : (ls : List Link) (ts : List (Option ℕ)) (x : FoundLink) → Contains (labelled ls ts) x → (i : ℕ) × (i < length ls) × (x ≡ found_as (get_or ls i no_link) (get_or ts i None))
labelled-from [] ts x c = absurd (nowhere x c)
labelled-from (l ∷ ls) [] x c = absurd (nowhere x c)
labelled-from (l ∷ ls) (t ∷ ts) x c = ⊎_elim
    (λ (same : found_as l t ≡ x). (zero, omega arith, sym same))
    (λ (rest : Contains (labelled ls ts) x). let r = labelled-from ls ts x rest in (suc r.0, (let lt : r.0 < length ls = r.1 in omega arith), r.2))
    (cases (found_as l t) (labelled ls ts) x c)

pub labelled-to : (ls : List Link) (ts : List (Option ℕ)) (i : ℕ) → length ts ≡ length ls → i < length ls → Contains (labelled ls ts) (found_as (get_or ls i no_link) (get_or ts i None))
labelled-to [] ts i long lt = absurd (omega arith)
labelled-to (l ∷ ls) [] i long lt = absurd (omega arith)
labelled-to (l ∷ ls) (t ∷ ts) zero long lt = here (found_as l t) (labelled ls ts)
labelled-to (l ∷ ls) (t ∷ ts) (suc i) long lt = later (found_as l t) (labelled ls ts) (found_as (get_or ls i no_link) (get_or ts i None)) (labelled-to ls ts i (omega arith) (omega arith))

-- the adjacency labels of the graph are those of its links as they were found
adj-made : (nodes : List ℕ) (ls : List Link) (fs : List FoundLink) → length fs ≡ length ls → labelled ls (map link_label fs) ≡ fs → ((i : ℕ) → i < length ls → place_in nodes (get_or ls i no_link).key.from ≡ (get_or ls i no_link).from.0) → adj_labels_of ls (map link_label fs) ≡ filter_map (adj_label_by nodes) fs
adj-made nodes [] [] e same places = refl
adj-made nodes [] (f ∷ fs) e same places = absurd (omega arith)
adj-made nodes (l ∷ ls) [] e same places = absurd (omega arith)
adj-made nodes (l ∷ ls) (f ∷ fs) e same places =
    let parts = first-same (found_as l f.label) f (labelled ls (map link_label fs)) fs same in
    let rest : adj_labels_of ls (map link_label fs) ≡ filter_map (adj_label_by nodes) fs = adj-made nodes ls fs (omega arith) parts.1 (λ i lt. places (suc i) (omega arith)) in
    let place : l.from.0 ≡ place_in nodes f.key.from = sym (places 0 (omega arith)) ∙ ap (λ (x : FoundLink). place_in nodes x.key.from) parts.0 in
    by f.label place rest
  where
    by : (o : Option ℕ) → l.from.0 ≡ place_in nodes f.key.from → adj_labels_of ls (map link_label fs) ≡ filter_map (adj_label_by nodes) fs → adj_labels_of (l ∷ ls) (o ∷ map link_label fs) ≡ cons_option (option_map (λ (t : ℕ). let a : AdjLabel = record { node = place_in nodes f.key.from; label = t } in a) o) (filter_map (adj_label_by nodes) fs)
    by None place rest = rest
    by (Some t) place rest = ap (λ (n : ℕ). let a : AdjLabel = record { node = n; label = t } in a ∷ adj_labels_of ls (map link_label fs)) place ∙ ap (λ r. let a : AdjLabel = record { node = place_in nodes f.key.from; label = t } in a ∷ r) rest

-- each link of the graph was found
pub found-at : (ls : List Link) (fs : List FoundLink) → length fs ≡ length ls → labelled ls (map link_label fs) ≡ fs → (i : ℕ) → i < length ls → (x : FoundLink) × Contains fs x × (x.key ≡ (get_or ls i no_link).key)
found-at [] fs e same i lt = absurd (omega arith)
found-at (l ∷ ls) [] e same i lt = absurd (omega arith)
found-at (l ∷ ls) (f ∷ fs) e same zero lt =
    let parts = first-same (found_as l f.label) f (labelled ls (map link_label fs)) fs same in
    (f, here f fs, ap (λ (x : FoundLink). x.key) (sym parts.0))
found-at (l ∷ ls) (f ∷ fs) e same (suc i) lt =
    let parts = first-same (found_as l f.label) f (labelled ls (map link_label fs)) fs same in
    let r = found-at ls fs (omega arith) parts.1 i (omega arith) in
    (r.0, later f fs r.0 r.1, r.2)

key-there : (keys : List LinkKey) (key : LinkKey) → list_any (same_key key) keys ≡ true → (i : ℕ) × (slice_get keys i ≡ Some key)
key-there [] key e = absurd (cc)
key-there (k ∷ ks) key e = by (λ h. key-there ks key h) (same_key key k) refl e
  where
    by : (list_any (same_key key) ks ≡ true → (i : ℕ) × (slice_get ks i ≡ Some key)) → (b : Bool) → same_key key k ≡ b → (b || list_any (same_key key) ks) ≡ true → (i : ℕ) × (slice_get (k ∷ ks) i ≡ Some key)
    by rest true same h = (0, ap Some (sym (key-from_cmp key k ((Equal-is (key_cmp key k)).0 same))))
    by rest false same h = let r = rest h in (suc r.0, r.1)

slice-at : (keys : List LinkKey) (i : ℕ) (a : LinkKey) → slice_get keys i ≡ Some a → (i < length keys) × (get_or keys i a ≡ a)
slice-at [] i a e = absurd (cc)
slice-at (k ∷ ks) zero a e = (omega arith, same_Some k a e)
slice-at (k ∷ ks) (suc i) a e = let r = slice-at ks i a e in (let lt : i < length ks = r.0 in omega arith, r.1)

link-announced : (facts : Facts) (x : FoundLink) → Contains (links_of facts) x → is_announced (two_way_of facts) x.key ≡ true
link-announced facts x c =
    let r = picked-from (link_by facts) (two_way_of facts) x c in
    let key : r.0.key ≡ x.key = same r.0 (is_in_use facts r.0) r.2 in
    let at : get_or (two_way_of facts) r.1.0 r.0 ≡ r.0 = r.1.2 in
    list_any_at (λ (a : Announcement). same_key x.key a.key) (two_way_of facts) r.1.0 r.0 r.1.1 (ap (λ (a : Announcement). same_key x.key a.key) at ∙ ap (same_key x.key) key ∙ ap is_eq (tied_itself key_total x.key))
  where
    same : (a : Announcement) (b : Bool) → cond b (Some (link_of facts a)) None ≡ Some x → a.key ≡ x.key
    same a true h = ap (λ (l : FoundLink). l.key) (same_Some (link_of facts a) x h)
    same a false h = absurd (cc)

module _ (facts : Facts) (links : List FoundLink) (g : Graph) (is : IsGraphOf facts (nodes_of facts) links g) (moved : IsPermutation (links_of facts) links) (kept : AreKept facts 9) where
  systems-up : IsStrictlyIncreasing g.systems
  systems-up k lt = is.named.ascending k (k + 1) (omega arith) lt

  placed : (i : ℕ) → i < length g.links → place_in (nodes_of facts) (link_at g i).key.from ≡ (link_at g i).from.0
  placed i lt = subst (λ (l : List ℕ). place_in l (link_at g i).key.from ≡ (link_at g i).from.0) is.systems
      (place-at g.systems (tail g i) (link_at g i).key.from systems-up (is.graph.each i lt).0 (sym (is.named.ends i lt).0))

  clear : NoAdjClash (all_labels facts) (adj_labels_of g.links (map link_label links))
  clear = subst (λ (l : List AdjLabel). NoAdjClash (all_labels facts) l) (sym (adj-made (nodes_of facts) g.links links (sym is.long) is.same placed))
      (clash-moved (all_labels facts) (adj_label_by (nodes_of facts)) (links_of facts) links moved (kept (AdjLabelClash 0 0) (omega arith)))

  announced-of : (keys : List LinkKey) → AreKeysOf (two_way_of facts) keys → AreAnnounced g keys
  announced-of keys are = record {
    ascending = λ i j a b lt at_i at_j.
        let x = slice-at keys i a at_i in
        let y = slice-at keys j b at_j in
        let less : key_cmp (get_or keys i a) (get_or keys j a) ≡ Less = Less-from_sorted key_cmp keys i j a are.ascending lt y.0 in
        KeyLt-from_cmp a b (ap (λ (k : LinkKey). key_cmp k b) (sym x.1) ∙ ap (key_cmp (get_or keys i a)) (sym y.1 ∙ get_or_default keys j b a y.0) ∙ less);
    holds = λ l lt.
        let f = found-at g.links links (sym is.long) is.same l lt in
        let there = link-announced facts f.0 (Contains-permutation links (links_of facts) f.0 (IsPermutation-sym (links_of facts) links moved) f.1) in
        key-there keys (link_at g l).key (subst (λ (k : LinkKey). list_any (same_key k) keys ≡ true) f.2 (are.each f.0.key ∙ there));
  }

  pub accepted : (labels : List Labels) (keys : List LinkKey) → labels ≡ all_labels facts → HaveSrgbs labels → AreKeysOf (two_way_of facts) keys → facts.depth ≤ 12 → IsAccepted (record { graph = g; labels = labels; adj = map link_label links; announced = keys; depth = facts.depth })
  accepted labels keys its srgbs are deep = record {
    graph = is.graph;
    named = is.named;
    grouped = is.grouped;
    nodes = ap length its ∙ length-map (nodes_of facts) (labels_of facts) ∙ ap length (sym is.systems);
    links = length-map links link_label ∙ sym is.long;
    ranges = srgbs;
    rules = subst (λ (l : List Labels). IsFirstBroken l (adj_labels_of g.links (map link_label links)) None) (sym its) (kept (DuplicateIndex 0 0 0) (omega arith), kept (IndexOutside 0 0) (omega arith), clear);
    announced = announced-of keys are;
    depth = deep;
  }

  pub net-of : (labels : List Labels) (keys : List LinkKey) → labels ≡ all_labels facts → HaveSrgbs labels → AreKeysOf (two_way_of facts) keys → facts.depth ≤ 12 → IsNetOf facts (record { graph = g; labels = labels; adj = map link_label links; announced = keys; depth = facts.depth })
  net-of labels keys its srgbs are deep = record {
    kept = kept;
    accepted = accepted labels keys its srgbs are deep;
    systems = is.systems;
    overloaded = is.overloaded;
    labels = its;
    links = subst (λ (l : List FoundLink). IsPermutation (links_of facts) l) (sym is.same) moved;
    groups = is.groups;
    announced = are;
    depth = refl;
  }
