-- The graph that is built has the links of its draft, in order, with their labels and groups.
use Rattle.std.proofs.Common.{◌≡◌, ℕ, zero, suc, ◌+◌, ◌<◌, List, [], ◌∷◌, map, length, get_or, refl, arith, ap, sym, ◌∙◌, subst, None}
use Rattle.std.specs.Prelude.{filter}
use Rattle.std.specs.List.{list_any}
use Rattle.std.specs.List.Sorted.{IsPermutation, IsSortedByKey}
use Rattle.std.proofs.lemmas.List.{length-map, get_or-map}
use Rattle.std.proofs.lemmas.List.Sorted.{IsPermutation-sym, Contains-permutation}
use Rattle.sr_model.specs.declared.name.Ident.TheVariants.{None as NoIdent}
use Rattle.sr_model.specs.declared.link.Link.{Link}
use Rattle.sr_model.specs.Key.{pair_of}
use Rattle.sr_model.specs.KeyOrder.{key_cmp}
use Rattle.sr_model.proofs.KeyOrderLemmas.{key_total, key_cmp-lt}
use Rattle.sr_model.specs.Graph.{Graph, link_at, groups_at, no_link, IsNamed, IsGrouped}
use Rattle.sr_graph.specs.declared.draft.DraftLink.{DraftLink}
use Rattle.sr_graph.specs.Draft.{NoneTwice, AreSorted, key_of}
use Rattle.sr_graph.specs.Built.{IsBuilt, drafted}
use Rattle.sr_graph.specs.Marks.{IsMarked}
use Rattle.sr_graph.proofs.LinksLemmas.{ascend-from_once}
use Rattle.sr_graph.proofs.OrderLemmas.{far-below}
use Rattle.sr_lsdb.specs.declared.facts.Facts.{Facts}
use Rattle.sr_domain.specs.declared.links.FoundLink.{FoundLink}
use Rattle.sr_domain.specs.Announced.{announcements_of}
use Rattle.sr_domain.specs.Groups.{notes_of, same_number}
use Rattle.sr_domain.specs.Nodes.{has_overload_bit}
use Rattle.sr_model.specs.declared.name.PairKey.{PairKey}
use Rattle.sr_domain.specs.GroupTables.{draft_link, GivesGroups}
use Rattle.sr_domain.specs.Links.{KeysAscend, link_key, link_label, labelled}
use Rattle.sr_domain.specs.Steps.{IsGraphOf}
use Rattle.std.specs.declared.cmp.Ordering.TheVariants.{Less}
use Rattle.sr_domain.proofs.MarkLemmas.{graph_made, marks-are, marked-is, graph-kept, named-kept, grouped-kept}
use Rattle.sr_domain.proofs.SortedLemmas.{Rises, rises-from_far, same-sorted}

abbrev no_found : FoundLink
no_found = record { key = record { from = 0; to = 0; ident = NoIdent }; metric = 0; label = None }

drafted-length : (ls : List Link) (gs : List (List ℕ)) → length gs ≡ length ls → length (drafted ls gs) ≡ length ls
drafted-length [] gs e = refl
drafted-length (l ∷ ls) [] e = absurd (omega arith)
drafted-length (l ∷ ls) (g ∷ gs) e = let rest : length (drafted ls gs) ≡ length ls = drafted-length ls gs (omega arith) in omega arith

drafted-key : (ls : List Link) (gs : List (List ℕ)) → length gs ≡ length ls → (i : ℕ) (d : DraftLink) → i < length ls → (get_or (drafted ls gs) i d).key ≡ (get_or ls i no_link).key
drafted-key [] gs e i d lt = absurd (omega arith)
drafted-key (l ∷ ls) [] e i d lt = absurd (omega arith)
drafted-key (l ∷ ls) (g ∷ gs) e zero d lt = refl
drafted-key (l ∷ ls) (g ∷ gs) e (suc i) d lt = drafted-key ls gs (omega arith) i d (omega arith)

rises-graph : (g : Graph) → IsNamed g → IsGrouped g → Rises (drafted g.links g.groups)
rises-graph g named grouped = rises-from_far (drafted g.links g.groups) (λ i j d lt within.
    let long : length (drafted g.links g.groups) ≡ length g.links = drafted-length g.links g.groups grouped.long in
    let j_in : j < length g.links = omega arith in
    rw (drafted-key g.links g.groups grouped.long i d (omega arith), drafted-key g.links g.groups grouped.long j d j_in) (key_cmp-lt (link_at g i).key (link_at g j).key (named.keys i j lt j_in)))

rises-drafts : (drafts : List DraftLink) → AreSorted drafts → NoneTwice drafts → Rises drafts
rises-drafts drafts sorted once = rises-from_far drafts (λ i j d lt within. far-below key_total key_of drafts (ascend-from_once drafts sorted once).at i j d lt within)

pub sorted-map : (m : PairKey → List ℕ) (links : List FoundLink) → IsSortedByKey link_key key_cmp links → AreSorted (map (draft_link m) links)
sorted-map m links sorted k d low high =
    let next : k + 1 < length links = omega (arith, length-map links (draft_link m)) in
    rw (get_or-map (draft_link m) links (k + 1) no_found d next, get_or-map (draft_link m) links k no_found d (omega arith)) (sorted k no_found low next)

pub keys-ascend : (m : PairKey → List ℕ) (links : List FoundLink) (drafts : List DraftLink) → drafts ≡ map (draft_link m) links → IsSortedByKey link_key key_cmp links → NoneTwice drafts → KeysAscend links
keys-ascend m links drafts are sorted once k d within =
    let made : List DraftLink = map (draft_link m) links in
    let e : DraftLink = draft_link m d in
    let long : length made ≡ length links = length-map links (draft_link m) in
    let up : key_cmp (get_or made k e).key (get_or made (k + 1) e).key ≡ Less = (ascend-from_once made (sorted-map m links sorted) (subst (λ (ds : List DraftLink). NoneTwice ds) are once)).at k e (omega arith) in
    let here : get_or made k e ≡ draft_link m (get_or links k d) = get_or-map (draft_link m) links k d e (omega arith) in
    let next : get_or made (k + 1) e ≡ draft_link m (get_or links (k + 1) d) = get_or-map (draft_link m) links (k + 1) d e within in
    ap (λ (x : DraftLink). key_cmp x.key (get_or links (k + 1) d).key) (sym here) ∙ ap (λ (y : DraftLink). key_cmp (get_or made k e).key y.key) (sym next) ∙ up

drafts-same : (g : Graph) (drafts : List DraftLink) → IsNamed g → IsGrouped g → AreSorted drafts → NoneTwice drafts → IsPermutation drafts (drafted g.links g.groups) → drafted g.links g.groups ≡ drafts
drafts-same g drafts named grouped sorted once moved = same-sorted (drafted g.links g.groups) drafts (rises-graph g named grouped) (rises-drafts drafts sorted once)
    (λ z c. Contains-permutation (drafted g.links g.groups) drafts z (IsPermutation-sym drafts (drafted g.links g.groups) moved) c)
    (λ z c. Contains-permutation drafts (drafted g.links g.groups) z moved c)

head-same : (x y : DraftLink) (xs ys : List DraftLink) → x ∷ xs ≡ y ∷ ys → (x ≡ y) × (xs ≡ ys)
head-same x y xs ys e = (cc, cc)

module _ (m : PairKey → List ℕ) where
  labelled-same : (ls : List Link) (gs : List (List ℕ)) (fs : List FoundLink) → length gs ≡ length ls → drafted ls gs ≡ map (draft_link m) fs → labelled ls (map link_label fs) ≡ fs
  labelled-same [] gs [] e same = refl
  labelled-same [] gs (f ∷ fs) e same = absurd (cc)
  labelled-same (l ∷ ls) [] fs e same = absurd (omega arith)
  labelled-same (l ∷ ls) (g ∷ gs) [] e same = absurd (cc)
  labelled-same (l ∷ ls) (g ∷ gs) (f ∷ fs) e same =
      let parts = head-same (record { key = l.key; metric = l.metric; groups = g }) (draft_link m f) (drafted ls gs) (map (draft_link m) fs) same in
      let rest : labelled ls (map link_label fs) ≡ fs = labelled-same ls gs fs (omega arith) parts.1 in
      ap (λ (d : DraftLink). let x : FoundLink = record { key = d.key; metric = d.metric; label = f.label } in x ∷ labelled ls (map link_label fs)) parts.0
      ∙ ap (λ r. f ∷ r) rest

  groups-same : (ls : List Link) (gs : List (List ℕ)) (fs : List FoundLink) → length gs ≡ length ls → drafted ls gs ≡ map (draft_link m) fs → (i : ℕ) → i < length ls → get_or gs i [] ≡ m (pair_of (get_or ls i no_link).key)
  groups-same [] gs fs e same i lt = absurd (omega arith)
  groups-same (l ∷ ls) [] fs e same i lt = absurd (omega arith)
  groups-same (l ∷ ls) (g ∷ gs) [] e same i lt = absurd (cc)
  groups-same (l ∷ ls) (g ∷ gs) (f ∷ fs) e same zero lt =
      let parts = head-same (record { key = l.key; metric = l.metric; groups = g }) (draft_link m f) (drafted ls gs) (map (draft_link m) fs) same in
      ap (λ (d : DraftLink). d.groups) parts.0 ∙ ap (λ (d : DraftLink). m (pair_of d.key)) (sym parts.0)
  groups-same (l ∷ ls) (g ∷ gs) (f ∷ fs) e same (suc i) lt =
      let parts = head-same (record { key = l.key; metric = l.metric; groups = g }) (draft_link m f) (drafted ls gs) (map (draft_link m) fs) same in
      groups-same ls gs fs (omega arith) parts.1 i (omega arith)

pub graph-of : (facts : Facts) (m : PairKey → List ℕ) (nodes : List ℕ) (links : List FoundLink) (drafts : List DraftLink) (g after : Graph) → drafts ≡ map (draft_link m) links → IsSortedByKey link_key key_cmp links → NoneTwice drafts → GivesGroups m (announcements_of facts) (notes_of facts) → IsBuilt (record { nodes = nodes; links = drafts }) g → IsMarked g (filter (has_overload_bit facts) nodes) after → IsGraphOf facts nodes links after
graph-of facts m nodes links drafts g after are sorted once groups built marked =
    let sorted' : AreSorted drafts = subst (λ (ds : List DraftLink). AreSorted ds) (sym are) (sorted-map m links sorted) in
    let same : drafted g.links g.groups ≡ map (draft_link m) links = drafts-same g drafts built.named built.grouped sorted' once built.links ∙ are in
    let long : length g.groups ≡ length g.links = built.grouped.long in
    let long' : length g.links ≡ length links = sym (drafted-length g.links g.groups long) ∙ ap length same ∙ length-map links (draft_link m) in
    let marked' : IsMarked g (filter (has_overload_bit facts) g.systems) after = subst (λ (ns : List ℕ). IsMarked g (filter (has_overload_bit facts) ns) after) (sym built.systems) marked in
    let made : IsGraphOf facts nodes links (graph_made g.systems g.links g.groups after.overloaded) = record {
      systems = built.systems;
      overloaded = marks-are (has_overload_bit facts) g after marked' ∙ ap (map (has_overload_bit facts)) built.systems;
      graph = graph-kept g after.overloaded built.graph;
      named = named-kept g after.overloaded built.named;
      grouped = grouped-kept g after.overloaded built.grouped;
      long = long';
      same = labelled-same m g.links g.groups links long same;
      groups = λ l lt.
          let here : groups_at g l ≡ m (pair_of (link_at g l).key) = groups-same m g.links g.groups links long same l lt in
          record {
            ascending = built.grouped.ascending l lt;
            each = λ group. ap (list_any (same_number group)) here ∙ groups (pair_of (link_at g l).key) group;
          };
    } in
    subst (λ (x : Graph). IsGraphOf facts nodes links x) (marked-is g after (filter (has_overload_bit facts) nodes) marked) made
