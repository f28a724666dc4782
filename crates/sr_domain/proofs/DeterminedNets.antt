-- The facts determine their net: its links by their order, the ends of links by their names, and the rest field by field.
use Rattle.std.proofs.Common.{◌≡◌, ℕ, zero, suc, ◌<◌, Bool, List, [], ◌∷◌, length, get_or, refl, arith, ap, sym, ◌∙◌, subst, Option, None}
use Rattle.std.specs.List.Sorted.{IsPermutation}
use Rattle.std.proofs.lemmas.List.{ext_get_or}
use Rattle.std.proofs.lemmas.List.Sorted.{IsPermutation-sym, IsPermutation-trans}
use Rattle.std.proofs.lemmas.Option.{slice_get_within, get_or_from_slice_get}
use Rattle.sr_model.specs.declared.name.LinkKey.{LinkKey}
use Rattle.sr_model.specs.declared.link.Link.{Link}
use Rattle.sr_model.specs.Key.{KeyLt, pair_of}
use Rattle.sr_model.specs.Graph.{Graph, no_link, link_count, link_at, groups_at, has, IsNamed}
use Rattle.sr_model.specs.Label.{Labels, Net, adj_at}
use Rattle.sr_model.specs.Stay.{HaveSameNodes}
use Rattle.sr_laws.proofs.Ascending.{Ascends, ascending-one}
use Rattle.sr_laws.proofs.Keys.{KeyLt-irrefl, KeyLt-trans, same-link}
use Rattle.sr_lsdb.specs.declared.facts.Facts.{Facts}
use Rattle.sr_domain.specs.declared.links.FoundLink.{FoundLink}
use Rattle.sr_domain.specs.Announced.{two_way_of}
use Rattle.sr_domain.specs.Links.{links_of, labelled}
use Rattle.sr_domain.specs.Groups.{AreGroupsOf}
use Rattle.sr_domain.specs.Net.{IsNetOf}
use Rattle.sr_domain.proofs.MarkLemmas.{graph_made}
use Rattle.sr_domain.proofs.NetLemmas.{found_as}
use Rattle.sr_domain.proofs.DeterminedLists.{among-moved, groups-one, keys-one}

-- the key of the first comes before that of the second
abbrev KeyBefore : FoundLink → FoundLink → Type 0
KeyBefore x y = KeyLt x.key y.key

labelled-length : (ls : List Link) (labels : List (Option ℕ)) → length labels ≡ length ls → length (labelled ls labels) ≡ length ls
labelled-length [] labels e = refl
labelled-length (l ∷ ls) [] e = absurd (omega arith)
labelled-length (l ∷ ls) (t ∷ labels) e = let rest : length (labelled ls labels) ≡ length ls = labelled-length ls labels (omega arith) in omega arith

labelled-at : (ls : List Link) (labels : List (Option ℕ)) (i : ℕ) (d : FoundLink) → length labels ≡ length ls → i < length ls → get_or (labelled ls labels) i d ≡ found_as (get_or ls i no_link) (get_or labels i None)
labelled-at [] labels i d e lt = absurd (omega arith)
labelled-at (l ∷ ls) [] i d e lt = absurd (omega arith)
labelled-at (l ∷ ls) (t ∷ labels) zero d e lt = refl
labelled-at (l ∷ ls) (t ∷ labels) (suc i) d e lt = labelled-at ls labels i d (omega arith) (omega arith)

-- the links of a named graph ascend by key
labelled-ascends : (g : Graph) (labels : List (Option ℕ)) → IsNamed g → length labels ≡ link_count g → Ascends KeyBefore (labelled g.links labels)
labelled-ascends g labels named long i j x y lt at_i at_j =
    let all : length (labelled g.links labels) ≡ link_count g = labelled-length g.links labels long in
    let within : j < length (labelled g.links labels) = slice_get_within (labelled g.links labels) j y at_j in
    let low : found_as (link_at g i) (get_or labels i None) ≡ x = sym (labelled-at g.links labels i x long (omega arith)) ∙ get_or_from_slice_get (labelled g.links labels) i x x at_i in
    let high : found_as (link_at g j) (get_or labels j None) ≡ y = sym (labelled-at g.links labels j y long (omega arith)) ∙ get_or_from_slice_get (labelled g.links labels) j y y at_j in
    subst (λ (z : FoundLink). KeyLt z.key y.key) low (subst (λ (z : FoundLink). KeyLt (link_at g i).key z.key) high (named.keys i j lt (omega arith)))

-- two named graphs whose labelled links are one list in two orders have the same labelled links
labelled-one : (found : List FoundLink) (g h : Graph) (labels others : List (Option ℕ)) → IsNamed g → IsNamed h → length labels ≡ link_count g → length others ≡ link_count h → IsPermutation found (labelled g.links labels) → IsPermutation found (labelled h.links others) → labelled g.links labels ≡ labelled h.links others
labelled-one found g h labels others named named' long long' moved moved' =
    let xs : List FoundLink = labelled g.links labels in
    let ys : List FoundLink = labelled h.links others in
    ascending-one KeyBefore (λ (x : FoundLink). KeyLt-irrefl x.key) (λ (x y z : FoundLink). KeyLt-trans x.key y.key z.key) xs ys
    (labelled-ascends g labels named long)
    (labelled-ascends h others named' long')
    (among-moved xs ys (IsPermutation-trans xs found ys (IsPermutation-sym found xs moved) moved'))
    (among-moved ys xs (IsPermutation-trans ys found xs (IsPermutation-sym found ys moved') moved))

abbrev net_made : Graph → List Labels → List (Option ℕ) → List LinkKey → ℕ → Net
net_made graph labels adj announced depth = record { graph = graph; labels = labels; adj = adj; announced = announced; depth = depth }

module _ (facts : Facts) (a b : Net) (x : IsNetOf facts a) (y : IsNetOf facts b) where
  found-same : labelled a.graph.links a.adj ≡ labelled b.graph.links b.adj
  found-same = labelled-one (links_of facts) a.graph b.graph a.adj b.adj x.accepted.named y.accepted.named x.accepted.links y.accepted.links x.links y.links

  count-same : link_count a.graph ≡ link_count b.graph
  count-same = sym (labelled-length a.graph.links a.adj x.accepted.links) ∙ ap length found-same ∙ labelled-length b.graph.links b.adj y.accepted.links

  -- the links at one place have one key, one metric and one label
  place-same : (l : ℕ) → l < link_count a.graph → found_as (link_at a.graph l) (adj_at a l) ≡ found_as (link_at b.graph l) (adj_at b l)
  place-same l lt =
      let count : link_count a.graph ≡ link_count b.graph = count-same in
      let d : FoundLink = found_as no_link None in
      sym (labelled-at a.graph.links a.adj l d x.accepted.links lt)
      ∙ ap (λ (fs : List FoundLink). get_or fs l d) found-same
      ∙ labelled-at b.graph.links b.adj l d y.accepted.links (omega arith)

  systems-same : a.graph.systems ≡ b.graph.systems
  systems-same = x.systems ∙ sym y.systems

  overloaded-same : a.graph.overloaded ≡ b.graph.overloaded
  overloaded-same = x.overloaded ∙ sym y.overloaded

  nodes-same : HaveSameNodes a.graph b.graph
  nodes-same = record { systems = sym systems-same; overloaded = λ v lt. ap (λ (o : List Bool). has o v) overloaded-same }

  links-same : a.graph.links ≡ b.graph.links
  links-same = ext_get_or no_link a.graph.links b.graph.links count-same (λ l lt.
      let count : link_count a.graph ≡ link_count b.graph = count-same in
      let within : l < link_count b.graph = omega arith in
      let key : (link_at a.graph l).key ≡ (link_at b.graph l).key = ap (λ (f : FoundLink). f.key) (place-same l lt) in
      let metric : (link_at a.graph l).metric ≡ (link_at b.graph l).metric = ap (λ (f : FoundLink). f.metric) (place-same l lt) in
      sym (same-link a.graph b.graph x.accepted.graph y.accepted.graph x.accepted.named y.accepted.named nodes-same l l (lt, within, sym key, sym metric)))

  adj-same : a.adj ≡ b.adj
  adj-same = ext_get_or None a.adj b.adj (x.accepted.links ∙ count-same ∙ sym y.accepted.links) (λ l lt.
      let long : length a.adj ≡ link_count a.graph = x.accepted.links in
      ap (λ (f : FoundLink). f.label) (place-same l (omega arith)))

  groups-same : a.graph.groups ≡ b.graph.groups
  groups-same = ext_get_or [] a.graph.groups b.graph.groups (x.accepted.grouped.long ∙ count-same ∙ sym y.accepted.grouped.long) (λ l lt.
      let long : length a.graph.groups ≡ link_count a.graph = x.accepted.grouped.long in
      let count : link_count a.graph ≡ link_count b.graph = count-same in
      let within : l < link_count a.graph = omega arith in
      let key : (link_at b.graph l).key ≡ (link_at a.graph l).key = ap (λ (f : FoundLink). f.key) (sym (place-same l within)) in
      let theirs : AreGroupsOf facts (pair_of (link_at b.graph l).key) (groups_at b.graph l) = y.groups l (omega arith) in
      groups-one facts (pair_of (link_at a.graph l).key) (groups_at a.graph l) (groups_at b.graph l) (x.groups l within) (subst (λ (k : LinkKey). AreGroupsOf facts (pair_of k) (groups_at b.graph l)) key theirs))

  graph-same : a.graph ≡ b.graph
  graph-same =
      ap (λ (s : List ℕ). graph_made s a.graph.links a.graph.groups a.graph.overloaded) systems-same
      ∙ ap (λ (l : List Link). graph_made b.graph.systems l a.graph.groups a.graph.overloaded) links-same
      ∙ ap (λ (g : List (List ℕ)). graph_made b.graph.systems b.graph.links g a.graph.overloaded) groups-same
      ∙ ap (graph_made b.graph.systems b.graph.links b.graph.groups) overloaded-same

  -- facts have at most one net
  pub net-one : a ≡ b
  net-one =
      ap (λ (g : Graph). net_made g a.labels a.adj a.announced a.depth) graph-same
      ∙ ap (λ (l : List Labels). net_made b.graph l a.adj a.announced a.depth) (x.labels ∙ sym y.labels)
      ∙ ap (λ (t : List (Option ℕ)). net_made b.graph b.labels t a.announced a.depth) adj-same
      ∙ ap (λ (k : List LinkKey). net_made b.graph b.labels b.adj k a.depth) (keys-one (two_way_of facts) a.announced b.announced x.announced y.announced)
      ∙ ap (net_made b.graph b.labels b.adj b.announced) (x.depth ∙ sym y.depth)
