-- The graph of an accepted draft, and what moves from the sorted links to the drafted ones.
use Rattle.std.proofs.Common.{◌≡◌, ◌≢◌, ℕ, ◌<◌, ◌≤◌, ⊎_elim, Bool, List, [], ◌∷◌, map, length, get_or, refl, arith, ap, sym, ◌∙◌, subst, cond}
use Rattle.std.specs.Prelude.{slice_index, count_by}
use Rattle.std.specs.List.{AllZip}
use Rattle.std.specs.List.Sorted.{IsPermutation, IsStrictlyIncreasing}
use Rattle.std.proofs.lemmas.Bool.{cases_eq, cases_lt}
use Rattle.std.proofs.lemmas.List.{get_or-map, length-map}
use Rattle.std.proofs.lemmas.List.Elements.{All-get_or, Contains-get_or}
use Rattle.std.proofs.lemmas.List.Sorted.{IsPermutation-refl, IsPermutation-sym, IsPermutation-trans, Contains-permutation, All-permutation, sum_by-IsPermutation, length_permutation}
use Rattle.sr_model.specs.declared.name.Ident.TheVariants.{None as NoIdent}
use Rattle.sr_model.specs.declared.name.LinkKey.{LinkKey}
use Rattle.sr_model.specs.declared.link.Link.{Link}
use Rattle.sr_model.specs.declared.link.LinkNo.{LinkNo}
use Rattle.sr_model.specs.Key.{KeyLt, IsSamePair}
use Rattle.sr_model.specs.KeyOrder.{same_key}
use Rattle.sr_model.specs.Graph.{Graph, no_link, IsLink, IsGraph, IsNamed, IsGrouped}
use Rattle.sr_model.proofs.KeyOrderLemmas.{key_total, KeyLt-from_cmp}
use Rattle.sr_graph.specs.declared.draft.DraftLink.{DraftLink}
use Rattle.sr_graph.specs.declared.draft.Draft.{Draft}
use Rattle.sr_graph.specs.declared.fault.GraphFault.{GraphFault}
use Rattle.sr_graph.specs.declared.fault.GraphFault.TheVariants.{ZeroMetric, DuplicateLink, TooManyNodes, TooManyLinks, Memory}
use Rattle.sr_graph.specs.Draft.{IsDraft, HasEnds, HasZero, IsTwice, AreLeast, NoZero, NoneTwice, AreSorted, IsAcceptedDraft, IsRefusal, key_of}
use Rattle.sr_graph.specs.declared.edges.Edge.{Edge}
use Rattle.sr_graph.specs.Numbers.{IsNumbered}
use Rattle.sr_graph.specs.Edges.{edge_of}
use Rattle.sr_graph.specs.Ranges.{end_in, AreByTail, AreStarts, AreListedByEnd}
use Rattle.sr_graph.specs.Sharing.{AreSharing}
use Rattle.sr_graph.specs.Built.{drafted, IsBuilt, IsLaidOut}
use Rattle.sr_graph.proofs.LinksLemmas.{ascend-from_once}
use Rattle.sr_graph.proofs.OrderLemmas.{far-below}
use Rattle.sr_graph.proofs.ZipLemmas.{zip-at, zip-length}
use Rattle.sr_graph.proofs.NumbersLemmas.{ascending-far}
use Rattle.sr_graph.proofs.IncomingLemmas.{ends_of, incoming-from_listed}

abbrev pub draft_of : List ℕ → List DraftLink → Draft
draft_of nodes links = record { nodes = nodes; links = links }

abbrev groups_in : DraftLink → List ℕ
groups_in link = link.groups

abbrev pub graph_of : List ℕ → List DraftLink → List Link → Graph
graph_of nodes ys ks = record { systems = nodes; links = ks; groups = map groups_in ys; overloaded = [] }

no_draft : DraftLink
no_draft = record { key = record { from = 0; to = 0; ident = NoIdent }; metric = 0; groups = [] }

abbrev link_made : LinkKey → ℕ → List ℕ → DraftLink
link_made key metric groups = record { key = key; metric = metric; groups = groups }

-- the numbered links with their groups are the drafted ones
drafted-numbered : (nodes : List ℕ) (ys : List DraftLink) (ks : List Link) → AllZip (IsNumbered nodes) ys ks → drafted ks (map groups_in ys) ≡ ys
drafted-numbered nodes [] [] a = refl
drafted-numbered nodes [] (k ∷ ks) a = absurd a
drafted-numbered nodes (y ∷ ys) [] a = absurd a
drafted-numbered nodes (y ∷ ys) (k ∷ ks) a =
    ap (λ (l : DraftLink). l ∷ drafted ks (map groups_in ys)) same ∙ ap (λ ls. y ∷ ls) (drafted-numbered nodes ys ks a.1)
  where
    same : record { key = k.key; metric = k.metric; groups = y.groups } ≡ y
    same = ap (λ key. link_made key k.metric y.groups) a.0.key ∙ ap (λ metric. link_made y.key metric y.groups) a.0.metric

module _ (nodes : List ℕ) (ys : List DraftLink) (ks : List Link) (d : IsDraft (draft_of nodes ys)) (accepted : IsAcceptedDraft nodes ys) (sorted : AreSorted ys) (numbered : AllZip (IsNumbered nodes) ys ks) where
  long : length ks ≡ length ys
  long = zip-length (IsNumbered nodes) ys ks numbered

  at : (l : ℕ) → l < length ks → IsNumbered nodes (get_or ys l no_draft) (get_or ks l no_link)
  at l within = zip-at (IsNumbered nodes) ys ks l no_draft no_link numbered (omega (arith, long))

  key-less : (k l : ℕ) → k < l → l < length ks → KeyLt (get_or ks k no_link).key (get_or ks l no_link).key
  key-less k l lt within =
      let low : KeyLt (get_or ys k no_draft).key (get_or ys l no_draft).key = KeyLt-from_cmp _ _ (far-below key_total key_of ys (ascend-from_once ys sorted accepted.keys).at k l no_draft lt (omega (arith, long))) in
      subst (λ a. KeyLt a (get_or ks l no_link).key) (sym (at k (omega arith)).key) (subst (λ b. KeyLt (get_or ys k no_draft).key b) (sym (at l within).key) low)

  from-le : (a b : LinkKey) → KeyLt a b → a.from ≤ b.from
  from-le a b h = ⊎_elim (λ lt. omega arith) (λ rest. let same : a.from ≡ b.from = rest.0 in omega arith) h

  pub by_tail : AreByTail ks
  by_tail k l le within =
      ⊎_elim
      (λ (e : k ≡ l). let P : ℕ → Type 0 = λ n. (get_or ks n no_link).from.0 ≤ (get_or ks l no_link).from.0 in subst P (sym e) (omega arith))
      (λ (ne : k ≢ l).
      let low : (get_or ks k no_link).key.from ≤ (get_or ks l no_link).key.from = from-le _ _ (key-less k l (omega arith) within) in
      let a = at k (omega arith) in
      let b = at l within in
      let same_a : slice_index nodes (get_or ks k no_link).from.0 ≡ (get_or ks k no_link).key.from = a.from.there ∙ ap (λ (key : LinkKey). key.from) (sym a.key) in
      let same_b : slice_index nodes (get_or ks l no_link).from.0 ≡ (get_or ks l no_link).key.from = b.from.there ∙ ap (λ (key : LinkKey). key.from) (sym b.key) in
      ⊎_elim
      (λ (gt : (get_or ks l no_link).from.0 < (get_or ks k no_link).from.0).
      let high : slice_index nodes (get_or ks l no_link).from.0 < slice_index nodes (get_or ks k no_link).from.0 = ascending-far nodes d.nodes _ _ gt a.from.within in
      absurd (omega arith))
      (λ ge. ge)
      (cases_lt (get_or ks l no_link).from.0 (get_or ks k no_link).from.0))
      (cases_eq k l)

  positive : (l : ℕ) → l < length ys → 0 < (get_or ys l no_draft).metric
  positive l within =
      ⊎_elim
      (λ (zero_here : (get_or ys l no_draft).metric ≡ 0). absurd (accepted.metrics (get_or ys l no_draft).key (get_or ys l no_draft, Contains-get_or ys l no_draft within, refl, zero_here)))
      (λ (more : (get_or ys l no_draft).metric ≢ 0). omega arith)
      (cases_eq (get_or ys l no_draft).metric 0)

  is_link : (l : ℕ) → l < length ks → IsLink (graph_of nodes ys ks) (get_or ks l no_link)
  is_link l within =
      let n = at l within in
      let inside : l < length ys = omega (arith, long) in
      let more : 0 < (get_or ys l no_draft).metric = positive l inside in
      let small : (get_or ys l no_draft).metric < 16777215 = All-get_or (λ (link : DraftLink). link.metric < 16777215) ys l no_draft inside d.metrics in
      (n.from.within, n.to.within, rw n.metric more, rw n.metric small)

  pub is_graph : IsGraph (graph_of nodes ys ks)
  is_graph = record {
    few_nodes = accepted.few_nodes;
    few_links = rw long accepted.few_links;
    each = is_link;
    by_tail = by_tail;
  }

  pub is_named : IsNamed (graph_of nodes ys ks)
  is_named = record {
    ascending = λ u v lt within. ascending-far nodes d.nodes u v lt within;
    ends = λ l within. (ap (λ (key : LinkKey). key.from) (at l within).key ∙ sym (at l within).from.there, ap (λ (key : LinkKey). key.to) (at l within).key ∙ sym (at l within).to.there);
    keys = key-less;
  }

  groups-at : (l : ℕ) → l < length ks → get_or (map groups_in ys) l [] ≡ (get_or ys l no_draft).groups
  groups-at l within = get_or-map groups_in ys l no_draft [] (omega (arith, long))

  pub is_grouped : IsGrouped (graph_of nodes ys ks)
  is_grouped = record {
    long = length-map ys groups_in ∙ sym long;
    ascending = λ l within. subst IsStrictlyIncreasing (sym (groups-at l within)) (All-get_or (λ (link : DraftLink). IsStrictlyIncreasing link.groups) ys l no_draft (omega (arith, long)) d.groups);
    pairs = λ k l within_k within_l pair.
        let in_k : k < length ys = omega (arith, long) in
        let in_l : l < length ys = omega (arith, long) in
        let moved : IsSamePair (get_or ys k no_draft).key (get_or ys l no_draft).key = subst (λ a. IsSamePair a (get_or ys l no_draft).key) (at k within_k).key (subst (λ b. IsSamePair (get_or ks k no_link).key b) (at l within_l).key pair) in
        groups-at k within_k
        ∙ d.pairs (get_or ys k no_draft) (get_or ys l no_draft) (Contains-get_or ys k no_draft in_k) (Contains-get_or ys l no_draft in_l) moved
        ∙ sym (groups-at l within_l);
  }

  pub is_built : IsBuilt (draft_of nodes ys) (graph_of nodes ys ks)
  is_built = record {
    systems = refl;
    links = rw (drafted-numbered nodes ys ks numbered) (IsPermutation-refl ys);
    overloaded = refl;
    graph = is_graph;
    named = is_named;
    grouped = is_grouped;
  }

  abbrev graph_with : List (List ℕ) → List Bool → Graph
  graph_with groups overloaded = record { systems = nodes; links = ks; groups = groups; overloaded = overloaded }

  -- the same of a graph with these parts
  pub built_from : (groups : List (List ℕ)) (overloaded : List Bool) → groups ≡ map groups_in ys → overloaded ≡ [] → IsBuilt (draft_of nodes ys) (record { systems = nodes; links = ks; groups = groups; overloaded = overloaded })
  built_from groups overloaded is none =
      let P : List (List ℕ) → Type 0 = λ gs. IsBuilt (draft_of nodes ys) (graph_with gs overloaded) in
      let Q : List Bool → Type 0 = λ bs. IsBuilt (draft_of nodes ys) (graph_with (map groups_in ys) bs) in
      subst P (sym is) (subst Q (sym none) is_built)

  pub laid_out_from : (groups : List (List ℕ)) (overloaded : List Bool) (edges : List Edge) (starts : List ℕ) (lists : List (List LinkNo)) (sets : List (List ℕ)) → groups ≡ map groups_in ys → overloaded ≡ [] → edges ≡ map edge_of ks → AreStarts (length nodes) ks starts
      → AreListedByEnd edges (length edges) (length nodes) lists → AreSharing groups sets → IsLaidOut (record { systems = nodes; links = ks; groups = groups; overloaded = overloaded }) edges starts lists sets
  laid_out_from groups overloaded edges starts lists sets is none at_edges at_starts at_ends at_sets =
      let b = built_from groups overloaded is none in
      let P : List Edge → Type 0 = λ es. AreListedByEnd es (length es) (length nodes) lists in
      record {
        graph = b.graph;
        named = b.named;
        grouped = b.grouped;
        edges = at_edges;
        starts = at_starts;
        incoming = incoming-from_listed (graph_with groups overloaded) lists (subst P at_edges at_ends);
        sharing = at_sets;
      }

  -- groups are listed for at most 2,048 links
  pub few_groups : (groups : List (List ℕ)) → groups ≡ map groups_in ys → length groups ≤ 2048
  few_groups groups is = rw (is, length-map) accepted.few_links

  -- the edges of the links end at nodes
  pub ends_within : (edges : List Edge) → edges ≡ map edge_of ks → (l : ℕ) → l < length edges → end_in edges l < length nodes
  ends_within edges is l within =
      let inside : l < length ks = omega (arith, ap length is, length-map ks edge_of) in
      let at : end_in edges l ≡ (get_or ks l no_link).to.0 = ap (λ es. end_in es l) is ∙ ends_of (graph_with [] []) l inside in
      rw at (is_link l inside).1

-- from the sorted links to the drafted ones
module _ (nodes : List ℕ) (xs ys : List DraftLink) (same : IsPermutation xs ys) where
  back : IsPermutation ys xs
  back = IsPermutation-sym xs ys same

  pub draft-moved : IsDraft (draft_of nodes xs) → IsDraft (draft_of nodes ys)
  draft-moved d = record {
    nodes = d.nodes;
    ends = All-permutation (HasEnds nodes) xs ys same d.ends;
    metrics = All-permutation (λ (link : DraftLink). link.metric < 16777215) xs ys same d.metrics;
    groups = All-permutation (λ (link : DraftLink). IsStrictlyIncreasing link.groups) xs ys same d.groups;
    pairs = λ a b in_a in_b pair. d.pairs a b (Contains-permutation ys xs a back in_a) (Contains-permutation ys xs b back in_b) pair;
  }

  zero-moved : (key : LinkKey) → HasZero ys key → HasZero xs key
  zero-moved key z = (z.0, Contains-permutation ys xs z.0 back z.1, z.2, z.3)

  zero-back : (key : LinkKey) → HasZero xs key → HasZero ys key
  zero-back key z = (z.0, Contains-permutation xs ys z.0 same z.1, z.2, z.3)

  count-same : (key : LinkKey) → count_by (λ (link : DraftLink). same_key key link.key) ys ≡ count_by (λ (link : DraftLink). same_key key link.key) xs
  count-same key = sum_by-IsPermutation (λ (link : DraftLink). cond (same_key key link.key) 1 0) xs ys same

  twice-moved : (key : LinkKey) → IsTwice ys key → IsTwice xs key
  twice-moved key t = rw (← count-same key) t

  twice-back : (key : LinkKey) → IsTwice xs key → IsTwice ys key
  twice-back key t = rw (count-same key) t

  no_zero-moved : NoZero ys → NoZero xs
  no_zero-moved none key z = none key (zero-back key z)

  none_twice-moved : NoneTwice ys → NoneTwice xs
  none_twice-moved none key t = none key (twice-back key t)

  least-moved : (P Q : LinkKey → Type 0) → ((key : LinkKey) → P key → Q key) → ((key : LinkKey) → Q key → P key) → (from to : ℕ) → AreLeast P from to → AreLeast Q from to
  least-moved P Q forth backwards from to l = record {
    key = l.key;
    begins = l.begins;
    ends = l.ends;
    is = record { holds = forth l.key l.is.holds; least = λ other q. l.is.least other (backwards other q) };
  }

  pub accepted-moved : IsAcceptedDraft nodes ys → IsAcceptedDraft nodes xs
  accepted-moved a = record {
    metrics = no_zero-moved a.metrics;
    keys = none_twice-moved a.keys;
    few_nodes = a.few_nodes;
    few_links = rw (← length_permutation xs ys same) a.few_links;
  }

  pub refusal-moved : (fault : GraphFault) → IsRefusal nodes ys fault → IsRefusal nodes xs fault
  refusal-moved (ZeroMetric from to) r = least-moved (HasZero ys) (HasZero xs) zero-moved zero-back from to r
  refusal-moved (DuplicateLink from to) r = (no_zero-moved r.0, least-moved (IsTwice ys) (IsTwice xs) twice-moved twice-back from to r.1)
  refusal-moved (TooManyNodes count) r = (no_zero-moved r.0, none_twice-moved r.1, r.2, r.3)
  refusal-moved (TooManyLinks count) r = (no_zero-moved r.0, none_twice-moved r.1, r.2, r.3, r.4 ∙ length_permutation xs ys same)
  refusal-moved (Memory fault) r = tt

  pub built-moved : (g : Graph) → IsBuilt (draft_of nodes ys) g → IsBuilt (draft_of nodes xs) g
  built-moved g b = record {
    systems = b.systems;
    links = IsPermutation-trans xs ys (drafted g.links g.groups) same b.links;
    overloaded = b.overloaded;
    graph = b.graph;
    named = b.named;
    grouped = b.grouped;
  }
