-- Where nothing changed, each tree and each case stays.
use Rattle.std.proofs.Common.{◌≡◌, ℕ, ◌<◌, ⊎_elim, inl, inr, Bool, List, [], refl, ap, sym, ◌∙◌, Option, Some, None}
use Rattle.std.specs.Prelude.{is_some}
use Rattle.sr_model.specs.declared.case.Case.{Case}
use Rattle.sr_model.specs.declared.link.LinkNo.{LinkNo}
use Rattle.sr_model.specs.declared.name.LinkKey.{LinkKey}
use Rattle.sr_model.specs.Graph.{Graph, node_count, link_at, tail, metric, IsLink, IsNamed}
use Rattle.sr_model.specs.Walk.{IsRow}
use Rattle.sr_model.specs.Case.{IsFailedSet, source_of}
use Rattle.sr_model.specs.Label.{Labels, Net, labels_at, adj_at}
use Rattle.sr_model.specs.Rule.{IsNet, node_at}
use Rattle.sr_model.specs.Stay.{HaveSameNodes, HaveSameName, HaveSamePairs, IsChanged, IsKeptTree, HasSameDepth, IsKeptCase, case_with}
use Rattle.sr_laws.specs.Staying.{IsUnchanged}
use Rattle.sr_laws.proofs.Keys.{key-one}

-- no link of a graph is changed in it
pub unchanged : (g : Graph) → IsNamed g → (key : LinkKey) → IsChanged g g key → ⊥
unchanged g named key c =
    ⊎_elim
    (λ gone. gone.1 gone.0)
    (λ other. ⊎_elim
    (λ come. come.1 come.0)
    (λ both.
    let same : both.2.0 ≡ both.3.0 = key-one g named both.2.0 both.3.0 both.2.1 both.3.1 (both.2.2 ∙ sym both.3.2) in
    both.4 (sym both.2.3 ∙ ap (metric g) same ∙ both.3.3))
    other)
    c

pub tree-unchanged : (g h : Graph) → HaveSameNodes g h → ((key : LinkKey) → IsChanged g h key → ⊥) → (u : ℕ) (cells : List ℕ) → IsRow g [] u cells → IsKeptTree g h u
tree-unchanged g h nodes none u cells row = record { nodes = nodes; cells = cells; row = row; idle = λ key changed. absurd (none key changed) }

-- nothing changes from a net to itself
pub net-unchanged : (n : Net) → IsNet n → IsUnchanged n n
net-unchanged n r = record {
  nodes = record { systems = refl; overloaded = λ v at. refl };
  links = unchanged n.graph r.named;
  labels = refl;
  adj = λ i j is. ap (λ t. adj_at n t) (key-one n.graph r.named i j is.0 is.1 (sym is.2));
  depth = refl;
}

depth_same : (n m : Net) (s : ℕ) (o : Option ℕ) → m.labels ≡ n.labels → m.depth ≡ n.depth → (labels_at n s).imposes ≡ o → HasSameDepth n m s
depth_same n m s None labels depth e = inr (e, ap (λ (ls : List Labels). (node_at ls s).imposes) labels ∙ e, depth)
depth_same n m s (Some k) labels depth e = inl (k, e, ap (λ (ls : List Labels). (node_at ls s).imposes) labels ∙ e)

pub case-unchanged : (n m : Net) → IsNet n → IsUnchanged n m → ((u : ℕ) → u < node_count n.graph → (cells : List ℕ) × IsRow n.graph [] u cells) → (case : Case) (link : LinkNo) → HaveSameName n.graph m.graph case.link.0 link.0 → (x y : List Bool) → IsFailedSet n.graph case x → IsFailedSet m.graph (case_with case link) y → HaveSamePairs n.graph x m.graph y → (post : List ℕ) → IsRow n.graph x (source_of n.graph case) post → IsKeptCase n m case
case-unchanged n m r same rows case link name x y set set' pairs post row =
    let tree : (u : ℕ) → u < node_count n.graph → IsKeptTree n.graph m.graph u = λ u at. tree-unchanged n.graph m.graph same.nodes same.links u (rows u at).0 (rows u at).1 in
    let labels : m.labels ≡ n.labels = same.labels in
    let k : IsLink n.graph (link_at n.graph case.link.0) = r.graph.each case.link.0 name.0 in
    record {
      within = name.0;
      nodes = same.nodes;
      link = link;
      protected = name;
      x = x;
      y = y;
      failed = set;
      failed' = set';
      pairs = pairs;
      depth = depth_same n m (tail n.graph case.link.0) (labels_at n (tail n.graph case.link.0)).imposes labels same.depth refl;
      tree = tree (tail n.graph case.link.0) k.0;
      post = post;
      row = row;
      idle = λ key changed free. absurd (same.links key changed);
      index = λ d inside outside hop. ap (λ (ls : List Labels). is_some (node_at ls d).index) (sym labels);
      way = λ w at on. record {
        tree = tree w at;
        index = ap (λ (ls : List Labels). (node_at ls w).index) (sym labels);
        keep = ap (λ (ls : List Labels). (node_at ls w).keep) (sym labels);
        explicit = ap (λ (ls : List Labels). (node_at ls w).explicit) (sym labels);
        adj = λ i j is begins. same.adj i j is;
      };
    }
