-- Nets of one graph in which the same nodes have an index and the same links a label have the same sound lists.
use Rattle.std.proofs.Common.{◌≡◌, ℕ, ◌<◌, Bool, List, [], ◌∷◌, sym, ◌∙◌, subst}
use Rattle.std.specs.Prelude.{is_some}
use Rattle.sr_model.specs.declared.repair.Segment.{Segment}
use Rattle.sr_model.specs.declared.repair.Segment.TheVariants.{Node, Adj}
use Rattle.sr_model.specs.Graph.{Graph, node_count, link_count, head}
use Rattle.sr_model.specs.Label.{Net, labels_at, adj_at}
use Rattle.sr_model.specs.Repair.{Path, Leads, Clear, IsSound, IsLeast}
use Rattle.sr_model.specs.Walk.{IsDistance}
use Rattle.sr_why.specs.declared.whole.WholeList.{WholeList}
use Rattle.sr_why.specs.Labelled.{IsLabelled}
use Rattle.sr_why.specs.Reasons.{path_of_list, IsLeastList}

-- the nets have one graph, in which the same nodes have an index and the same links a label
pub record AgreeOnLabels (n m : Net) : Type 0 where
  pub graph : m.graph ≡ n.graph
  pub indices : (v : ℕ) → v < node_count n.graph → is_some (labels_at m v).index ≡ is_some (labels_at n v).index
  pub labels : (l : ℕ) → l < link_count n.graph → is_some (adj_at m l) ≡ is_some (adj_at n l)

pub agree-sym : (n m : Net) → AgreeOnLabels n m → AgreeOnLabels m n
agree-sym n m a = record {
  graph = sym a.graph;
  indices = λ v within. sym (a.indices v (subst (λ (g : Graph). v < node_count g) a.graph within));
  labels = λ l within. sym (a.labels l (subst (λ (g : Graph). l < link_count g) a.graph within));
}

-- so it is with two labelled nets of one net
pub agree-labelled : (n m k : Net) → IsLabelled n m → IsLabelled n k → AgreeOnLabels m k
agree-labelled n m k a b = record {
  graph = b.graph ∙ sym a.graph;
  indices = λ v within.
      let w : v < node_count n.graph = subst (λ (g : Graph). v < node_count g) a.graph within in
      b.indices v w ∙ sym (a.indices v w);
  labels = λ l within.
      let w : l < link_count n.graph = subst (λ (g : Graph). l < link_count g) a.graph within in
      b.labels l w ∙ sym (a.labels l w);
}

-- the net over another graph
abbrev over : Net → Graph → Net
over m g = record m { graph = g }

leads_over : (n m : Net) → AgreeOnLabels n m → (x : List Bool) (u : ℕ) (ss : List Segment) (w c : ℕ) → Leads n x u ss w c → Leads (over m n.graph) x u ss w c
leads_over n m a x u [] w c k = k
leads_over n m a x u (Node v ∷ ss) w c k =
    (k.0, k.1, a.indices v.0 k.3 ∙ k.2, k.3, k.4, k.5, k.6, leads_over n m a x v.0 ss w k.1 k.7, k.8)
leads_over n m a x u (Adj l ∷ ss) w c k =
    (k.0, k.1, k.2, k.3, a.labels l.0 k.1 ∙ k.4, leads_over n m a x (head n.graph l.0) ss w k.0 k.5, k.6)

clear_over : (n m : Net) (d u : ℕ) (ss : List Segment) → Clear n d u ss → Clear (over m n.graph) d u ss
clear_over n m d u [] k = k
clear_over n m d u (Node v ∷ ss) k = (k.0, clear_over n m d v.0 ss k.1)
clear_over n m d u (Adj l ∷ ss) k = (k.0, clear_over n m d (head n.graph l.0) ss k.1)

sound_over : (n m : Net) → AgreeOnLabels n m → (x : List Bool) (s d : ℕ) (a : Path) → IsSound n x s d a → IsSound (over m n.graph) x s d a
sound_over n m e x s d a i = record {
  within = i.within;
  begins = i.begins;
  outside = i.outside;
  last = i.last;
  middle = i.middle;
  rest = i.rest;
  leads = leads_over n m e x (head n.graph a.first) a.segments i.last i.middle i.leads;
  clear = clear_over n m d (head n.graph a.first) a.segments i.clear;
  ends = i.ends;
  goes_on = i.goes_on;
  fits = i.fits;
}

-- a list that is sound in the one is sound in the other
pub sound-agree : (n m : Net) → AgreeOnLabels n m → (x : List Bool) (s d : ℕ) (a : Path) → IsSound n x s d a → IsSound m x s d a
sound-agree n m e x s d a i =
    subst (λ (g : Graph). IsSound (over m g) x s d a) (sym e.graph) (sound_over n m e x s d a i)

-- and so is the least one
pub least-agree : (n m : Net) → AgreeOnLabels n m → (x : List Bool) (s d : ℕ) (a : Path) → IsLeast n x s d a → IsLeast m x s d a
least-agree n m e x s d a i = record {
  sound = sound-agree n m e x s d a i.sound;
  least = λ b j. i.least b (sound-agree m n (agree-sym n m e) x s d b j);
}

pub list-agree : (n m : Net) → AgreeOnLabels n m → (x : List Bool) (s d : ℕ) (list : WholeList) → IsLeastList n x s d list → IsLeastList m x s d list
list-agree n m e x s d list i = record {
  least = least-agree n m e x s d (path_of_list list) i.least;
  costs = subst (λ (g : Graph). IsDistance g x s d list.cost) (sym e.graph) i.costs;
}
