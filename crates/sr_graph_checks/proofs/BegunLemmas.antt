-- A search may go on from the source alone.
use Rattle.std.proofs.Common.{◌≡◌, ℕ, ◌<◌, ⊎_elim, inl, Bool, replicate, List, length, get_or, set, arith, ap, ◌∙◌}
use Rattle.std.proofs.lemmas.List.{get_or_default}
use Rattle.std.proofs.lemmas.Bool.{cases_eq}
use Rattle.sr_model.specs.Graph.{Graph, node_count, head, IsGraph, IsLink, link_at}
use Rattle.sr_model.specs.declared.link.NodeNo.{NodeNo}
use Rattle.sr_model.specs.declared.link.TheConstants.{FAR}
use Rattle.sr_spf.specs.Begun.{IsBegun}
use Rattle.sr_spf.proofs.QueueLemmas.{IsTentative-start}

-- all nodes of the graph, in order
pub record AreAllNodes (g : Graph) (nodes : List NodeNo) : Type 0 where
  pub long : length nodes ≡ node_count g
  pub each : (k : ℕ) → k < node_count g → get_or nodes k (record { 0 = k }) ≡ record { 0 = k }

-- where all nodes are listed, it is enough to know the source's own distance
pub begun-alone : (g : Graph) (x : List Bool) (s : ℕ) (cells : List ℕ) (nodes : List NodeNo) → IsGraph g
    → s < node_count g → cells ≡ set (replicate (node_count g) FAR) s 0 → AreAllNodes g nodes
    → IsBegun g x s cells nodes
begun-alone g x s cells nodes graph within is all =
    let (t, far) = IsTentative-start g x s cells graph within is in
    record {
      graph = graph;
      long = t.long;
      within = within;
      source = t.source;
      top = t.top;
      ways = λ v inside near. ⊎_elim (λ e. inl e) (λ ne. absurd (omega (arith, far v inside ne))) (cases_eq v s);
      listed = λ v inside _. (v, omega (arith, all.long), all.each v inside);
      nodes = λ k d below.
          let at : get_or nodes k d ≡ record { 0 = k } =
          get_or_default nodes k d (record { 0 = k }) below ∙ all.each k (omega (arith, all.long)) in
          rw at (omega (arith, all.long));
      stable = λ l below outside carry from_near to_near.
          let k : IsLink g (link_at g l) = graph.each l below in
          ⊎_elim
          (λ (e : head g l ≡ s). rw (ap (λ v. get_or cells v 0) e ∙ t.source) (omega arith))
          (λ ne. absurd (omega (arith, far (head g l) k.1 ne)))
          (cases_eq (head g l) s);
    }
