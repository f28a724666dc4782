-- A packet under a node's label follows a shortest walk.
use Rattle.std.proofs.Common.{◌≡◌, ◌≢◌, ℕ, ◌<◌, ◌≤◌, ⊎_elim, inl, inr, Bool, List, [], ◌∷◌, ◌++◌, length, refl, arith, ap, sym, ◌∙◌, subst}
use Rattle.std.proofs.lemmas.Bool.{cases_eq}
use Rattle.std.proofs.lemmas.List.{length-append}
use Rattle.sr_model.specs.declared.link.LinkNo.{LinkNo}
use Rattle.sr_model.specs.declared.entry.Move.{Move}
use Rattle.sr_model.specs.declared.entry.Move.TheVariants.{Popped, Crossed}
use Rattle.sr_model.specs.declared.entry.Out.{Out}
use Rattle.sr_model.specs.declared.entry.Out.TheVariants.{Pop, Swap, Null as NullOut}
use Rattle.sr_model.specs.Graph.{Graph, node_count, link_at, head, IsLink}
use Rattle.sr_model.specs.Walk.{IsWalk, IsDistance, IsNextHop}
use Rattle.sr_model.specs.Space.{InP}
use Rattle.sr_model.specs.Label.{Net, IsLabel}
use Rattle.sr_model.specs.Rule.{IsNet}
use Rattle.sr_model.specs.Repair.{IsSound}
use Rattle.sr_model.specs.Forward.{Crossing, Step, Run, RunsWell, crossed}
use Rattle.sr_model.specs.Table.{leaves}
use Rattle.sr_laws.specs.Delivery.{PacketRunsWell}
use Rattle.sr_walks.proofs.Walks.{IsWalk-any}
use Rattle.sr_walks.proofs.Distances.{IsShortest-from_cost, sum-from_IsNextHop}
use Rattle.sr_walks.proofs.Distinct.{shortest-length}
use Rattle.sr_laws.proofs.Waypoints.{space-walk}
use Rattle.sr_laws.proofs.Delivery.{hop-outside, InP-hop, same_node, not_null, not_adj, can_cross, first_hop, sound-delivers, RunCounts, sound-counts}
use Rattle.sr_laws.proofs.Stacks.{crossing-out, out-from_crossing}

-- what holds of a run, and that its links lead to where the packet is
pub record PacketGoes (n : Net) (x : List Bool) (u d : ℕ) (rest : List ℕ) (ms : List Move) (v : ℕ) (after : List ℕ) : Type 0 where
  pub well : PacketRunsWell n x u d rest ms v after
  pub walk : IsWalk n.graph x u (crossed ms) v

-- the distance to a node of P is that without the failed links too
pub distance-in_P : (g : Graph) (x : List Bool) (u d c : ℕ) → InP g x u d → IsDistance g [] u d c → IsDistance g x u d c
distance-in_P g x u d c inside far =
    let p = space-walk g x u d c inside far in
    record { reached = (p.0, p.1, p.2); least = λ q a. far.least q (IsWalk-any g x u q d a) }

leaves_over : (o : Out) (rest : List ℕ) → (leaves o rest ≡ leaves o [] ++ rest) × (length (leaves o []) ≤ 1)
leaves_over Pop rest = (refl, omega arith)
leaves_over NullOut rest = (refl, omega arith)
leaves_over (Swap t) rest = (refl, omega arith)

more_than : (t : ℕ) (rest : List ℕ) → t ∷ rest ≡ rest → ⊥
more_than t rest e = omega (arith, ap length e)

-- the link to a next hop, with no segment, is a sound list
pub hop-sound : (n : Net) (r : IsNet n) (x : List Bool) (u d c l : ℕ) → InP n.graph x u d → IsDistance n.graph [] u d c → IsNextHop n.graph [] u d l → IsSound n x u d (record { first = l; segments = [] })
hop-sound n r x u d c l inside far hop =
    let s = sum-from_IsNextHop n.graph [] u d l c far hop in
    record {
      within = s.0;
      begins = s.1;
      outside = hop-outside n.graph x u d l inside hop;
      last = head n.graph l;
      middle = 0;
      rest = s.2.0;
      leads = (refl, refl);
      clear = s.3;
      ends = InP-hop n.graph x u d l r.graph inside hop;
      goes_on = s.2.1;
      fits = subst (λ k. IsDistance n.graph x u d k) (omega (arith, s.2.2)) (distance-in_P n.graph x u d c inside far);
    }

module _ (n : Net) (r : IsNet n) (x : List Bool) (u d label c : ℕ) (source : u < node_count n.graph) (inside : InP n.graph x u d) (far : IsDistance n.graph [] u d c) (is : IsLabel n u d label) where
  -- the packet is at its end
  there : (rest : List ℕ) → u ≡ d → (ms : List Move) (v : ℕ) (after : List ℕ) → Run n [] rest u (label ∷ rest) ms v after → PacketGoes n x u d rest ms v after
  there rest same [] v after run = record {
    walk = sym run.0;
    well = record {
      ends = inr ((λ e. more_than label rest (sym run.1 ∙ e)), Popped, u, rest, subst (λ k. Step n [] k after Popped u rest) (sym run.0) (subst (λ (st : List ℕ). Step n [] u st Popped u rest) (sym run.1) (inr (subst (λ k. IsLabel n u k label) (sym same) is), refl, refl)));
      along = ([], (same, λ q a. omega arith));
      few = omega arith;
    };
  }
  there rest same (Popped ∷ []) v after run = record {
    walk = sym (run.4.0 ∙ run.3.1);
    well = record {
      ends = inl (run.4.0 ∙ run.3.1 ∙ same, run.4.1 ∙ run.3.2);
      along = ([], (same, λ q a. omega arith));
      few = omega arith;
    };
  }
  there rest same (Popped ∷ (m ∷ ms)) v after run = absurd (run.4.2 run.3.2)
  there rest same (Crossed l ∷ ms) v after run =
      ⊎_elim
      (λ adj. absurd (not_adj n r u d label l.0 is run.3.2 adj.0))
      (λ node. absurd (node.2 (same_node n r u node.0 d label node.1 is ∙ sym same)))
      run.3.4

  -- what follows the first link
  crosses : (rest : List ℕ) (l : LinkNo) (ms : List Move) (v : ℕ) (after : List ℕ) (w : ℕ) (mid : List ℕ) → w ≡ head n.graph l.0 → IsNextHop n.graph [] u d l.0 → Crossing n d (head n.graph l.0) rest mid → Run n [] rest w mid ms v after → PacketGoes n x u d rest (Crossed l ∷ ms) v after
  crosses rest l ms v after w mid at hop cross run =
      let o = out-from_crossing n d (head n.graph l.0) rest mid cross in
      let over = leaves_over o.0 rest in
      let sound : IsSound n x u d (record { first = l.0; segments = [] }) = hop-sound n r x u d c l.0 inside far hop in
      let stack : Crossing n d (head n.graph l.0) [] (leaves o.0 []) = (crossing-out n d (head n.graph l.0) o.0 [] (leaves o.0 []) o.1).1 refl in
      let run' : Run n [] rest (head n.graph l.0) (leaves o.0 [] ++ rest) ms v after = subst (λ k. Run n [] rest k (leaves o.0 [] ++ rest) ms v after) at (subst (λ (st : List ℕ). Run n [] rest w st ms v after) (o.2 ∙ over.0) run) in
      let well : RunsWell n x u d l.0 (leaves o.0 []) rest ms v after = sound-delivers n r x u d (record { first = l.0; segments = [] }) (leaves o.0 []) source is.1 sound stack rest ms v after run' in
      let steps : RunCounts n x u l.0 (leaves o.0 []) ms v = sound-counts n r x u d (record { first = l.0; segments = [] }) (leaves o.0 []) is.1 sound stack rest ms v after run' in
      let short : length ((l.0 ∷ crossed ms) ++ well.along.0) < node_count n.graph = shortest-length n.graph x u ((l.0 ∷ crossed ms) ++ well.along.0) d r.graph source well.along.1 in
      record {
        walk = steps.walk;
        well = record {
          ends = well.ends;
          along = well.along;
          few = omega (arith, length-append (l.0 ∷ crossed ms) well.along.0, over.1, steps.steps);
        };
      }

  apart : (rest : List ℕ) → u ≢ d → (ms : List Move) (v : ℕ) (after : List ℕ) → Run n [] rest u (label ∷ rest) ms v after → PacketGoes n x u d rest ms v after
  apart rest ne [] v after run =
      let hop : (l : ℕ) × IsNextHop n.graph [] u d l = first_hop n.graph u d c ne far in
      let k : IsLink n.graph (link_at n.graph hop.0) = r.graph.each hop.0 hop.1.shortest.0.0 in
      let cross = can_cross n r u d (head n.graph hop.0) label rest k.1 is in
      let step : Step n [] u (label ∷ rest) (Crossed (record { 0 = hop.0 })) (head n.graph hop.0) cross.0 = (hop.1.shortest.0.0, refl, hop.1.shortest.0.2, refl, inr (d, is, (λ e. ne (sym e)), hop.1, cross.1)) in
      let away : IsDistance n.graph x u d c = distance-in_P n.graph x u d c inside far in
      record {
        walk = sym run.0;
        well = record {
          ends = inr ((λ e. more_than label rest (sym run.1 ∙ e)), Crossed (record { 0 = hop.0 }), head n.graph hop.0, cross.0, subst (λ k. Step n [] k after (Crossed (record { 0 = hop.0 })) (head n.graph hop.0) cross.0) (sym run.0) (subst (λ (st : List ℕ). Step n [] u st (Crossed (record { 0 = hop.0 })) (head n.graph hop.0) cross.0) (sym run.1) step));
          along = (away.reached.0, IsShortest-from_cost n.graph x u d c away.reached.0 away away.reached.1 away.reached.2);
          few = omega arith;
        };
      }
  apart rest ne (Popped ∷ ms) v after run =
      ⊎_elim
      (λ null. absurd (not_null n r u d label is null))
      (λ own. absurd (ne (same_node n r u u d label own is)))
      run.3.0
  apart rest ne (Crossed l ∷ ms) v after run =
      ⊎_elim
      (λ adj. absurd (not_adj n r u d label l.0 is run.3.2 adj.0))
      (λ node.
      let e : node.0 ≡ d = same_node n r u node.0 d label node.1 is in
      crosses rest l ms v after run.0 run.1 run.3.3 (subst (λ b. IsNextHop n.graph [] u b l.0) e node.3) (subst (λ b. Crossing n b (head n.graph l.0) rest run.1) e node.4) run.4)
      run.3.4

  pub packet-goes : (rest : List ℕ) (ms : List Move) (v : ℕ) (after : List ℕ) → Run n [] rest u (label ∷ rest) ms v after → PacketGoes n x u d rest ms v after
  packet-goes rest ms v after run = ⊎_elim (λ (same : u ≡ d). there rest same ms v after run) (λ (ne : u ≢ d). apart rest ne ms v after run) (cases_eq u d)

pub packet-delivers : (n : Net) → IsNet n → (x : List Bool) (u d label c : ℕ) → u < node_count n.graph → InP n.graph x u d → IsDistance n.graph [] u d c → IsLabel n u d label → (rest : List ℕ) (ms : List Move) (v : ℕ) (after : List ℕ) → Run n [] rest u (label ∷ rest) ms v after → PacketRunsWell n x u d rest ms v after
packet-delivers n r x u d label c source inside far is rest ms v after run = (packet-goes n r x u d label c source inside far is rest ms v after run).well
