-- The run of a packet that is forwarded by next hops, with the links counted that it crosses.
use Rattle.std.proofs.Common.{◌≡◌, ◌≢◌, ℕ, ◌+◌, ◌%◌, ◌<◌, ◌⊎◌, ⊎_elim, inl, inr, List, [], ◌∷◌, ◌++◌, length, append-nil, Option, Some, option_map, refl, sym, ap, ◌∙◌, subst, arith}
use Rattle.std.specs.Prelude.{slice_get, map}
use Rattle.std.proofs.lemmas.Bool.{cases_eq}
use Rattle.std.proofs.lemmas.List.{length-map, length-append}
use Rattle.std.proofs.lemmas.Option.{slice_get-map, slice_get_within}
use Rattle.sr_model.specs.declared.link.LinkNo.{LinkNo}
use Rattle.sr_model.specs.declared.entry.Move.{Move}
use Rattle.sr_model.specs.declared.entry.Move.TheVariants.{Popped, Crossed}
use Rattle.sr_model.specs.Graph.{node_count, link_at, head, IsLink}
use Rattle.sr_model.specs.Walk.{IsNextHop}
use Rattle.sr_model.specs.Space.{InP}
use Rattle.sr_model.specs.Label.{Net, labels_at, IsLabel}
use Rattle.sr_model.specs.Rule.{IsNet}
use Rattle.sr_model.specs.Forward.{Step, StepBy, Run, RunBy, Crossing, AreLawful, crossed}
use Rattle.sr_walks.proofs.Distances.{InP-from_none}
use Rattle.sr_walks.proofs.Distinct.{shortest-length}
use Rattle.sr_laws.proofs.Arrivals.{crossed_push}
use Rattle.sr_laws.proofs.Delivery.{same_node, not_null, not_adj, can_cross}
use Rattle.sr_laws.proofs.Packets.{PacketGoes, packet-goes}
use Rattle.sr_spf.specs.Hops.{AreNextHops}
use Rattle.sr_loads.specs.declared.packet.Packet.{Packet}
use Rattle.sr_loads.specs.Tally.{AreNear, AddsRun, AddsPacket}
use Rattle.sr_loads.proofs.TallyLemmas.{adds-nothing, adds-more}
use Rattle.sr_laws.proofs.Places.{map-from}
use Rattle.sr_laws.proofs.StacksThere.{some-of}

-- ---- the next hops as lawful crossings
abbrev pub link_no : LinkNo → ℕ
link_no l = l.0

-- no link being closed, the next hops are the lawful crossings
hops-lawful : (n : Net) (u d : ℕ) (hops : List LinkNo) → AreNextHops n.graph u d hops → AreLawful n [] u d (map link_no hops)
hops-lawful n u d hops are = record {
  each = λ i l e.
      let h : (a : LinkNo) × (slice_get hops i ≡ Some a) × (link_no a ≡ l) = map-from link_no hops i l e in
      (subst (λ (k : ℕ). IsNextHop n.graph [] u d k) h.2 (are.each i h.0 h.1), refl);
  ascending = λ i j k l lt e f.
      let g : (a : LinkNo) × (slice_get hops i ≡ Some a) × (link_no a ≡ k) = map-from link_no hops i k e in
      let h : (a : LinkNo) × (slice_get hops j ≡ Some a) × (link_no a ≡ l) = map-from link_no hops j l f in
      let up : g.0.0 < h.0.0 = are.ascending i j g.0 h.0 lt g.1 h.1 in
      let low : g.0.0 ≡ k = g.2 in
      let high : h.0.0 ≡ l = h.2 in
      omega arith;
  all = λ l hop out.
      let at = are.all l hop in (
        at.0,
        slice_get-map link_no hops at.0 ∙ (ap (λ (o : Option LinkNo). option_map link_no o) at.2 ∙ ap (λ k. Some k) at.3),
      );
}

-- the hop of the choice number is the step that this takes under the label of the end
hop-step : (n : Net) → IsNet n → (choice u d t : ℕ) (hops : List LinkNo) (l : LinkNo) (after : List ℕ) → IsLabel n u d t → u ≢ d → AreNextHops n.graph u d hops → slice_get hops (choice % length hops) ≡ Some l → Crossing n d (head n.graph l.0) [] after → StepBy n [] choice u (t ∷ []) (Crossed l) (head n.graph l.0) after
hop-step n r choice u d t hops l after is ne are at cross =
    let hop : IsNextHop n.graph [] u d l.0 = are.each (choice % length hops) l at in
    let some : choice % length hops < length hops = slice_get_within hops (choice % length hops) l at in
    let long : length (map link_no hops) ≡ length hops = length-map hops link_no in
    let there : slice_get (map link_no hops) (choice % length hops) ≡ Some l.0 =
    slice_get-map link_no hops (choice % length hops) ∙ ap (λ (o : Option LinkNo). option_map link_no o) at in (
      (hop.shortest.0.0, refl, hop.shortest.0.2, refl, inr (d, is, (λ e. ne (sym e)), hop, cross)),
      λ b label other.
          let e : d ≡ b = same_node n r u d b t is label in (
            map link_no hops,
            subst (λ (k : ℕ). AreLawful n [] u k (map link_no hops)) e (hops-lawful n u d hops are),
            omega (arith, some, long),
            ap (λ (k : ℕ). slice_get (map link_no hops) (choice % k)) long ∙ there,
          ),
    )

-- ---- runs
run-push : (n : Net) (choice u : ℕ) (stack : List ℕ) (ms : List Move) (v : ℕ) (after : List ℕ) (m : Move) (w : ℕ) (next : List ℕ) → RunBy n [] choice u stack ms v after → StepBy n [] choice v after m w next → RunBy n [] choice u stack (ms ++ m ∷ []) w next
run-push n choice u stack [] v after m w next run step =
    (w, next, subst (λ (k : ℕ). StepBy n [] choice k stack m w next) run.0 (subst (λ (st : List ℕ). StepBy n [] choice v st m w next) run.1 step), (refl, refl))
run-push n choice u stack (p ∷ ms) v after m w next run step =
    (run.0, run.1, run.2, run-push n choice run.0 run.1 ms v after m w next run.3 step)

some-stack : (n : Net) (u : ℕ) (stack : List ℕ) (m : Move) (v : ℕ) (after : List ℕ) → Step n [] u stack m v after → stack ≢ []
some-stack n u stack m v after step e = subst (λ (st : List ℕ). Step n [] u st m v after) e step

-- a run by a choice number is a run
run-any : (n : Net) (choice u : ℕ) (stack : List ℕ) (ms : List Move) (v : ℕ) (after : List ℕ) → RunBy n [] choice u stack ms v after → Run n [] [] u stack ms v after
run-any n choice u stack [] v after run = run
run-any n choice u stack (m ∷ ms) v after run =
    (run.0, run.1, some-stack n u stack m run.0 run.1 run.2.0, run.2.0, run-any n choice run.0 run.1 ms v after run.3)

-- the packet crossed this many links, is at node u with this stack, and its crossings were added to the counts
pub record IsCounted (net : Net) (p : Packet) (before : List ℕ) (turn : ℕ) (counts : List ℕ) (u : ℕ) (stack : List ℕ) : Type 0 where
  pub label : ℕ
  pub is_label : IsLabel net p.from.0 p.to.0 label
  pub moves : List Move
  pub run : RunBy net [] p.choice p.from.0 (label ∷ []) moves u stack
  pub within : u < node_count net.graph
  pub long : length (crossed moves) ≡ turn
  pub adds : AddsRun (crossed moves) before counts

-- and it has arrived, with an empty stack, or has under way the label of its end alone on it
pub record IsForwarded (net : Net) (p : Packet) (before : List ℕ) (turn : ℕ) (counts : List ℕ) (u : ℕ) : Type 0 where
  pub stack : List ℕ
  pub run : IsCounted net p before turn counts u stack
  pub left : ((u ≡ p.to.0) × (stack ≡ [])) ⊎ ((u ≢ p.to.0) × (t : ℕ) × IsLabel net u p.to.0 t × (stack ≡ t ∷ []))

-- the packet starts
pub forwarded-none : (net : Net) → IsNet net → (p : Packet) (counts : List ℕ) → AreNear net p.from.0 p.to.0 → IsForwarded net p counts 0 counts p.from.0
forwarded-none net r p counts near =
    let i = some-of (labels_at net p.to.0).index near.peers.index in
    let t = r.inside p.from.0 p.to.0 i.0 near.peers.from near.peers.to i.1 in
    let is : IsLabel net p.from.0 p.to.0 t.0 = (i.0, near.peers.to, i.1, t.1) in
    record {
      stack = t.0 ∷ [];
      run = record {
        label = t.0;
        is_label = is;
        moves = [];
        run = (refl, refl);
        within = near.peers.from;
        long = refl;
        adds = adds-nothing counts;
      };
      left = inr ((λ e. near.peers.other (sym e)), t.0, is, refl);
    }

-- it crosses a link
counted-link : (net : Net) (p : Packet) (before : List ℕ) (turn : ℕ) (counts : List ℕ) (u t : ℕ) (l : LinkNo) (after more : List ℕ) → IsCounted net p before turn counts u (t ∷ []) → StepBy net [] p.choice u (t ∷ []) (Crossed l) (head net.graph l.0) after → head net.graph l.0 < node_count net.graph → AddsRun (l.0 ∷ []) counts more → IsCounted net p before (turn + 1) more (head net.graph l.0) after
counted-link net p before turn counts u t l after more is step within adds =
    let links : crossed (is.moves ++ Crossed l ∷ []) ≡ crossed is.moves ++ l.0 ∷ [] = crossed_push is.moves (Crossed l) in
    let long : length (crossed is.moves ++ l.0 ∷ []) ≡ turn + 1 = omega (arith, length-append (crossed is.moves) (l.0 ∷ []), is.long) in
    record {
      label = is.label;
      is_label = is.is_label;
      moves = is.moves ++ Crossed l ∷ [];
      run = run-push net p.choice p.from.0 (is.label ∷ []) is.moves u (t ∷ []) (Crossed l) (head net.graph l.0) after is.run step;
      within = within;
      long = ap length links ∙ long;
      adds = subst (λ (ls : List ℕ). AddsRun ls before more) (sym links) (adds-more (crossed is.moves) (l.0 ∷ []) before counts more is.adds adds);
    }

-- what is left on it at its end is popped
counted-pop : (net : Net) (p : Packet) (before : List ℕ) (turn : ℕ) (counts : List ℕ) (u t : ℕ) → IsCounted net p before turn counts u (t ∷ []) → (t ≡ 0) ⊎ IsLabel net u u t → IsCounted net p before turn counts u []
counted-pop net p before turn counts u t is own =
    let links : crossed (is.moves ++ Popped ∷ []) ≡ crossed is.moves = crossed_push is.moves Popped ∙ append-nil (crossed is.moves) in
    record {
      label = is.label;
      is_label = is.is_label;
      moves = is.moves ++ Popped ∷ [];
      run = run-push net p.choice p.from.0 (is.label ∷ []) is.moves u (t ∷ []) Popped u [] is.run ((own, refl, refl), tt);
      within = is.within;
      long = ap length links ∙ is.long;
      adds = subst (λ (ls : List ℕ). AddsRun ls before counts) (sym links) is.adds;
    }

-- where a crossing left this stack the packet has arrived, or goes on
counted-crossed : (net : Net) (p : Packet) (before : List ℕ) (turn : ℕ) (counts : List ℕ) (m : ℕ) (after : List ℕ) → Crossing net p.to.0 m [] after → IsCounted net p before turn counts m after → IsForwarded net p before turn counts m
counted-crossed net p before turn counts m after cross is =
    ⊎_elim
    (λ popped. record { stack = after; run = is; left = inl (popped.0, popped.2) })
    (⊎_elim
    (λ null. arrived null.0 0 (subst (λ (st : List ℕ). IsCounted net p before turn counts m st) null.3 is) (inl refl))
    (λ swap.
    let under = subst (λ (st : List ℕ). IsCounted net p before turn counts m st) swap.3 is in
    ⊎_elim
    (λ (there : m ≡ p.to.0). arrived there swap.0 under (inr (subst (λ (k : ℕ). IsLabel net m k swap.0) (sym there) swap.1)))
    (λ (ne : m ≢ p.to.0). record { stack = swap.0 ∷ []; run = under; left = inr (ne, swap.0, swap.1, refl) })
    (cases_eq m p.to.0)))
    cross where
      arrived : m ≡ p.to.0 → (t : ℕ) → IsCounted net p before turn counts m (t ∷ []) → (t ≡ 0) ⊎ IsLabel net m m t → IsForwarded net p before turn counts m
      arrived there t under own = record { stack = []; run = counted-pop net p before turn counts m t under own; left = inl (there, refl) }

module _ (net : Net) (r : IsNet net) (p : Packet) (near : AreNear net p.from.0 p.to.0) (before : List ℕ) (turn : ℕ) (counts : List ℕ) (u : ℕ) (is : IsForwarded net p before turn counts u) where
  -- what holds of each run of a packet
  goes : PacketGoes net [] p.from.0 p.to.0 [] is.run.moves u is.stack
  goes =
      let inside : InP net.graph [] p.from.0 p.to.0 = InP-from_none net.graph [] p.from.0 p.to.0 near.peers.walk.0 near.peers.walk.1 (λ l lt has on. absurd {0} (cc)) in
      packet-goes net r [] p.from.0 p.to.0 is.run.label near.far.0 near.peers.from inside near.far.1 is.run.is_label [] is.run.moves u is.stack
      (run-any net p.choice p.from.0 (is.run.label ∷ []) is.run.moves u is.stack is.run.run)

  -- it crosses fewer links than there are nodes, since it meets none twice
  pub forwarded-few : turn < node_count net.graph
  forwarded-few =
      let more : List ℕ = goes.well.along.0 in
      let short : length (crossed is.run.moves ++ more) < node_count net.graph = shortest-length net.graph [] p.from.0 (crossed is.run.moves ++ more) p.to.0 r.graph near.peers.from goes.well.along.1 in
      omega (arith, length-append (crossed is.run.moves) more, is.run.long, short)

  -- where it has arrived its run is whole
  pub forwarded-all : u ≡ p.to.0 → AddsPacket net p before counts
  forwarded-all there =
      let few : turn < node_count net.graph = forwarded-few in
      let nodes = r.graph.few_nodes in
      let spent : is.stack ≡ [] = ⊎_elim (λ over. over.1) (λ more. absurd (more.0 there)) is.left in (
        crossed is.run.moves,
        record {
          run = record {
            label = is.run.label;
            is_label = is.run.is_label;
            moves = is.run.moves;
            run =
                subst (λ (w : ℕ). RunBy net [] p.choice p.from.0 (is.run.label ∷ []) is.run.moves w []) there
                (subst (λ (st : List ℕ). RunBy net [] p.choice p.from.0 (is.run.label ∷ []) is.run.moves u st) spent is.run.run);
            crosses = refl;
          };
          few = omega (arith, is.run.long, few, nodes);
        },
        is.run.adds,
      )

  -- a step under the label of another node crosses a next hop towards it
  step-hop : (t : ℕ) → u ≢ p.to.0 → IsLabel net u p.to.0 t → (m : Move) (w : ℕ) (next : List ℕ) → Step net [] u (t ∷ []) m w next → (l : ℕ) × IsNextHop net.graph [] u p.to.0 l
  step-hop t ne label Popped w next step =
      ⊎_elim
      (λ null. absurd (not_null net r u p.to.0 t label null))
      (λ own. absurd (ne (same_node net r u u p.to.0 t own label)))
      step.0
  step-hop t ne label (Crossed l) w next step =
      ⊎_elim
      (λ adj. absurd (not_adj net r u p.to.0 t l.0 label step.2 adj.0))
      (λ node. (l.0, subst (λ b. IsNextHop net.graph [] u b l.0) (same_node net r u node.0 p.to.0 t node.1 label) node.3))
      step.4

  -- where it hasn't arrived there is a next hop
  pub forwarded-hop : (hops : List LinkNo) → u ≢ p.to.0 → AreNextHops net.graph u p.to.0 hops → 0 < length hops
  forwarded-hop hops ne are =
      let hop : (l : ℕ) × IsNextHop net.graph [] u p.to.0 l =
      ⊎_elim
      (λ over. absurd (ne over.0))
      (λ under.
      ⊎_elim
      (λ over. absurd (ne over.0))
      (λ more. step-hop under.1 ne under.2 more.1 more.2 more.3 (subst (λ (st : List ℕ). Step net [] u st more.1 more.2 more.3) under.3 more.4))
      goes.well.ends)
      is.left in
      let at = are.all hop.0 hop.1 in
      let within : at.0 < length hops = slice_get_within hops at.0 at.1 at.2 in
      omega (arith, within)

  -- and it goes on over that of the choice number
  pub forwarded-more : (hops : List LinkNo) (l : LinkNo) (more : List ℕ) → u ≢ p.to.0 → AreNextHops net.graph u p.to.0 hops → slice_get hops (p.choice % length hops) ≡ Some l → AddsRun (l.0 ∷ []) counts more → IsForwarded net p before (turn + 1) more (head net.graph l.0)
  forwarded-more hops l more ne are at adds =
      let hop : IsNextHop net.graph [] u p.to.0 l.0 = are.each (p.choice % length hops) l at in
      let link : IsLink net.graph (link_at net.graph l.0) = r.graph.each l.0 hop.shortest.0.0 in
      ⊎_elim
      (λ over. absurd (ne over.0))
      (λ under.
      let cross = can_cross net r u p.to.0 (head net.graph l.0) under.1 [] link.1 under.2 in
      let step : StepBy net [] p.choice u (under.1 ∷ []) (Crossed l) (head net.graph l.0) cross.0 = hop-step net r p.choice u p.to.0 under.1 hops l cross.0 under.2 ne are at cross.1 in
      let run : IsCounted net p before turn counts u (under.1 ∷ []) = subst (λ (st : List ℕ). IsCounted net p before turn counts u st) under.3 is.run in
      counted-crossed net p before (turn + 1) more (head net.graph l.0) cross.0 cross.1
      (counted-link net p before turn counts u under.1 l cross.0 more run step link.1 adds))
      is.left
