use Rattle.std.proofs.Common.{◌≡◌, ◌<◌, ◌≤◌, arith, sym, ◌∙◌, false, true, sum}
use Rattle.sr_model.specs.Graph.{link_count, tail, head, metric, carries}
use Rattle.sr_spf.specs.Relax.{relaxed, falls}
use Rattle.sr_spf.proofs.RelaxLemmas.{relaxed-falls, relaxed-stays}
use Rattle.sr_spf.proofs.QueueLemmas.{queued-skip, queued-stays, queued-push}
use Rattle.sr_spf.proofs.dijkstra.visit.Goals as goal
use Rattle.sr_spf.proofs.dijkstra.visit.Goals.{then-falls+then-not-has+in_ok-push, else-falls, else-falls-via-then-falls+else-not-has, else-falls-via-else-falls}

pub loop-i-preserved : goal.loop-i-preserved
loop-i-preserved c =
    let first : c.links_from-first.result.first ≤ c.loop-i.i = c.loop-i.invariant.2 in
    let within : c.loop-i.i < link_count c.args.graph.now = omega (arith, c.links_from-first.ensures.links.inside) in
    let begins : tail c.args.graph.now c.loop-i.i ≡ c.args.node.0 = c.links_from-first.ensures.links.from c.loop-i.i first (omega arith) in
    let carry : carries c.args.graph.now c.args.source.0 (tail c.args.graph.now c.loop-i.i) ≡ true = rw begins (cc) in
    elim c.if-falls.branch [
      | then-falls+then-not-has+in_ok-push w ↦
          let fell : falls (tail c.args.graph.now c.loop-i.i) (head c.args.graph.now c.loop-i.i) (metric c.args.graph.now c.loop-i.i) c.loop-i.cells ≡ true = rw (begins, ← c.edge-edge.ensures.to, ← c.edge-edge.ensures.metric) (sym c.falls.ensures ∙ w.if-falls.true) in
          let work : sum (relaxed (tail c.args.graph.now c.loop-i.i) (head c.args.graph.now c.loop-i.i) (metric c.args.graph.now c.loop-i.i) c.loop-i.cells) < sum c.loop-i.cells = relaxed-falls _ _ _ _ _ c.loop-i.invariant.0.kept within (cc) carry fell in
          let next = queued-push _ _ _ _ _ _ _ _ c.loop-i.invariant.0 within (cc) carry fell (rw (w.entry.ensures, ← begins, c.edge-edge.ensures.to, c.edge-edge.ensures.metric) at w.in_ok-push.ensures.permutation) in (
            rw (w.cells-is, w.queue-is) (rw (fell, begins, ← c.edge-edge.ensures.to, ← c.edge-edge.ensures.metric) at next),
            rw (w.cells-is, w.queue-is) (omega (arith, w.in_ok-push.ensures.len, c.loop-i.invariant.1, rw (fell, begins, ← c.edge-edge.ensures.to, ← c.edge-edge.ensures.metric) at work)),
            omega arith,
          )
      | else-falls w ↦ elim w.else-falls.branch [
        | else-falls-via-else-falls w' ↦
            let stays : falls (tail c.args.graph.now c.loop-i.i) (head c.args.graph.now c.loop-i.i) (metric c.args.graph.now c.loop-i.i) c.loop-i.cells ≡ false = rw (begins, ← c.edge-edge.ensures.to, ← c.edge-edge.ensures.metric) (sym c.falls.ensures ∙ w'.if-falls.false) in (
              rw (w.cells-is, w.queue-is) (rw (relaxed-stays c.args.graph.now c.loop-i.cells c.loop-i.i stays).0 at (queued-stays _ _ _ _ _ _ _ c.loop-i.invariant.0 stays)),
              rw (w.cells-is, w.queue-is) c.loop-i.invariant.1,
              omega arith,
            )
        | else-falls-via-then-falls+else-not-has w' ↦ (
          rw (w.cells-is, w.queue-is) (queued-skip _ _ _ _ _ _ _ c.loop-i.invariant.0 (cc)),
          rw (w.cells-is, w.queue-is) c.loop-i.invariant.1,
          omega arith,
        )
      ]
    ]
