use Rattle.std.proofs.Common.{◌≡◌, [], arith, ap, sym, ◌∙◌, refl}
use Rattle.sr_model.specs.Graph.{node_count}
use Rattle.sr_model.specs.Label.{Labels, labels_at}
use Rattle.sr_fib.specs.Sorted.{node_entry}
use Rattle.sr_fib.proofs.ListedLemmas.{number_of, index_of, listed-skip, listed-push, indices-listed, indices-own}
use Rattle.sr_fib.proofs.listed.indexed.Goals as goal
use Rattle.sr_fib.proofs.listed.indexed.Goals.{in-None, in-Some+in_ok-push-in-Some}

pub loop-place-preserved : goal.loop-place-preserved
loop-place-preserved c = elim c.match-index.branch [
  | in-None w ↦ rw w.list-is (listed-skip (node_entry [] 0) number_of index_of (λ v. (labels_at c.args.net.now v).index) c.loop-place.list.items 0 c.loop-place.place (ap (λ (s : Labels). s.index) (sym c.labels.ensures.value) ∙ sym c.index.ensures ∙ w.in-None.is) c.loop-place.invariant)
  | in-Some+in_ok-push-in-Some w ↦
      rw (w.list-is, w.in_ok-push-in-Some.ensures.items)
      (listed-push (node_entry [] 0) number_of index_of (λ v. (labels_at c.args.net.now v).index) c.loop-place.list.items 0 c.loop-place.place (record { index = w.in-Some.index; node = record { 0 = c.loop-place.place } }) (omega arith) refl (ap (λ (s : Labels). s.index) (sym c.labels.ensures.value) ∙ sym c.index.ensures ∙ w.in-Some.is) c.loop-place.invariant)
]

pub returns-clause-nodes : goal.returns-clause-nodes
returns-clause-nodes c =
    let e : node_count c.graph.result.now ≡ node_count c.args.net.now.graph = ap node_count c.graph.ensures.value in
    let count : c.loop-place.place ≡ node_count c.args.net.now.graph = omega arith in
    indices-listed c.args.net.now c.loop-place.list.items c.loop-place.place count c.loop-place.invariant

pub returns-clause-own : goal.returns-clause-own
returns-clause-own c =
    let e : node_count c.graph.result.now ≡ node_count c.args.net.now.graph = ap node_count c.graph.ensures.value in
    let count : c.loop-place.place ≡ node_count c.args.net.now.graph = omega arith in
    indices-own c.args.net.now c.graph.ensures.net c.loop-place.list.items c.loop-place.place count c.loop-place.invariant
