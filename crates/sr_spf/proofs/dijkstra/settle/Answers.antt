use Rattle.std.proofs.Common.{◌≡◌, [], arith, ◌∙◌}
use Rattle.std.specs.BinaryHeap.{heap_items}
use Rattle.std.proofs.lemmas.List.{nil_from_length}
use Rattle.sr_spf.proofs.QueueLemmas.{popped-split, popped-inside, popped-stale, popped-fresh, IsRow-from_empty}
use Rattle.sr_spf.proofs.dijkstra.settle.Goals as goal

pub visit-requires : goal.visit-requires
visit-requires c =
    let perm = popped-split _ _ c.in-Some.field-0 c.in-Some.ensures.permutation in
    record {
      node = popped-inside _ _ _ _ _ _ _ _ _ c.pops.invariant (omega arith) perm;
      queued = popped-fresh _ _ _ _ _ _ _ _ _ c.pops.invariant (omega arith) perm;
    }

pub pops-preserved : goal.pops-preserved
pops-preserved c = popped-stale _ _ _ _ _ _ _ _ _ _ c.pops.invariant (omega arith) (popped-split _ _ c.in-Some.field-0 c.in-Some.ensures.permutation) c.if-waiting-cells.false

pub returns : goal.returns
returns c =
    let none : heap_items c.pops.queue ≡ [] = nil_from_length _ (omega (arith, c.pops.queue.data.ok.0, c.in_default.ensures.none)) in
    record { row = IsRow-from_empty _ _ _ _ _ (rw none at c.pops.invariant); empty = c.in_default.ensures.unchanged.0 ∙ none }
