use Rattle.std.proofs.Common.{Bool, List}
use Rattle.sr_model.specs.Case.{IsFailedSet, source_of}
use Rattle.sr_model.specs.Walk.{IsRow}
use Rattle.sr_post.specs.Marks.{AreFound}
use Rattle.sr_post.proofs.MarkLemmas.{open_count}
use Rattle.sr_post.proofs.marks.walks.Given as goal

abbrev pub invariant-pending : goal.invariant-pending
invariant-pending l =
    (x : List Bool) → IsFailedSet l.net.graph l.fn.case x → IsRow l.net.graph x (source_of l.net.graph l.fn.case) l.cells
    → AreFound l.net l.fn.case x l.cells l.found l.pending

abbrev pub decreases-pending : goal.decreases-pending
decreases-pending l = open_count l.found l.pending
