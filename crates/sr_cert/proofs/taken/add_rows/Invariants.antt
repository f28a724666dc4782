use Rattle.std.proofs.Common.{◌<◌, drop}
use Rattle.sr_model.specs.Graph.{node_count}
use Rattle.sr_cert.specs.Rows.{headings}
use Rattle.sr_cert.specs.Taken.{AreBegun}
use Rattle.sr_cert.proofs.taken.add_rows.Given as goal

abbrev pub invariant-loop-segment : goal.invariant-loop-segment
invariant-loop-segment l =
    let g = l.version.net.graph in
    AreBegun g (headings g l.fn.begin.0 l.segments l.destination.0)
    (headings g l.at.0 (drop l.segment-index l.segments) l.destination.0)
    l.fn.out.items l.out.items
    × (l.at.0 < node_count g)
