use Rattle.std.proofs.Common.{◌<◌, drop}
use Rattle.std.specs.Prelude.{◌↔◌}
use Rattle.sr_model.specs.Graph.{node_count}
use Rattle.sr_cert.specs.Clauses.{GoesOnExact}
use Rattle.sr_cert.specs.Walked.{AreExact}
use Rattle.sr_cert.proofs.WalkedLemmas.{Stands}
use Rattle.sr_cert.proofs.walked.goes_on_exact.Given as goal

abbrev pub invariant-loop-segment : goal.invariant-loop-segment
invariant-loop-segment l =
    record {
      at : l.at.0 < node_count l.net.graph;
      stands : Stands l.certificate.segments l.segment-index l.place l.certificate.rows;
      whole : AreExact l.net.graph l.at.0 (drop l.segment-index l.certificate.segments) l.certificate.dest.0 (drop l.place l.certificate.rows)
          ↔ GoesOnExact l.net l.certificate l.certificate.rows;
    }
