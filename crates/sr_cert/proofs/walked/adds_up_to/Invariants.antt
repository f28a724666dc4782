use Rattle.std.proofs.Common.{◌<◌, Bool, List, drop}
use Rattle.std.specs.Prelude.{◌↔◌}
use Rattle.sr_model.specs.declared.link.TheConstants.{FAR}
use Rattle.sr_model.specs.Graph.{node_count}
use Rattle.sr_cert.specs.Clauses.{StaysInSpaces}
use Rattle.sr_cert.specs.Walked.{AreExact, CostInAll}
use Rattle.sr_cert.proofs.WalkedLemmas.{Stands}
use Rattle.sr_cert.proofs.SumLemmas.{AddsUpFrom}
use Rattle.sr_cert.proofs.walked.adds_up_to.Given as goal

abbrev pub invariant-loop-segment : goal.invariant-loop-segment
invariant-loop-segment l =
    record {
      at : l.at.0 < node_count l.net.graph;
      stands : Stands l.certificate.segments l.segment-index l.place l.certificate.rows;
      exact : AreExact l.net.graph l.at.0 (drop l.segment-index l.certificate.segments) l.certificate.dest.0 (drop l.place l.certificate.rows);
      stays : (x : List Bool) × StaysInSpaces l.net x l.at.0 (drop l.segment-index l.certificate.segments) l.certificate.dest.0;
      small : l.total < FAR;
      whole : AddsUpFrom l.net l.certificate.dest.0 l.at.0 (drop l.segment-index l.certificate.segments) l.total l.whole
          ↔ CostInAll l.net l.certificate l.whole;
    }
