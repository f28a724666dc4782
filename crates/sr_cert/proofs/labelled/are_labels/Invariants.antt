use Rattle.std.proofs.Common.{◌≡◌, ◌+◌, ◌<◌, ◌∷◌, ◌++◌, [], drop, length, reverse}
use Rattle.std.specs.Prelude.{◌↔◌}
use Rattle.sr_model.specs.Graph.{node_count}
use Rattle.sr_model.specs.Forward.{IsLabels}
use Rattle.sr_cert.specs.Walked.{last_segment}
use Rattle.sr_cert.proofs.labelled.are_labels.Given as goal

abbrev pub invariant-loop-segment : goal.invariant-loop-segment
invariant-loop-segment l =
    record {
      at : l.at.0 < node_count l.net.graph;
      place : l.place + l.segment-index ≡ length l.labels;
      whole : IsLabels l.net l.at.0 (drop l.segment-index l.segments ++ last_segment l.d ∷ []) (drop l.segment-index (reverse l.labels))
          ↔ IsLabels l.net l.fn.begin.0 (l.segments ++ last_segment l.d ∷ []) (reverse l.labels);
    }
