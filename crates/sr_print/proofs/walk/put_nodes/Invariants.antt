-- the start and the ends of the links so far stand behind
use Rattle.std.proofs.Common.{◌≡◌, ◌++◌, take}
use Rattle.std.specs.List.{flat_map}
use Rattle.sr_model.specs.Graph.{system_at}
use Rattle.sr_print.specs.Printed.{node_word}
use Rattle.sr_print.proofs.Walked.{end_word}
use Rattle.sr_print.proofs.walk.put_nodes.Given as goal

abbrev pub invariant-loop-link : goal.invariant-loop-link
invariant-loop-link l = l.out.items ≡ l.fn.out.items ++ (node_word (system_at l.graph l.fn.start.0) ++ flat_map (end_word l.graph) (take l.link-index l.links))
