use Rattle.std.proofs.Common.{◌≡◌, drop}
use Rattle.std.specs.Prelude.{slice_get}
use Rattle.std.specs.List.{filter_map}
use Rattle.sr_domain.specs.Nodes.{imposition_by}
use Rattle.sr_domain.proofs.DepthLemmas.{plain_depth}
use Rattle.sr_domain.proofs.nodes.first_imposition.Given as goal

abbrev pub invariant-loop-msd : goal.invariant-loop-msd
invariant-loop-msd l = plain_depth (drop l.msd-index l.msds) ≡ slice_get (filter_map imposition_by l.msds) 0
