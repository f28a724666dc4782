use Rattle.sr_walks.proofs.Distances.{distance-unique, distance-triangle}
use Rattle.sr_walks.proofs.Distinct.{distance-small}
use Rattle.sr_walks.proofs.Rows.{row-one}
use Rattle.sr_walks.proofs.distances_are_unique.Goals as goal

pub returns : goal.returns
returns c = record { numbers = distance-unique; rows = row-one; triangles = distance-triangle; small = distance-small }
