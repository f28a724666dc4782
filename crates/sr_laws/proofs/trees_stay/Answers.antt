use Rattle.sr_laws.proofs.Kept.{tree-same, hops-same, hop-there}
use Rattle.sr_laws.proofs.KeptWays.{hop-old}
use Rattle.sr_laws.proofs.trees_stay.Goals as goal

pub returns : goal.returns
returns c = record { rows = tree-same; hops = hops-same; there = hop-there; old = hop-old }
