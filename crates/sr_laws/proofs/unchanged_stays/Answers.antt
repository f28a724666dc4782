use Rattle.sr_laws.proofs.Unchanged.{unchanged, net-unchanged, tree-unchanged, case-unchanged}
use Rattle.sr_laws.proofs.unchanged_stays.Goals as goal

pub returns : goal.returns
returns c = record { graphs = unchanged; nets = net-unchanged; trees = tree-unchanged; cases = case-unchanged }
