use Rattle.sr_domain.proofs.DepthLemmas.{depth-plain}
use Rattle.sr_domain.proofs.nodes.first_imposition.Goals as goal

pub loop-msd-init : goal.loop-msd-init
loop-msd-init c = depth-plain c.args.msds.now
