use Rattle.sr_domain.proofs.DepthLemmas.{depths-plain}
use Rattle.sr_domain.proofs.nodes.imposition_in.Goals as goal

pub loop-at-init : goal.loop-at-init
loop-at-init c = depths-plain c.args.parts.now
