use Rattle.std.proofs.Common.{sym}
use Rattle.sr_print.proofs.Begun.{begun}
use Rattle.sr_print.proofs.account.links_at.Goals as goal

pub returns : goal.returns
returns c = sym (begun c.args.graph.now c.args.node.0 c.links_from-links.result.first c.links_from-links.result.end c.links_from-links.ensures.links)
