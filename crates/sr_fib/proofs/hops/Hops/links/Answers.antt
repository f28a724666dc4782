use Rattle.std.proofs.Common.{◌∙◌, ap, map}
use Rattle.sr_fib.specs.Outs.{hop_link}
use Rattle.sr_fib.proofs.OutLemmas.{links-of}
use Rattle.sr_fib.proofs.hops.Hops.links.Goals as goal

pub returns : goal.returns
returns c = links-of c.self.inside.net.now c.self.inside.end.node.0 c.self.inside.links.now ∙ ap (map hop_link) c.self.view_is
