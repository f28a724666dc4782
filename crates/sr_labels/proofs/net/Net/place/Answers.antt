use Rattle.std.proofs.Common.{◌<◌, subst, sym}
use Rattle.sr_model.specs.Graph.{link_count}
use Rattle.sr_model.specs.Label.{Net}
use Rattle.sr_labels.proofs.NetLemmas.{announced_holds}
use Rattle.sr_labels.proofs.net.Net.place.Goals as goal

pub place-requires-clause-there : goal.place-requires-clause-there
place-requires-clause-there c = rw (c.deref.ensures.value, c.link.ensures.link, c.deref-base.ensures) (announced_holds _ c.self.invariant.0 c.args.link.0 (subst (λ (n : Net). c.args.link.0 < link_count n.graph) (sym c.self.view_is) c.requires))
