use Rattle.std.proofs.Common.{ap, subst}
use Rattle.sr_store.specs.Histories.{NumbersRise}
use Rattle.sr_store.proofs.history.Front.is_numbered.Goals as goal

pub returns : goal.returns
returns g c = subst (λ vs. NumbersRise g.V.Numbered.number_of vs) (ap (λ h. h.versions) c.self.view_is) c.self.invariant.rise
