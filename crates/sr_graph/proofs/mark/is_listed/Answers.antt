use Rattle.std.proofs.Common.{◌≡◌, true, false}
use Rattle.sr_graph.proofs.FailedLemmas.{not_in}
use Rattle.sr_graph.proofs.mark.is_listed.Goals as goal

pub returns-in-Err : goal.returns-in-Err
returns-in-Err c = (λ (bad : false ≡ true). absurd (cc), λ held. absurd (not_in _ _ _ c.requires c.in-Err.ensures.position held))
