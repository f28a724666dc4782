use Rattle.sr_laws.proofs.Audits.{audit-one}
use Rattle.sr_laws.proofs.audits_are_unique.Goals as goal

pub returns : goal.returns
returns c = audit-one
