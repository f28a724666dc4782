use Rattle.sr_laws.proofs.SameLists.{same-affected, same-listed}
use Rattle.sr_laws.proofs.same_lists_stay.Goals as goal

pub returns : goal.returns
returns c = record { lists = same-listed; affected = same-affected }
