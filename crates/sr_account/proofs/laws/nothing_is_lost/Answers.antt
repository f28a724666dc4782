use Rattle.sr_account.proofs.AccountLaw.{account}
use Rattle.sr_account.proofs.laws.nothing_is_lost.Goals as goal

pub returns : goal.returns
returns c = account
