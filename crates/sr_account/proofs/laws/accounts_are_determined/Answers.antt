use Rattle.sr_account.proofs.DeterminedLaw.{asides-one, sources-one}
use Rattle.sr_account.proofs.laws.accounts_are_determined.Goals as goal

pub returns : goal.returns
returns c = record { asides = asides-one; sources = sources-one }
