use Rattle.sr_script.proofs.DigitLemmas.{digits-shown}
use Rattle.sr_script.proofs.digits.are_digits.Goals as goal

pub returns : goal.returns
returns c = digits-shown c.args.values c.fits-values.0
