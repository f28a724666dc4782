use Rattle.sr_script.proofs.DigitLemmas.{values-are}
use Rattle.sr_script.proofs.digits.values_of.Goals as goal

pub returns : goal.returns
returns c = values-are c.args.bytes c.fits-bytes.0 c.fits-bytes.1
