use Rattle.sr_script.proofs.DigitLemmas.{octets-are}
use Rattle.sr_script.proofs.digits.octets_of.Goals as goal

pub returns : goal.returns
returns c = octets-are c.args.values c.fits-values.0 c.fits-values.1 c.requires
