use Rattle.sr_make.proofs.SizeLemmas.{each-fits}
use Rattle.sr_make.proofs.laws.each_made_pdu_fits.Goals as goal

pub returns : goal.returns
returns c = each-fits
