use Rattle.sr_script.proofs.BlankLemmas.{blanks-shown}
use Rattle.sr_script.proofs.blank_block.are_blanks.Goals as goal

pub returns : goal.returns
returns c = blanks-shown c.args.bytes c.fits-bytes.0
