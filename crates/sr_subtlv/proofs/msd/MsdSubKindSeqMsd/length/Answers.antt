use Rattle.std.proofs.Common.{◌*◌, List, length, sym, ap, ◌∙◌}
use Rattle.sr_subtlv.specs.declared.msd.Msd.{Msd}
use Rattle.sr_subtlv.proofs.MsdLaws.{length_msds}
use Rattle.sr_subtlv.proofs.msd.MsdSubKindSeqMsd.length.Goals as goal

pub returns-clause-is : goal.returns-clause-is
returns-clause-is c = ap (λ (msds : List Msd). 2 * length msds) c.as_slice.ensures ∙ sym (length_msds c.args.x.now)
