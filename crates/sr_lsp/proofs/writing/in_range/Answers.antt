use Rattle.std.proofs.Common.{refl, subst, arith}
use Rattle.std.proofs.lemmas.List.Elements.{All-more}
use Rattle.sr_lsp.specs.InRange.{FitsPart}
use Rattle.sr_lsp.specs.Parts.{part_of}
use Rattle.sr_lsp.proofs.writing.in_range.Goals as goal

pub loop-place-preserved : goal.loop-place-preserved
loop-place-preserved c =
    All-more FitsPart c.args.lsp.now.parts c.loop-place.place (part_of c.at.result) (omega arith) c.loop-place.invariant
    (subst FitsPart c.at.ensures (c.if-not-fits_part.ensures.0 refl))
