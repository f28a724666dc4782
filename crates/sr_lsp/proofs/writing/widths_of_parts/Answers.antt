use Rattle.std.proofs.Common.{List, subst, arith}
use Rattle.std.specs.List.{All}
use Rattle.std.proofs.lemmas.List.{take_all}
use Rattle.std.proofs.lemmas.List.Elements.{All-more}
use Rattle.sr_lsp.specs.declared.table.Part.{Part}
use Rattle.sr_lsp.specs.InRange.{HasPartWidths}
use Rattle.sr_lsp.specs.Parts.{part_of}
use Rattle.sr_lsp.proofs.writing.widths_of_parts.Goals as goal

pub loop-place-preserved : goal.loop-place-preserved
loop-place-preserved c =
    All-more HasPartWidths c.args.parts.now c.loop-place.place (part_of c.at.result) (omega arith) c.loop-place.invariant
    (subst HasPartWidths c.at.ensures c.part_widths.ensures)

pub returns : goal.returns
returns c =
    let whole = take_all c.loop-place.place c.args.parts.now (omega (arith, c.loop-place-test.false)) in
    subst (λ (ps : List Part). All HasPartWidths ps) whole c.loop-place.invariant
