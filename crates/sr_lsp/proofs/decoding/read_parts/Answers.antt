use Rattle.std.proofs.Common.{List, sym, subst}
use Rattle.sr_wire.specs.declared.fault.Malformed.{Malformed}
use Rattle.sr_wire.specs.Format.{TlvSays, ValueFault, tlv_layout}
use Rattle.sr_wire.specs.Parts.{body_of}
use Rattle.sr_wire.specs.Tlv.{framed}
use Rattle.sr_wire.proofs.FaultLemmas.{moved_fault}
use Rattle.sr_wire.proofs.FormatLaws.{SaysSoFar, inner_fault, one_tlv}
use Rattle.sr_lsp.specs.declared.table.Part.{Part}
use Rattle.sr_lsp.specs.InRange.{FitsPart}
use Rattle.sr_lsp.specs.Table.{rows}
use Rattle.sr_lsp.proofs.TableLaws.{table_laws}
use Rattle.sr_lsp.proofs.decoding.read_parts.Goals as goal

pub returns-in-Err-push_parts-clause-says : goal.returns-in-Err-push_parts-clause-says
returns-in-Err-push_parts-clause-says c =
    let body = c.args.body.now in
    let P : Malformed → Type 0 = λ m. ValueFault rows (framed body c.in-Ok.place) m.offset m.check in
    let Q : Malformed → Type 0 = λ m. (body_of rows).fault body m.offset m.check in
    moved_fault P Q c.in-Err-push_parts.fault c.behind.result c.in-Ok.place.from c.behind.ensures
    (λ m is. inner_fault rows body c.loop-at.at c.in-Ok.place c.loop-at.parts.items m.offset m.check c.loop-at.invariant c.in-Ok.ensures.ok is)
    c.in-Err-push_parts.ensures.says

pub loop-at-preserved : goal.loop-at-preserved
loop-at-preserved c =
    let told = c.in-Ok-push_parts.ensures.says in
    let P : List Part → Type 0 = λ ps. SaysSoFar (tlv_layout rows) (TlvSays rows) c.args.body.now c.in-Ok.place.to ps in
    subst P (sym told.2) (one_tlv FitsPart rows table_laws c.args.body.now c.loop-at.at c.in-Ok.place c.loop-at.parts.items told.0 c.loop-at.invariant c.in-Ok.ensures.ok told.1)
