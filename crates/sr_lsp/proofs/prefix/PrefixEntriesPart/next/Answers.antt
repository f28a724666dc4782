use Rattle.std.specs.List.{slice_range}
use Rattle.sr_wire.specs.declared.fault.Malformed.{Malformed}
use Rattle.sr_wire.specs.Entries.{StopsAt, if_some}
use Rattle.sr_wire.specs.Sub.{SubFault}
use Rattle.sr_wire.proofs.FaultLemmas.{moved_fault}
use Rattle.sr_lsp.specs.Prefix.{prefix_layout}
use Rattle.sr_lsp.proofs.PrefixLaws.{faulty_entry, next_entry}
use Rattle.sr_lsp.proofs.prefix.PrefixEntriesPart.next.Goals as goal

pub returns-in-Ok-clause-ok : goal.returns-in-Ok-clause-ok
returns-in-Ok-clause-ok c =
    next_entry c.args.value.now c.args.at c.in-Some.extent c.in-Ok.ensures.says.0 (if_some c.part_at.result) c.in-Some.ensures.extent c.in-Ok.ensures.says.1 c.part_at.ensures

pub returns-in-Err-clause-fault : goal.returns-in-Err-clause-fault
returns-in-Err-clause-fault c =
    let value = c.args.value.now in
    let P : Malformed → Type 0 = λ m. SubFault (slice_range value c.in-Some.extent.subs_from c.in-Some.extent.end) m.offset m.check in
    let Q : Malformed → Type 0 = λ m. StopsAt prefix_layout value c.args.at m.offset m.check in
    moved_fault P Q c.in-Err.fault c.behind.result c.in-Some.extent.subs_from c.behind.ensures
    (λ m is. faulty_entry value c.args.at c.in-Some.extent m.offset m.check c.in-Some.ensures.extent is)
    c.in-Err.ensures.says
