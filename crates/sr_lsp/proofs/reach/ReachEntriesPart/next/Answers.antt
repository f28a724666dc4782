use Rattle.std.proofs.Common.{arith, inr}
use Rattle.std.specs.List.{slice_range}
use Rattle.sr_wire.specs.declared.fault.Malformed.{Malformed}
use Rattle.sr_wire.specs.Entries.{StopsAt}
use Rattle.sr_wire.proofs.FaultLemmas.{moved_fault}
use Rattle.sr_lsp.specs.Reach.{entry_layout, reach_entry_of}
use Rattle.sr_lsp.proofs.ReachLaws.{faulty_entry, next_entry}
use Rattle.sr_lsp.proofs.reach.ReachEntriesPart.next.Goals as goal

pub returns-in-Ok-clause-ok : goal.returns-in-Ok-clause-ok
returns-in-Ok-clause-ok c =
    next_entry c.args.value.now c.args.at c.in-Some.end c.in-Ok.reach (λ k. omega (arith, c.type_inv.value k)) c.in-Some.ensures.room c.in-Some.ensures.end c.in-Ok.ensures.says

pub returns-in-Err-clause-fault : goal.returns-in-Err-clause-fault
returns-in-Err-clause-fault c =
    let value = c.args.value.now in
    let at = c.args.at in
    let end = c.in-Some.end in
    let P : Malformed → Type 0 = λ m. entry_layout.fault (reach_entry_of (slice_range value at end)) m.offset m.check in
    let Q : Malformed → Type 0 = λ m. StopsAt entry_layout value at m.offset m.check in
    moved_fault P Q c.in-Err.fault c.behind.result at c.behind.ensures
    (λ m is. inr (m.offset, faulty_entry value at end m.offset m.check (λ k. omega (arith, c.type_inv.value k)) c.in-Some.ensures.room c.in-Some.ensures.end is, omega arith))
    c.in-Err.ensures.says
