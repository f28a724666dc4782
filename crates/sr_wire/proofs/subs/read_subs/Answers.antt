use Rattle.std.proofs.Common.{sym, subst}
use Rattle.sr_wire.specs.declared.read_fault.ReadFault.{ReadFault}
use Rattle.sr_wire.specs.Fault.{IfMalformed}
use Rattle.sr_wire.specs.Sub.{SubFault}
use Rattle.sr_wire.specs.Tlv.{framed}
use Rattle.sr_wire.proofs.SubLemmas.{overrun_fault}
use Rattle.sr_wire.proofs.SubsLemmas.{one_said}
use Rattle.sr_wire.proofs.subs.read_subs.Goals as goal

pub loop-at-preserved : goal.loop-at-preserved
loop-at-preserved g c =
    let run = c.args.run.now in
    one_said g.S.SubTlvs.said run c.loop-at.at c.in-Ok.place c.loop-at.said c.add.new.self c.loop-at.invariant c.in-Ok.ensures.ok
    (λ subs say. g.met.S.SubTlvs.steps subs (framed run c.in-Ok.place) c.loop-at.said c.add.new.self say c.in_ok-add-in-Ok.ensures)

pub returns-in-Err-clause-says : goal.returns-in-Err-clause-says
returns-in-Err-clause-says g c =
    let run = c.args.run.now in
    let P : ReadFault → Type 0 = λ fault. IfMalformed fault (λ malformed. SubFault run malformed.offset malformed.check) in
    subst P (sym c.cut.ensures) (overrun_fault run c.loop-at.at c.in-Err.overrun c.loop-at.invariant.subs c.loop-at.invariant.so_far c.loop-at-test.true c.in-Err.ensures.offset c.in-Err.ensures.overrun)
