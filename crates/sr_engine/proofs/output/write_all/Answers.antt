use Rattle.std.proofs.Common.{◌∙◌, refl, subst}
use Rattle.sr_base.specs.Writing.{CauseOf}
use Rattle.sr_engine.proofs.Steps.{sent-more, sent-within, sent-failed}
use Rattle.sr_engine.proofs.output.write_all.Goals as goal

pub loop-at-preserved : goal.loop-at-preserved
loop-at-preserved g c =
    let h = c.in-Ok.ensures in
    let i = c.loop-at.invariant in
    record {
      sent = sent-more (g.K.Sink.held c.args.sink.now) (g.K.Sink.held c.loop-at.sink) (g.K.Sink.held c.write.new.self) c.args.text.now c.loop-at.at c.in-Ok.count _ i.within refl h.bytes.1 i.sent h.bytes.2;
      within = sent-within c.args.text.now c.loop-at.at c.in-Ok.count _ i.within refl h.bytes.1;
      faults = h.cause ∙ i.faults;
    }

pub returns-in-Err : goal.returns-in-Err
returns-in-Err g c =
    let h = c.in-Err.ensures in
    let i = c.loop-at.invariant in
    sent-failed (g.K.Sink.held c.args.sink.now) (g.K.Sink.held c.loop-at.sink) (g.K.Sink.held c.write.new.self) (g.K.Sink.faults c.args.sink.now) (g.K.Sink.faults c.write.new.self) c.args.text.now c.loop-at.at _ c.in-Err.fault
    i.within refl i.sent h.bytes
    (subst (λ n. CauseOf n (g.K.Sink.faults c.write.new.self) c.in-Err.fault) i.faults h.cause)
