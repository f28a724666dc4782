use Rattle.std.proofs.Common.{length, refl, sym, ap, arith, length-append, length-drop}
use Rattle.sr_wire.proofs.TlvLemmas.{text_at}
use Rattle.sr_wire.proofs.framing.frame.Goals as goal

pub returns-then-run-at-lt2-clause-overrun : goal.returns-then-run-at-lt2-clause-overrun
returns-then-run-at-lt2-clause-overrun c = record {
  none = λ tlv rest e. let l = ap length e in omega (arith, length-drop c.args.at c.args.run.now, length-append tlv.value rest);
}

pub returns-clause-ok : goal.returns-clause-ok
returns-clause-ok c = record {
  from = refl;
  to = omega arith;
  within = omega arith;
  text = text_at c.args.run.now c.args.at c.from-long.result (sym c.from-long.ensures) (omega arith);
}
