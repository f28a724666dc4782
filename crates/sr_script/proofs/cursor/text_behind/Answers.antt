use Rattle.std.proofs.Common.{arith, sym, ◌∙◌}
use Rattle.sr_script.specs.Words.{words}
use Rattle.sr_script.proofs.ListLemmas.{dropped-later, dropped-next}
use Rattle.sr_script.proofs.cursor.text_behind.Goals as goal

pub returns-in-None : goal.returns-in-None
returns-in-None c =
    c.in-None.ensures ∙ sym (dropped-later c.loop-past.past c.args.count (words c.args.text.now) (sym c.loop-past.invariant ∙ c.in-None.ensures) (omega arith))

pub loop-past-preserved : goal.loop-past-preserved
loop-past-preserved c =
    sym (dropped-next c.loop-past.past (words c.args.text.now) c.in-Some.next.word.now (words c.in-Some.next.rest.now) (sym c.loop-past.invariant ∙ c.in-Some.ensures))
