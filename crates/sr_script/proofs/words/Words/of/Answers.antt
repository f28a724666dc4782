use Rattle.std.proofs.Common.{arith, ◌∙◌}
use Rattle.std.proofs.Math.ListN.{length-set}
use Rattle.sr_script.specs.Words.{words}
use Rattle.sr_script.proofs.KeptLemmas.{one-more}
use Rattle.sr_script.proofs.words.Words.of.Goals as goal

pub loop-count-preserved : goal.loop-count-preserved
loop-count-preserved c = record {
  room = length-set c.loop-count.texts c.loop-count.count c.in-Some.next.word ∙ c.loop-count.invariant.room;
  whole = one-more c.loop-count.texts c.loop-count.count c.in-Some.next.word (words c.loop-count.behind.now) (words c.in-Some.next.rest.now) (words c.args.text.now)
      (omega arith) c.loop-count.invariant.whole c.in-Some.ensures;
}
