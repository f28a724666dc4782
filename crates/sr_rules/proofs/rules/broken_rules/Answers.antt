use Rattle.std.proofs.Common.{arith}
use Rattle.sr_rules.proofs.BrokenLemmas.{broken-start, broken-skip, broken-push, broken-all}
use Rattle.sr_rules.proofs.rules.broken_rules.Goals as goal
use Rattle.sr_rules.proofs.rules.broken_rules.Goals.{in-None, in-Some+in_ok-push-in-Some}

pub loop-before-init : goal.loop-before-init
loop-before-init c = rw c.new-rules.ensures.items (broken-start c.args.facts.now)

pub loop-before-preserved : goal.loop-before-preserved
loop-before-preserved c = elim c.match-branch-3.branch [
  | in-None w ↦ rw w.rules-is (broken-skip c.args.facts.now c.loop-before.before c.loop-before.rules.items c.loop-before.invariant (rw w.in-None.is at c.in_ok-rule_verdict.ensures))
  | in-Some+in_ok-push-in-Some w ↦
      rw (w.rules-is, w.in_ok-push-in-Some.ensures.items)
      (broken-push c.args.facts.now c.loop-before.before c.loop-before.rules.items w.in-Some.rule c.loop-before.invariant (rw w.in-Some.is at c.in_ok-rule_verdict.ensures))
]

pub returns : goal.returns
returns c = broken-all c.args.facts.now c.loop-before.before c.loop-before.rules.items (omega arith) c.loop-before.invariant
