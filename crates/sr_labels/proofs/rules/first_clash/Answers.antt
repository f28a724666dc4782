use Rattle.std.proofs.Common.{subst}
use Rattle.std.specs.Prelude.{MatchOption}
use Rattle.sr_model.specs.Rule.{NoAdjClash, IsLeastClash}
use Rattle.sr_labels.proofs.IndexOrder.{no_duplicate, duplicate_broken}
use Rattle.sr_labels.proofs.rules.first_clash.Goals as goal

pub returns-in-Some-clause-first : goal.returns-in-Some-clause-first
returns-in-Some-clause-first c =
    duplicate_broken c.args.nodes.now c.args.adj.now c.in_ok-list.list.items c.in_ok-list.ensures c.in-Some.place (rw c.deref.ensures.value at c.in-Some.ensures) c.duplicate.result (rw c.deref-in-Some.ensures.value at c.duplicate.ensures)

pub first_outside-requires-clause-list : goal.first_outside-requires-clause-list
first_outside-requires-clause-list c = rw c.deref-2.ensures.value c.in_ok-list.ensures

pub returns-in-Some-first_outside-clause-first : goal.returns-in-Some-first_outside-clause-first
returns-in-Some-first_outside-clause-first c = (
  no_duplicate c.args.nodes.now c.in_ok-list.list.items c.in_ok-list.ensures (rw c.deref.ensures.value at c.in-None.ensures),
  c.in-Some-first_outside.ensures,
)

pub returns-in-Some-2-clause-first : goal.returns-in-Some-2-clause-first
returns-in-Some-2-clause-first c = (
  no_duplicate c.args.nodes.now c.in_ok-list.list.items c.in_ok-list.ensures (rw c.deref.ensures.value at c.in-None.ensures),
  c.in-None-first_outside.ensures,
  subst (λ found. MatchOption found (NoAdjClash c.args.nodes.now c.args.adj.now) (IsLeastClash c.args.nodes.now c.args.adj.now)) c.in-Some-2.is c.in_ok-node.ensures,
)

pub returns-clause-first : goal.returns-clause-first
returns-clause-first c = (
  no_duplicate c.args.nodes.now c.in_ok-list.list.items c.in_ok-list.ensures (rw c.deref.ensures.value at c.in-None.ensures),
  c.in-None-first_outside.ensures,
  subst (λ found. MatchOption found (NoAdjClash c.args.nodes.now c.args.adj.now) (IsLeastClash c.args.nodes.now c.args.adj.now)) c.in-None-2.is c.in_ok-node.ensures,
)
