use Rattle.std.proofs.Common.{◌≡◌, ◌-◌, true, false, arith, sym, subst, ◌∙◌}
use Rattle.sr_model.specs.Label.{Net}
use Rattle.sr_model.specs.Stay.{HaveSameNodes}
use Rattle.sr_delta.specs.Changes.{AreChanges}
use Rattle.sr_repair.proofs.WorkLemmas.{work-none, within-anew}
use Rattle.sr_repair.proofs.computed.Computed.next.Goals as goal

pub returns-in_err-changes-clause-searches : goal.returns-in_err-changes-clause-searches
returns-in_err-changes-clause-searches g c = (0, omega arith, work-none c.args.self.now c.args.net)

pub returns-clause-searches : goal.returns-clause-searches
returns-clause-searches g c =
    let n = c.args.self.now in
    let m = c.args.net in
    let are : AreChanges n m c.in_ok-changes.changes = subst (λ (k : Net). AreChanges k m c.in_ok-changes.changes) c.self.view_is c.in_ok-changes.ensures in
    let differ : HaveSameNodes n.graph m.graph → ⊥ = λ same.
    let yes : c.in_ok-changes.changes.same ≡ true = are.nodes.1 same in
    absurd (let bad : false ≡ true = sym c.if-same_nodes.false ∙ c.same_nodes.ensures ∙ yes in cc) in
    let w = c.of.new.steps - c.args.steps.now in
    (w, omega (arith, c.of.ensures.least), within-anew n m differ w (omega (arith, c.of.ensures.most, c.of.ensures.least)))

pub returns-then-has_same_lists-clause-searches : goal.returns-then-has_same_lists-clause-searches
returns-then-has_same_lists-clause-searches g c = (0, omega arith, work-none c.args.self.now c.args.net)
