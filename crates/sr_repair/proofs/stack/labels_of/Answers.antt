use Rattle.std.proofs.Common.{IfOk}
use Rattle.std.proofs.lemmas.Result.{IfOk-weaker}
use Rattle.sr_model.specs.Audit.{AreLabelsOf}
use Rattle.sr_repair.proofs.StackLemmas.{list-labels}
use Rattle.sr_repair.proofs.DeliveryLemmas.{labels-deliver}
use Rattle.sr_repair.proofs.stack.labels_of.Goals as goal

pub stack-requires-clause-segments : goal.stack-requires-clause-segments
stack-requires-clause-segments c =
    rw c.list.ensures
    (list-labels c.args.net.now c.args.case c.args.destination.0 c.in-Least.list (rw c.in-Least.is at c.requires.answer)).1

pub returns-in-Least-clause-delivers : goal.returns-in-Least-clause-delivers
returns-in-Least-clause-delivers c =
    let labelled : IfOk c.stack.result (λ labels. AreLabelsOf c.args.net.now c.args.destination.0 c.args.answer.now labels.items) = rw c.in-Least.is (rw c.list.ensures at c.stack.ensures) in
    IfOk-weaker c.stack.result _ _
    (λ labels are. labels-deliver c.args.net.now c.graph-graph.ensures.net c.args.case c.args.destination.0 c.args.answer.now labels.items c.requires.case c.requires.affected c.requires.answer are)
    labelled
