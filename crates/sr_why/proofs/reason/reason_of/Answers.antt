use Rattle.std.proofs.Common.{subst}
use Rattle.sr_model.specs.declared.repair.Answer.{Answer}
use Rattle.sr_model.specs.Repair.{IsCaseAnswer}
use Rattle.sr_why.proofs.ReasonLemmas.{reason-covered}
use Rattle.sr_why.proofs.reason.reason_of.Goals as goal

pub returns-in-Least-clause-reason : goal.returns-in-Least-clause-reason
returns-in-Least-clause-reason g c =
    let n = c.args.version.now.net in
    let case = c.args.case in
    let d = c.args.destination.0 in
    reason-covered n case d c.in-Least.field-0 (subst (λ (a : Answer). IsCaseAnswer n case d a) c.in-Least.is c.requires.answer.1)
