use Rattle.std.proofs.Common.{[], subst}
use Rattle.sr_engine.specs.Replies.{ToHead}
use Rattle.sr_engine.proofs.Answering.{says-nothing, gives-map}
use Rattle.sr_run.specs.State.{Session, CanReport}
use Rattle.sr_run.specs.Tries.{Tries}
use Rattle.sr_run.specs.Handlers.{GivesCommand, GivesTold, RefusesLine, SessionAnswers}
use Rattle.sr_run.proofs.LineLemmas.{answer-nothing, command-answers, fault-answers, said-well, tried-well, tries-answer}
use Rattle.sr_run.proofs.background.ScriptSession.answer_in.Goals as goal

pub carry_out-requires-after_bounds : goal.carry_out-requires-after_bounds
carry_out-requires-after_bounds g c = λ lifetimes bounds. said-well c.args.line.now c.in-Ok-Word.command (rw c.in-Ok-Word.field-0-is at c.in-Ok-Word.ensures.said)

pub try_out-requires-clause-asked : goal.try_out-requires-clause-asked
try_out-requires-clause-asked g c = λ lifetimes bounds. (tried-well c.args.line.now c.in-Ok-Try.question (rw c.in-Ok-Try.field-0-is at c.in-Ok-Try.ensures.said)).0

pub returns-in-Ok-Try : goal.returns-in-Ok-Try
returns-in-Ok-Try g c =
    gives-map (GivesTold (Tries c.in-Ok-Try.question) c.args.number c.args.self.now) (ToHead SessionAnswers c.args.self.now c.args.number c.args.line.now) _ _ _ _
    (tries-answer c.in-Ok-Try.question c.args.number c.args.line.now c.args.self.now (rw c.in-Ok-Try.field-0-is at c.in-Ok-Try.ensures.said)) c.try_out.ensures

pub returns-in-Ok-Nothing : goal.returns-in-Ok-Nothing
returns-in-Ok-Nothing g c = record {
  said = [];
  says = says-nothing _;
  is = answer-nothing c.args.self.now c.args.number c.args.line.now (subst (λ (s : Session). CanReport s.work) c.self.view_is c.self.invariant.reports)
      (rw c.in-Ok-Nothing.field-0-is at c.in-Ok-Nothing.ensures.said);
}

pub returns-in-Ok-Word : goal.returns-in-Ok-Word
returns-in-Ok-Word g c =
    gives-map (GivesCommand c.in-Ok-Word.command c.args.number c.args.self.now) (ToHead SessionAnswers c.args.self.now c.args.number c.args.line.now) _ _ _ _
    (command-answers c.in-Ok-Word.command c.args.number c.args.line.now c.args.self.now (rw c.in-Ok-Word.field-0-is at c.in-Ok-Word.ensures.said)) c.carry_out.ensures

pub returns-in-Err : goal.returns-in-Err
returns-in-Err g c =
    gives-map (RefusesLine c.in-Err.fault c.args.number c.args.self.now) (ToHead SessionAnswers c.args.self.now c.args.number c.args.line.now) _ _ _ _
    (fault-answers c.in-Err.fault c.args.number c.args.line.now c.args.self.now (subst (λ (s : Session). CanReport s.work) c.self.view_is c.self.invariant.reports) c.in-Err.ensures.refused) c.refuse.ensures
