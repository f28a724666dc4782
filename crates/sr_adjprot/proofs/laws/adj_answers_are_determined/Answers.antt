use Rattle.sr_adjprot.proofs.AnswerLemmas.{adj-answer-one, backup-one}
use Rattle.sr_adjprot.proofs.MarkLemmas.{eligible-one}
use Rattle.sr_adjprot.proofs.laws.adj_answers_are_determined.Goals as goal

pub returns : goal.returns
returns c = record { eligible = eligible-one; answers = adj-answer-one; backups = backup-one }
