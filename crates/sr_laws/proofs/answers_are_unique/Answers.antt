use Rattle.sr_laws.proofs.Answers.{PathLe-total, least-one, case-answer-one}
use Rattle.sr_laws.proofs.Order.{PathLt-irrefl, PathLt-trans}
use Rattle.sr_laws.proofs.answers_are_unique.Goals as goal

pub returns : goal.returns
returns c = record { total = PathLe-total; strict = (PathLt-irrefl, PathLt-trans); least = least-one; answers = case-answer-one }
