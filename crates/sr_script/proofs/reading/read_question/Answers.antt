use Rattle.sr_script.proofs.LineLemmas.{question-of}
use Rattle.sr_script.proofs.reading.read_question.Goals as goal

pub returns-in-Ok : goal.returns-in-Ok
returns-in-Ok c = question-of c.args.words.now c.in-Ok.command c.question.result c.in-Ok.ensures c.question.ensures
