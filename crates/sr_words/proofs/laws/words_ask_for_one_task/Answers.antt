use Rattle.sr_words.proofs.TaskLemmas.{one-task}
use Rattle.sr_words.proofs.laws.words_ask_for_one_task.Goals as goal

pub returns : goal.returns
returns c = one-task
