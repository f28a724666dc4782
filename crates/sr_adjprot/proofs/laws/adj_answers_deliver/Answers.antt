use Rattle.sr_adjprot.proofs.AnswerLemmas.{adj-delivers}
use Rattle.sr_adjprot.proofs.laws.adj_answers_deliver.Goals as goal

pub returns : goal.returns
returns c = adj-delivers
