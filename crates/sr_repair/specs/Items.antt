-- The items of an audit that stand for answers.
use Rattle.std.specs.Prelude.{◌≡◌}
use Rattle.sr_model.specs.declared.case.Case.{Case}
use Rattle.sr_model.specs.declared.audit.Item.{Item}
use Rattle.sr_model.specs.Audit.{AreLabelsOf}
use Rattle.sr_model.specs.Label.{Net}
use Rattle.sr_encode.specs.declared.answers.NodeAnswer.{NodeAnswer}

-- the item stands for the answer: its case, its destination, its answer, and the labels of that answer
pub record IsItemFor (n : Net) (which : Case) (entry : NodeAnswer) (item : Item) : Type 0 where
  pub case : item.case ≡ which
  pub dest : item.dest ≡ entry.destination
  pub answer : item.answer ≡ entry.answer
  pub labels : AreLabelsOf n entry.destination.0 entry.answer item.labels
