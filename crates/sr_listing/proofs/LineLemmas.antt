-- The lines of a case are those of its audit.
use Rattle.std.proofs.Common.{◌≡◌, ℕ, List}
use Rattle.sr_model.specs.declared.case.Case.{Case}
use Rattle.sr_model.specs.Case.{IsCase}
use Rattle.sr_model.specs.Label.{Net}
use Rattle.sr_model.specs.Rule.{IsNet}
use Rattle.sr_encode.specs.declared.answers.NodeAnswer.{NodeAnswer}
use Rattle.sr_encode.specs.Answered.{AreAnswers}
use Rattle.sr_repair.specs.Answers.{place_of}
use Rattle.sr_audit.proofs.CaseLemmas.{items-audit, items-few}
use Rattle.sr_audit.proofs.JoinLemmas.{between-case}
use Rattle.sr_print.specs.Answers.{PutsItemsFor}
use Rattle.sr_listing.specs.Listed.{PutsCase}

-- the lines of the answers of a case are those of its audit
pub case-put : (n : Net) (place : ℕ) (case : Case) (answers : List NodeAnswer) (before after : List ℕ) → IsNet n → IsCase n.graph case → place_of n.graph case ≡ place → AreAnswers n case answers → PutsItemsFor n case answers before after → PutsCase n place before after
case-put n place case answers before after net within at are puts = record {
  items = puts.items;
  between = between-case n place puts.items (record {
    case = case;
    within = within;
    place_is = at;
    audit = items-audit n case answers puts.items within are puts.each;
    few = items-few n case answers puts.items net are puts.each;
  });
  lines = puts.text;
}
