-- Laws of the net of the facts: the facts determine it, or the first rule that they break.
use Rattle.std.specs.Prelude.{◌≡◌}
use Rattle.sr_model.specs.declared.rule.DomainRule.{DomainRule}
use Rattle.sr_model.specs.Label.{Net}
use Rattle.sr_lsdb.specs.declared.facts.Facts.{Facts}
use Rattle.sr_domain.specs.Rules.{IsFirstBrokenRule}
use Rattle.sr_domain.specs.Net.{IsNetOf}

-- facts have at most one net
abbrev pub FactsHaveOneNet : Type 0
FactsHaveOneNet = (facts : Facts) (a b : Net) → IsNetOf facts a → IsNetOf facts b → a ≡ b

-- facts have at most one first broken rule, with one least that breaks it
abbrev pub FactsHaveOneFault : Type 0
FactsHaveOneFault = (facts : Facts) (a b : DomainRule) → IsFirstBrokenRule facts a → IsFirstBrokenRule facts b → a ≡ b

-- facts that break a rule have no net
abbrev pub BrokenFactsHaveNoNet : Type 0
BrokenFactsHaveNoNet =
    (facts : Facts) (rule : DomainRule) (net : Net) → IsFirstBrokenRule facts rule → IsNetOf facts net → ⊥
