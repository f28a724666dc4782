-- Laws of the broken rules: the facts determine them, and the first is that for which the facts have no net.
use Rattle.std.specs.Prelude.{◌≡◌, List, [], ◌∷◌}
use Rattle.sr_model.specs.declared.rule.DomainRule.{DomainRule}
use Rattle.sr_lsdb.specs.declared.facts.Facts.{Facts}
use Rattle.sr_domain.specs.Rules.{AreKept, IsFirstBrokenRule}
use Rattle.sr_rules.specs.Broken.{AreBrokenRules}

-- facts have one list of broken rules
abbrev pub BrokenRulesAreDetermined : Type 0
BrokenRulesAreDetermined =
    (facts : Facts) (one other : List DomainRule) → AreBrokenRules facts one → AreBrokenRules facts other → one ≡ other

-- the first of the broken rules is the first that the facts break, by which they are refused
abbrev pub TheFirstIsRefused : Type 0
TheFirstIsRefused =
    (facts : Facts) (rule : DomainRule) (others : List DomainRule) → AreBrokenRules facts (rule ∷ others)
    → IsFirstBrokenRule facts rule

-- where no rule is told all nine are kept
abbrev pub NothingToldIsKept : Type 0
NothingToldIsKept = (facts : Facts) → AreBrokenRules facts [] → AreKept facts 9
