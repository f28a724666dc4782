-- All rules of the profile that facts break: each is told once, by the least that breaks it, and all others are kept
-- (this project's rule).
use Rattle.std.specs.Prelude.{◌≡◌, ℕ, ◌<◌, List, Option, Some, None, map, All, Contains}
use Rattle.std.specs.List.Sorted.{IsStrictlyIncreasing}
use Rattle.sr_model.specs.declared.rule.DomainRule.{DomainRule}
use Rattle.sr_lsdb.specs.declared.facts.Facts.{Facts}
use Rattle.sr_domain.specs.Rules.{IsRuleBroken, Keeps, rank}

-- how many rules come before each of these
abbrev pub ranks : List DomainRule → List ℕ
ranks rules = map rank rules

-- the rules that the facts break: each is told once, by the least that breaks it, in their order, and all others are
-- kept
pub record AreBrokenRules (facts : Facts) (rules : List DomainRule) : Type 0 where
  pub broken : All (IsRuleBroken facts) rules
  pub order : IsStrictlyIncreasing (ranks rules)
  pub kept : (rule : DomainRule) → (Contains (ranks rules) (rank rule) → ⊥) → Keeps facts rule

-- the same of the first `count` rules
pub record AreBrokenBelow (facts : Facts) (count : ℕ) (rules : List DomainRule) : Type 0 where
  pub broken : All (IsRuleBroken facts) rules
  pub order : IsStrictlyIncreasing (ranks rules)
  pub below : All (λ (rule : DomainRule). rank rule < count) rules
  pub kept : (rule : DomainRule) → rank rule < count → (Contains (ranks rules) (rank rule) → ⊥) → Keeps facts rule

-- what a test of the rule with that many before it finds: nothing where it is kept, else the rule with the least that
-- breaks it
abbrev pub IsFinding : Facts → ℕ → Option DomainRule → Type 0
IsFinding facts before None = (rule : DomainRule) → rank rule ≡ before → Keeps facts rule
IsFinding facts before (Some rule) = IsRuleBroken facts rule × (rank rule ≡ before)
