-- Rules that are kept: one more at a time.
use Rattle.std.proofs.Common.{◌≡◌, ℕ, ◌+◌, ◌<◌, ◌≤◌, ⊎_elim, arith}
use Rattle.std.proofs.lemmas.Bool.{cases_lt}
use Rattle.sr_model.specs.declared.rule.DomainRule.{DomainRule}
use Rattle.sr_model.specs.declared.rule.DomainRule.TheVariants.{NoSrgb, SrgbBad, DuplicateIndex, IndexOutside, AdjLabelClash, ZeroMetric, DuplicateLink, TooManyNodes, TooManyLinks}
use Rattle.sr_lsdb.specs.declared.facts.Facts.{Facts}
use Rattle.sr_domain.specs.Rules.{Keeps, AreKept, rank}

-- a rule is kept whatever it names
pub keeps-same : (facts : Facts) (a b : DomainRule) → rank a ≡ rank b → Keeps facts a → Keeps facts b
keeps-same facts (NoSrgb v) (NoSrgb w) e keeps = keeps
keeps-same facts (SrgbBad v) (SrgbBad w) e keeps = keeps
keeps-same facts (DuplicateIndex i low high) (DuplicateIndex j a b) e keeps = keeps
keeps-same facts (IndexOutside i v) (IndexOutside j w) e keeps = keeps
keeps-same facts (AdjLabelClash t v) (AdjLabelClash s w) e keeps = keeps
keeps-same facts (ZeroMetric from to) (ZeroMetric a b) e keeps = keeps
keeps-same facts (DuplicateLink from to) (DuplicateLink a b) e keeps = keeps
keeps-same facts (TooManyNodes m) (TooManyNodes n) e keeps = keeps
keeps-same facts (TooManyLinks m) (TooManyLinks n) e keeps = keeps
keeps-same facts a b e keeps = absurd (omega arith)

pub kept-nothing : (facts : Facts) → AreKept facts 0
kept-nothing facts = λ rule lt. absurd (omega arith)

pub kept-more : (facts : Facts) (count : ℕ) (rule : DomainRule) → rank rule ≡ count → AreKept facts count → Keeps facts rule → AreKept facts (count + 1)
kept-more facts count rule next kept keeps = λ other lt. ⊎_elim
    (λ (low : rank other < count). kept other low)
    (λ (high : count ≤ rank other). keeps-same facts rule other (omega arith) keeps)
    (cases_lt (rank other) count)
