use Rattle.std.proofs.Common.{[], sym, ◌∙◌}
use Rattle.std.proofs.lemmas.List.{get_or_default}
use Rattle.sr_rules.specs.RuleSurvey.{nodes_with}
use Rattle.sr_rules.proofs.NodesLemmas.{ranges-with_at}
use Rattle.sr_rules.proofs.ClashLemmas.{taken-in}
use Rattle.sr_rules.proofs.adjacencies.is_taken.Goals as goal

pub returns-else-this-lt-FIRST_FREE : goal.returns-else-this-lt-FIRST_FREE
returns-else-this-lt-FIRST_FREE c =
    taken-in (nodes_with c.args.ranges.now) c.args.this c.as_slice.result.now c.is_in.result c.if-this-lt-FIRST_FREE.false
    (c.as_slice.ensures ∙ c.index-ranges-this.is ∙ get_or_default c.args.ranges.now c.args.this.node c.index-ranges-this.result [] c.requires ∙ sym (ranges-with_at c.args.ranges.now c.args.this.node))
    c.is_in.ensures
