use Rattle.std.proofs.Common.{Some, ap, sym, ◌∙◌}
use Rattle.sr_lsp.specs.declared.table.Part.TheVariants as part
use Rattle.sr_lsp.specs.Parts.{part_of}
use Rattle.sr_account.specs.Steps.{at_part}
use Rattle.sr_account.proofs.PartLemmas.{part-at, reach-own}
use Rattle.sr_account.proofs.parts.own_reason.Goals as goal

pub returns-in-Some : goal.returns-in-Some
returns-in-Some c =
    reach-own c.args.facts.now (at_part c.args.id.now c.args.at) (part_of c.args.part) c.in-Reach.reach.now c.in-Some.announcement c.announcement_reason.result (ap part_of c.in-Reach.is) (sym c.announced_by.ensures ∙ c.in-Some.is) c.announcement_reason.ensures

pub returns-in-None : goal.returns-in-None
returns-in-None c =
    part-at c.args.facts.now (at_part c.args.id.now c.args.at) (part_of c.args.part) (part.Reach c.in-Reach.reach.now) (Some c.unannounced_reason.result) (ap part_of c.in-Reach.is) (c.unannounced_reason.ensures c.args.facts.now)
