use Rattle.std.proofs.Common.{ap}
use Rattle.sr_lsp.specs.Parts.{part_of}
use Rattle.sr_account.proofs.LentLemmas.{not-prefix, not-reach}
use Rattle.sr_account.proofs.ToldLemmas.{adds-other, adds-prefix, adds-reach, on-ok}
use Rattle.sr_account.proofs.asides.add_part.Goals as goal

pub returns-in-Reach : goal.returns-in-Reach
returns-in-Reach c = on-ok c.add_adj_sids.result _ _
    (λ h. adds-reach c.args.facts.now c.args.id.now c.args.at (part_of c.args.part) c.in-Reach.reach.now c.part_reason-reason.result c.matter_of.result c.args.out.now.items c.tell.new.out.items c.add_adj_sids.new.out.items (ap part_of c.in-Reach.is) c.part_reason-reason.ensures c.matter_of.ensures c.in_ok-tell.ensures (h c.args.facts.now))
    c.add_adj_sids.ensures

pub returns-in-Prefix : goal.returns-in-Prefix
returns-in-Prefix c = on-ok c.add_prefix_sids.result _ _
    (λ h. adds-prefix c.args.facts.now c.args.id.now c.args.at (part_of c.args.part) c.in-Prefix.prefix.now c.args.standing.now c.part_reason-reason.result c.matter_of.result c.args.out.now.items c.tell.new.out.items c.add_prefix_sids.new.out.items (ap part_of c.in-Prefix.is) c.requires.stands c.part_reason-reason.ensures c.matter_of.ensures c.in_ok-tell.ensures (h c.args.facts.now))
    c.add_prefix_sids.ensures

pub returns-in_default : goal.returns-in_default
returns-in_default c =
    adds-other c.args.facts.now c.args.id.now c.args.at (part_of c.args.part) c.part_reason-reason.result c.matter_of.result c.args.out.now.items c.tell.new.out.items (not-reach c.args.part c.in_default.not-Reach) (not-prefix c.args.part c.in_default.not-Prefix) c.part_reason-reason.ensures c.matter_of.ensures c.in_ok-tell.ensures
