use Rattle.std.proofs.Common.{◌∙◌, ap, sym}
use Rattle.sr_lsp.specs.declared.table.Part.{Part}
use Rattle.sr_lsp.specs.Parts.{part_of}
use Rattle.sr_account.specs.Steps.{least_offer, part_items}
use Rattle.sr_account.proofs.ChoiceLemmas.{least-no_host, least-other}
use Rattle.sr_account.proofs.LentLemmas.{not-prefix}
use Rattle.sr_account.proofs.choice.least_of_part.Goals as goal

pub returns-else-prefix-eq-ADDRESS_BITS : goal.returns-else-prefix-eq-ADDRESS_BITS
returns-else-prefix-eq-ADDRESS_BITS c =
    least-no_host c.args.first c.args.id.now c.args.at c.in-Prefix.prefix.now c.if-prefix-eq-ADDRESS_BITS.false
    ∙ ap (λ (said : Part). least_offer c.args.first (part_items c.args.id.now c.args.at said)) (sym (ap part_of c.in-Prefix.is))

pub returns-in_default : goal.returns-in_default
returns-in_default c = least-other c.args.first c.args.id.now c.args.at (part_of c.args.part) (not-prefix c.args.part c.in_default.not-Prefix)
