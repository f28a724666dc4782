use Rattle.sr_lsp.specs.declared.table.Part.TheVariants as part
use Rattle.sr_lsdb.specs.declared.facts.Facts.{Facts}
use Rattle.sr_account.specs.Steps.{PartStands, at_part, prefix_item}
use Rattle.sr_account.proofs.ToldLemmas.{IsRestOf}
use Rattle.sr_account.proofs.asides.add_prefix_sids.Given as goal

abbrev pub invariant-loop-k : goal.invariant-loop-k
invariant-loop-k l =
    (facts : Facts) → PartStands facts l.standing (at_part l.id l.at) (part.Prefix l.prefix)
    → IsRestOf facts (prefix_item (at_part l.id l.at) l.prefix) l.k l.sid-items l.fn.out.items l.out.items
