use Rattle.sr_lsp.specs.declared.table.Part.TheVariants as part
use Rattle.sr_lsdb.specs.declared.facts.Facts.{Facts}
use Rattle.sr_account.specs.Items.Item.{OfPart}
use Rattle.sr_account.specs.Reasons.{HoldsFor}
use Rattle.sr_account.specs.Steps.{IsFoundReason, adj_item, at_part}
use Rattle.sr_account.proofs.ToldLemmas.{IsRestOf}
use Rattle.sr_account.proofs.asides.add_adj_sids.Given as goal

abbrev pub invariant-loop-k : goal.invariant-loop-k
invariant-loop-k l =
    (facts : Facts) → IsFoundReason (HoldsFor facts (OfPart (at_part l.id l.at) (part.Reach l.reach))) l.entry
    → IsRestOf facts (adj_item (at_part l.id l.at) l.reach) l.k l.sids l.fn.out.items l.out.items
