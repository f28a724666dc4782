use Rattle.std.proofs.Common.{All, List, sym, subst}
use Rattle.sr_lsp.specs.declared.lsp.LspId.{LspId}
use Rattle.sr_lsdb.specs.declared.facts.Stored.{Stored}
use Rattle.sr_lsdb.specs.Facts.{StandsUnderItsId}
use Rattle.sr_lsdb.proofs.OrderLemmas.{id_exact}
use Rattle.sr_lsdb.proofs.RangeLemmas.{All-insert_entry}
use Rattle.sr_lsdb.proofs.tables.Database.insert.Goals as goal

pub invariant_of-self-2 : goal.invariant_of-self-2
invariant_of-self-2 c =
    subst (λ (es : List (LspId × Stored)). All StandsUnderItsId es) (sym c.in_ok-insert.ensures.entries)
    (All-insert_entry id_exact StandsUnderItsId c.self.inside.entries.entries c.args.id c.args.stored c.self.invariant c.requires)
