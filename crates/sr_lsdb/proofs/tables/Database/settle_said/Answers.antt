use Rattle.sr_lsp.specs.declared.lsp.LspId.{LspId}
use Rattle.sr_lsdb.proofs.AlikeLemmas.{said-settled}
use Rattle.sr_lsdb.proofs.tables.Database.settle_said.Goals as goal

pub returns : goal.returns
returns c =
    rw (← c.self.view_is, ← c.other.view_is)
    (said-settled c.self.inside.entries.entries c.other.inside.entries.entries c.len.ensures.ordered c.len-2.ensures.ordered (rw (← c.self.view_is, ← c.other.view_is) at (λ (id : LspId). c.requires id)))
