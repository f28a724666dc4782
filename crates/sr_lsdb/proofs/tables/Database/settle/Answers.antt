use Rattle.std.proofs.Common.{sym}
use Rattle.std.proofs.lemmas.Map.Lookups.{btree_map_from_get}
use Rattle.sr_lsp.specs.declared.lsp.LspId.{LspId}
use Rattle.sr_lsdb.proofs.OrderLemmas.{id_exact, id_total}
use Rattle.sr_lsdb.proofs.tables.Database.settle.Goals as goal

pub returns : goal.returns
returns c =
    rw (← c.self.view_is, ← c.other.view_is)
    (btree_map_from_get id_total c.self.inside.entries c.other.inside.entries c.len.ensures.ordered c.len-2.ensures.ordered (rw (← c.self.view_is, ← c.other.view_is) at (λ (id : LspId). sym (c.requires id))) id_exact)
