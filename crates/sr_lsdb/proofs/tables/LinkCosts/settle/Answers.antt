use Rattle.std.proofs.Common.{sym}
use Rattle.std.proofs.lemmas.Map.Lookups.{btree_map_from_get}
use Rattle.sr_model.specs.declared.name.LinkKey.{LinkKey}
use Rattle.sr_model.proofs.KeyOrderLemmas.{key_total}
use Rattle.sr_lsdb.proofs.OrderLemmas.{key_exact}
use Rattle.sr_lsdb.proofs.tables.LinkCosts.settle.Goals as goal

pub returns : goal.returns
returns c =
    rw (← c.self.view_is, ← c.other.view_is)
    (btree_map_from_get key_total c.self.inside.metrics c.other.inside.metrics c.len.ensures.ordered c.len-2.ensures.ordered (rw (← c.self.view_is, ← c.other.view_is) at (λ (key : LinkKey). sym (c.requires key))) key_exact)
