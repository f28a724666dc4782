use Rattle.std.proofs.Common.{sym}
use Rattle.std.proofs.lemmas.Map.Lookups.{btree_set_from_contains}
use Rattle.sr_model.specs.declared.name.PairKey.{PairKey}
use Rattle.sr_lsdb.proofs.OrderLemmas.{pair_exact, pair_total}
use Rattle.sr_lsdb.proofs.tables.DownPairs.settle.Goals as goal

pub returns : goal.returns
returns c =
    rw (← c.self.view_is, ← c.other.view_is)
    (btree_set_from_contains pair_total c.self.inside.pairs c.other.inside.pairs c.len.ensures.ordered c.len-2.ensures.ordered (rw (← c.self.view_is, ← c.other.view_is) at (λ (pair : PairKey). sym (c.requires pair))) pair_exact)
