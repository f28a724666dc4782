-- Edits of the facts.
use Rattle.std.specs.Prelude.{ℕ, ◌≤◌}
use Rattle.std.specs.BTreeMap.{insert_entry, is_at}
use Rattle.std.specs.BTreeSet.{insert_key}
use Rattle.std.specs.Set.{remove_key}
use Rattle.sr_model.specs.declared.name.LinkKey.{LinkKey}
use Rattle.sr_model.specs.declared.name.PairKey.{PairKey}
use Rattle.sr_model.specs.KeyOrder.{key_cmp}
use Rattle.sr_lsp.specs.declared.lsp.Lsp.{Lsp}
use Rattle.sr_lsp.specs.InRange.{FitsLsp}
use Rattle.sr_model.specs.declared.limits.TheConstants.{MOST_DEPTH}
use Rattle.sr_lsdb.specs.declared.facts.Facts.{Facts}
use Rattle.sr_lsdb.specs.Order.{id_cmp, pair_cmp}
use Rattle.sr_lsdb.specs.Facts.{IsCost, stored_of}

-- an edit: a PDU, the metric of a link, a pair that goes down or comes up, or the depth
pub data Edit : Type 0 where
  Announce : Lsp → Edit
  SetCost : LinkKey → ℕ → Edit
  TakeDown : PairKey → Edit
  BringUp : PairKey → Edit
  SetDepth : ℕ → Edit

-- the facts after an edit: a PDU is stored under its id, a metric is set for a key, a pair is among those that are
-- down or isn't, the depth is set
abbrev pub apply : Edit → Facts → Facts
apply (Announce lsp) facts = record {
  database = insert_entry id_cmp facts.database lsp.id (stored_of lsp);
  costs = facts.costs;
  downs = facts.downs;
  depth = facts.depth;
}
apply (SetCost key metric) facts = record {
  database = facts.database;
  costs = insert_entry key_cmp facts.costs key metric;
  downs = facts.downs;
  depth = facts.depth;
}
apply (TakeDown pair) facts = record {
  database = facts.database;
  costs = facts.costs;
  downs = insert_key pair_cmp facts.downs pair;
  depth = facts.depth;
}
apply (BringUp pair) facts = record {
  database = facts.database;
  costs = facts.costs;
  downs = remove_key (is_at (pair_cmp pair)) facts.downs;
  depth = facts.depth;
}
apply (SetDepth depth) facts = record {
  database = facts.database;
  costs = facts.costs;
  downs = facts.downs;
  depth = depth;
}

-- an edit in range: a PDU that fits its layouts, the metric of a link in use, or at most `MOST_DEPTH` segments
abbrev pub IsEditInRange : Edit → Type 0
IsEditInRange (Announce lsp) = FitsLsp lsp
IsEditInRange (SetCost key metric) = IsCost (key, metric)
IsEditInRange (TakeDown pair) = Unit {0}
IsEditInRange (BringUp pair) = Unit {0}
IsEditInRange (SetDepth depth) = depth ≤ MOST_DEPTH
