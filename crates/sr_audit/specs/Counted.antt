-- How many answers of a net are of each sort.
use Rattle.std.specs.Prelude.{◌≡◌, ℕ, ◌+◌, ◌<◌, ◌^◌, List}
use Rattle.sr_model.specs.declared.audit.Item.{Item}
use Rattle.sr_model.specs.declared.audit.Counts.{Counts}
use Rattle.sr_model.specs.Audit.{IsAudit, counts_of}
use Rattle.sr_model.specs.Label.{Net}
use Rattle.sr_audit.specs.Cases.{IsAuditAt}

-- nothing is counted
abbrev pub no_counts : Counts
no_counts = record { covered = 0; nopath = 0; nolist = 0; toodeep = 0 }

-- both counts together, sort by sort
abbrev pub counts_sum : Counts → Counts → Counts
counts_sum a b = record {
  covered = a.covered + b.covered;
  nopath = a.nopath + b.nopath;
  nolist = a.nolist + b.nolist;
  toodeep = a.toodeep + b.toodeep;
}

-- each sort fits 32 bits
pub record AreCounts (counts : Counts) : Type 0 where
  pub covered : counts.covered < 2 ^ 32
  pub nopath : counts.nopath < 2 ^ 32
  pub nolist : counts.nolist < 2 ^ 32
  pub toodeep : counts.toodeep < 2 ^ 32

-- these are the counts of the audit of the case at this place
pub record AreCountsAt (n : Net) (place : ℕ) (counts : Counts) : Type 0 where
  pub items : List Item
  pub audit : IsAuditAt n place items
  pub counted : counts ≡ counts_of items

-- these are the counts of an audit of the net
pub record AreAuditCounts (n : Net) (counts : Counts) : Type 0 where
  pub items : List Item
  pub audit : IsAudit n items
  pub counted : counts ≡ counts_of items
