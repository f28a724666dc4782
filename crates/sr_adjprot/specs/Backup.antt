-- The other adjacency label of a link: where a node announces an Adj-SID without the flag B, which the net takes, and
-- one with it (RFC 8667, 2.2.1), the second may be protected.
use Rattle.std.specs.Prelude.{◌≡◌, ◌≢◌, ℕ, ◌<◌, ◌≤◌, Bool, true, false, List, length, Option, Some, None}
use Rattle.sr_model.specs.declared.link.LinkNo.{LinkNo}
use Rattle.sr_model.specs.Graph.{has}
use Rattle.sr_model.specs.Case.{key_at}
use Rattle.sr_model.specs.Label.{Net, adj_at}
use Rattle.sr_lsp.specs.declared.reach.Reach.{Reach as ReachPart}
use Rattle.sr_lsdb.specs.declared.facts.Facts.{Facts}
use Rattle.sr_lsdb.specs.Announcement.{announcement_of, adj_sid_labels, least}
use Rattle.sr_domain.specs.Links.{is_in_use}
use Rattle.sr_adjprot.specs.declared.answer.AdjAnswer.{AdjAnswer}
use Rattle.sr_adjprot.specs.declared.answer.BackupLabel.{BackupLabel}
use Rattle.sr_adjprot.specs.Eligible.{AnnouncesReach}
use Rattle.sr_adjprot.specs.Active.{IsAdjAnswer}
use Rattle.sr_adjprot.specs.Delivery.{AdjDelivers}

-- t is the least label with the flag B of an announcement of link l that has one without it too, and isn't the label
-- that the net has for the link: the link is in use as it is announced here, some Adj-SID of the announcement gives a
-- label with the flag B clear, and of those that give one with it set t is the least
pub record GivesBackup (facts : Facts) (net : Net) (l t : ℕ) : Type 0 where
  pub node : ℕ
  pub reach : ReachPart
  pub announced : AnnouncesReach facts node reach
  pub used : is_in_use facts (announcement_of node reach) ≡ true
  pub named : (announcement_of node reach).key ≡ key_at net.graph l
  pub clear : 0 < length (adj_sid_labels false reach.adj)
  pub given : least (adj_sid_labels true reach.adj) ≡ Some t
  pub other : adj_at net l ≢ Some t

-- t is the least such label of link l (this project's rule)
pub record IsBackupLabel (facts : Facts) (net : Net) (l t : ℕ) : Type 0 where
  pub gives : GivesBackup facts net l t
  pub least : (s : ℕ) → GivesBackup facts net l s → t ≤ s

-- what is done with a packet under an eligible label of link l
abbrev pub IsReplaced : Net → LinkNo → AdjAnswer → Type 0
IsReplaced n l answer = (eligible : List Bool) × (has eligible l.0 ≡ true) × IsAdjAnswer n eligible l answer

-- the least such label of link l, and what is done with a packet under it, which delivers; none where there is no such
-- label. No rule tests this label for clashes: what is told of a packet under it holds where the router gives the label
-- no other meaning.
abbrev pub IsBackup : Facts → Net → LinkNo → Option BackupLabel → Type 0
IsBackup facts net l None = (t : ℕ) → GivesBackup facts net l.0 t → ⊥
IsBackup facts net l (Some b) =
    IsBackupLabel facts net l.0 b.label × IsReplaced net l b.answer × AdjDelivers net l b.answer
