-- Which adjacency labels may be protected: those that come from an Adj-SID with the flag B (RFC 8667, 2.2.1).
use Rattle.std.specs.Prelude.{◌≡◌, ◌↔◌, Contains, ℕ, ◌<◌, Bool, true, false, List, [], length, Some}
use Rattle.std.specs.Option.{IsSomeAnd}
use Rattle.sr_model.specs.Graph.{link_count, has}
use Rattle.sr_model.specs.Case.{key_at}
use Rattle.sr_model.specs.Label.{Net, adj_at}
use Rattle.sr_lsp.specs.declared.lsp.LspId.{LspId}
use Rattle.sr_lsp.specs.declared.reach.Reach.{Reach as ReachPart}
use Rattle.sr_lsp.specs.declared.table.Part.TheVariants.{Reach}
use Rattle.sr_lsdb.specs.declared.facts.Stored.{Stored}
use Rattle.sr_lsdb.specs.declared.facts.Facts.{Facts}
use Rattle.sr_lsdb.specs.Announcement.{announced_by, announcement_of, adj_sid_labels}
use Rattle.sr_domain.specs.Announced.{counts, parts_of}
use Rattle.sr_domain.specs.Least.{IsLeastNumber}
use Rattle.sr_domain.specs.Links.{is_in_use}

-- a live LSP of the present node announces this link of the node
pub record AnnouncesReach (facts : Facts) (node : ℕ) (reach : ReachPart) : Type 0 where
  pub id : LspId
  pub stored : Stored
  pub stands : Contains facts.database (id, stored)
  pub counted : counts facts id ≡ true
  pub own : id.system ≡ node
  pub part : Contains (parts_of stored.live) (Reach reach)
  pub announces : announced_by node (Reach reach) ≡ Some (announcement_of node reach)

-- the adjacency label of link l may be protected: the link is in use as it is announced here, no Adj-SID of the
-- announcement gives a label with the flag B clear, and the link's label is the least that one gives with it set
pub record IsEligible (facts : Facts) (net : Net) (l : ℕ) : Type 0 where
  pub node : ℕ
  pub reach : ReachPart
  pub announced : AnnouncesReach facts node reach
  pub used : is_in_use facts (announcement_of node reach) ≡ true
  pub named : (announcement_of node reach).key ≡ key_at net.graph l
  pub clear : adj_sid_labels false reach.adj ≡ []
  pub label : IsSomeAnd (adj_at net l) (IsLeastNumber (adj_sid_labels true reach.adj))

-- the tests, one for each link, tell whose adjacency label may be protected
pub record AreEligible (facts : Facts) (net : Net) (tests : List Bool) : Type 0 where
  pub long : length tests ≡ link_count net.graph
  pub each : (l : ℕ) → l < link_count net.graph → (has tests l ≡ true) ↔ IsEligible facts net l
