-- What is announced of each link of a net.
use Rattle.std.specs.Prelude.{◌≡◌, ℕ, List, length, Option, Some, None, slice_get}
use Rattle.sr_model.specs.Graph.{link_count, link_at}
use Rattle.sr_model.specs.Label.{Net}
use Rattle.sr_subtlv.specs.declared.adj_sid.AdjSid.{AdjSid}
use Rattle.sr_lsp.specs.declared.reach.Reach.{Reach}
use Rattle.sr_lsp.specs.declared.table.Part.TheVariants as part
use Rattle.sr_lsdb.specs.declared.facts.Facts.{Facts}
use Rattle.sr_lsdb.specs.Announcement.{adj_label}
use Rattle.sr_account.specs.declared.sources.LinkSource.{LinkSource}
use Rattle.sr_account.specs.Items.{PartPlace, IsPartAt}
use Rattle.sr_account.specs.Items.Item.{OfPart, OfAdj}
use Rattle.sr_account.specs.Reasons.{IsUnhindered, entry_key}

-- the flags of the SID that gives the entry its adjacency label, or none where it has no label
abbrev pub AreFlagsOf : Facts → PartPlace → Reach → Option ℕ → Type 0
AreFlagsOf facts place reach None = adj_label reach.adj ≡ None
AreFlagsOf facts place reach (Some flags) =
    (k : ℕ) × (sid : AdjSid) × (slice_get reach.adj k ≡ Some sid) × IsUnhindered facts (OfAdj place reach k sid)
    × (flags ≡ sid.flags)

-- the metric and the flags of the adjacency label are those of the entry of which no reason holds and that has the key
-- of link l
pub record IsSourceOf (facts : Facts) (net : Net) (l : ℕ) (source : LinkSource) : Type 0 where
  pub place : PartPlace
  pub reach : Reach
  pub at : IsPartAt facts place (part.Reach reach)
  pub used : IsUnhindered facts (OfPart place (part.Reach reach))
  pub key : (link_at net.graph l).key ≡ entry_key place.id.system reach
  pub metric : source.metric ≡ reach.metric
  pub flags : AreFlagsOf facts place reach source.flags

-- what is announced of each link, in order of links
pub record AreSources (facts : Facts) (net : Net) (sources : List LinkSource) : Type 0 where
  pub long : length sources ≡ link_count net.graph
  pub each : (l : ℕ) (source : LinkSource) → slice_get sources l ≡ Some source → IsSourceOf facts net l source
