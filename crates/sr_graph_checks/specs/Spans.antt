-- The links of the graphs that the tests ask about.
use Rattle.std.specs.Prelude.{◌≡◌, ◌≢◌, ℕ, ◌+◌, ◌<◌, ◌≤◌, List, [], ◌∷◌, nat_eq, if◌then◌else◌}
use Rattle.sr_model.specs.declared.link.TheConstants.{MOST_METRIC}
use Rattle.sr_graph.specs.declared.draft.DraftLink.{DraftLink}

-- the groups of links whose ends add up to this number: group 7 where it is the risky one
abbrev pub span_groups : ℕ → ℕ → List ℕ
span_groups risky ends = if nat_eq ends risky then 7 ∷ [] else []

-- a link in use between two different nodes of the system ids 1 to n, with the groups of its ends
pub record IsSpanned (n risky : ℕ) (link : DraftLink) : Type 0 where
  pub from : (0 < link.key.from) × (link.key.from ≤ n)
  pub to : (0 < link.key.to) × (link.key.to ≤ n)
  pub apart : link.key.from ≢ link.key.to
  pub metric : link.metric < MOST_METRIC + 1
  pub groups : link.groups ≡ span_groups risky (link.key.from + link.key.to)
