-- How many searches for distances a script may take.
use Rattle.std.specs.Prelude.{◌≡◌, ℕ, ◌+◌, ◌*◌, ◌≤◌, List, [], ◌∷◌, Option, Some, None}
use Rattle.sr_model.specs.Graph.{node_count, link_count}
use Rattle.sr_model.specs.Label.{Net}
use Rattle.sr_repair.specs.Version.{NumberedNet}
use Rattle.sr_repair.specs.Work.{IsWithinWork}
use Rattle.sr_run.specs.Domain.{Domain, TriedNet}

-- what the commits of these nets, the last one first, may search for: of the first net a search for each node and each
-- case; of each later one a search for each node whose tree doesn't stay from the net before, and one for each case
-- that isn't an old case that is steady; and none where the same is listed as in the net before
abbrev pub IsWithinCommits : List Net → ℕ → Type 0
IsWithinCommits [] count = count ≡ 0
IsWithinCommits (net ∷ []) count = count ≤ node_count net.graph + 3 * link_count net.graph
IsWithinCommits (net ∷ before ∷ earlier) count =
    (here : ℕ) × (earlier_count : ℕ) × (count ≡ here + earlier_count) × IsWithinWork before net here
    × IsWithinCommits (before ∷ earlier) earlier_count

-- what the commit of this net may search for, after that of the last version: the same as of a script's nets
abbrev pub IsCommitWork : Option NumberedNet → Net → ℕ → Type 0
IsCommitWork None net count = count ≤ node_count net.graph + 3 * link_count net.graph
IsCommitWork (Some version) net count = IsWithinWork version.net net count

-- what questions that are tried on these nets may search for: as much as their commits
abbrev pub IsWithinTries : List TriedNet → ℕ → Type 0
IsWithinTries [] count = count ≡ 0
IsWithinTries (tried ∷ earlier) count =
    (here : ℕ) × (earlier_count : ℕ) × (count ≡ here + earlier_count) × IsCommitWork tried.current tried.net here
    × IsWithinTries earlier earlier_count

-- the counter grew by no more than what the accepted commits and the questions that were tried may search for, and one
-- search for each question by `prove` or `why`
pub record CountsSearches (domain : Domain) (before after : ℕ) : Type 0 where
  pub commits : ℕ
  pub within : IsWithinCommits domain.nets commits
  pub tries : ℕ
  pub tried : IsWithinTries domain.tried tries
  pub most : after ≤ before + commits + tries + domain.asked

-- the counter grew by what that commit may search for
abbrev pub CountsCommitWork : Option NumberedNet → Net → ℕ → ℕ → Type 0
CountsCommitWork current net before after = (count : ℕ) × (after ≡ before + count) × IsCommitWork current net count
