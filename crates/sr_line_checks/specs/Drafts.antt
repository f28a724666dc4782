-- The links of the tests' graphs.
use Rattle.std.specs.Prelude.{ℕ, List}
use Rattle.sr_model.specs.declared.name.LinkKey.{LinkKey}
use Rattle.sr_graph.specs.declared.draft.DraftLink.{DraftLink}

-- the link of this name and of metric 1, in these groups
abbrev pub drafted_in : List ℕ → LinkKey → DraftLink
drafted_in groups key = record { key = key; metric = 1; groups = groups }
