-- The lines of a load, each with its line feed.
use Rattle.std.specs.Prelude.{ℕ, List, ◌++◌, codes, decimal, slice_index, sum}
use Rattle.std.specs.List.{flat_map, range_with_len}
use Rattle.sr_model.specs.Graph.{link_count}
use Rattle.sr_model.specs.Label.{Net}
use Rattle.sr_loads.specs.Loads.{LinkLoads}
use Rattle.sr_print.specs.Links.{link_word}
use Rattle.sr_print.specs.Printed.{ended, numbered, word}

-- link l, and how often it is crossed
unfoldable pub load_line : Net → ℕ → ℕ → List ℕ
load_line n l count = ended (codes "load" ++ link_word n l ++ word (decimal count))

-- the first m links in order, each with its count
abbrev pub load_lines : Net → List ℕ → ℕ → List ℕ
load_lines n counts m = flat_map (λ l. load_line n l (slice_index counts l)) (range_with_len 0 m)

-- how many packets are forwarded, and how often they cross links
abbrev pub load_totals_line : ℕ → ℕ → List ℕ
load_totals_line packets crossings =
    ended (numbered (codes "load packets ") packets ++ numbered (codes " crossings ") crossings)

-- a load: each link with its count, and how many packets and crossings there are
abbrev pub loads_text : Net → LinkLoads → List ℕ
loads_text n loads = load_lines n loads.counts (link_count n.graph) ++ load_totals_line loads.packets (sum loads.counts)
