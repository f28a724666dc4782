-- The choice among the hops that may be crossed.
use Rattle.std.specs.Prelude.{ℕ, ◌%◌, Bool, not, List, length, Option, filter, slice_get}
use Rattle.sr_model.specs.declared.link.LinkNo.{LinkNo}
use Rattle.sr_model.specs.declared.entry.Out.{Out}
use Rattle.sr_model.specs.Graph.{has}

-- the hops whose links aren't closed
abbrev pub open_hops : List Bool → List (LinkNo × Out) → List (LinkNo × Out)
open_hops closed hops = filter (λ (h : LinkNo × Out). not (has closed h.0.0)) hops

-- the links that aren't closed
abbrev pub open_links : List Bool → List LinkNo → List LinkNo
open_links closed links = filter (λ (l : LinkNo). not (has closed l.0)) links

-- of the open hops the one of number choice mod their count, counted from 0, or none where none is open
abbrev pub chosen_hop : List Bool → ℕ → List (LinkNo × Out) → Option (LinkNo × Out)
chosen_hop closed choice hops = slice_get (open_hops closed hops) (choice % length (open_hops closed hops))
