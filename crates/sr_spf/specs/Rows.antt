-- The rows that were counted on their way.
use Rattle.std.specs.Prelude.{ℕ, List, map}
use Rattle.sr_spf.specs.declared.rows.Counted.{Counted}

-- the rows alone
abbrev pub rows_in : List Counted → List (List ℕ)
rows_in all = map (λ (one : Counted). one.row) all
