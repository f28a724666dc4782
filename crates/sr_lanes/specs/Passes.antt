-- What passes over rows ask of a cell.
use Rattle.std.specs.Prelude.{ℕ, ◌+◌, ◌≤◌, ◌==◌, ◌&&◌, not, Bool, if◌then◌else◌, nat_lt, List, length, slice_index}
use Rattle.sr_lanes.specs.declared.limits.TheConstants.{CELL_AT_MOST}

-- each cell of the row is a distance, or says that there is no walk
abbrev pub AreCells : List ℕ → Type 0
AreCells row = (v : ℕ) → slice_index row v ≤ CELL_AT_MOST

-- the way over the base costs what the row says of the node
abbrev pub is_tight : List ℕ → ℕ → List ℕ → ℕ → Bool
is_tight row cost base v = nat_lt v (length row) && (cost + slice_index base v == slice_index row v)

-- the rows differ at the node
abbrev pub differs : List ℕ → List ℕ → ℕ → Bool
differs a b v = nat_lt v (length a) && not (slice_index a v == slice_index b v)

-- the row has a distance to the node
abbrev pub has_distance : List ℕ → ℕ → Bool
has_distance row v = nat_lt v (length row) && nat_lt (slice_index row v) CELL_AT_MOST

-- 1 where the way over the base costs what the row says, and else what stood there
abbrev pub marked : List ℕ → ℕ → List ℕ → List ℕ → ℕ → ℕ
marked row cost base hits v = if is_tight row cost base v then 1 else slice_index hits v
