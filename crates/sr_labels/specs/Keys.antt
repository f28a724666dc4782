-- Ascending keys of links, and the places of those between two nodes.
use Rattle.std.specs.Prelude.{◌≡◌, ℕ, ◌<◌, nat_lt, ◌==◌, ◌&&◌, ◌||◌, Bool, List, Some, slice_get}
use Rattle.sr_model.specs.declared.name.LinkKey.{LinkKey}
use Rattle.sr_model.specs.Key.{KeyLt}

-- each key comes before all later ones
abbrev pub Ascend : List LinkKey → Type 0
Ascend keys = (i j : ℕ) (a b : LinkKey) → i < j → slice_get keys i ≡ Some a → slice_get keys j ≡ Some b → KeyLt a b

-- the key stands among the keys
abbrev pub Hold : List LinkKey → LinkKey → Type 0
Hold keys key = (i : ℕ) × (slice_get keys i ≡ Some key)

-- the ends of the key come before these
abbrev pub is_before : ℕ → ℕ → LinkKey → Bool
is_before from to key = nat_lt key.from from || ((key.from == from) && nat_lt key.to to)

-- the key leads from the one node to the other
abbrev pub joins : ℕ → ℕ → LinkKey → Bool
joins from to key = (key.from == from) && (key.to == to)
