-- Laws of link loads.
use Rattle.std.specs.Prelude.{◌≡◌, ℕ}
use Rattle.sr_model.specs.Label.{Net}
use Rattle.sr_model.specs.Rule.{IsNet}
use Rattle.sr_loads.specs.Loads.{LinkLoads, IsLoads}

-- a net has one answer to each number of choices
abbrev pub LoadsAreUnique : Type 0
LoadsAreUnique =
    (net : Net) → IsNet net → (choices : ℕ) (one two : LinkLoads) → IsLoads net choices one → IsLoads net choices two
    → one ≡ two
