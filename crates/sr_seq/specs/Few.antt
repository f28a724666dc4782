-- Lists that mostly have one value.
use Rattle.std.specs.Prelude.{List, [], ◌∷◌, Option, Some, None}

-- the one value that stands alone, or else many
abbrev pub one_or : {T : Type 0} → Option T → List T → List T
one_or None many = many
one_or (Some value) many = value ∷ []
