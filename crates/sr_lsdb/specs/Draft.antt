-- The two sides of an editor as the editing that contracts see.
use Rattle.std.specs.Prelude.{ℕ, ◌==◌}
use Rattle.sr_lsdb.specs.declared.sides.Sides.{Sides}
use Rattle.sr_lsdb.specs.Editing.{Editing, IsSteady}
use Rattle.sr_lsdb.specs.Sides.{IsNoted, latest}

-- the front is accepted, and the latest facts are the tentative ones
abbrev pub editing_of : Sides → ℕ → Editing
editing_of sides staged = record { accepted = sides.front; tentative = latest (staged == 0) sides; staged = staged }

-- the sides of a steady editing, which differ only in what is noted
pub record AreSteadySides (sides : Sides) (staged : ℕ) : Type 0 where
  pub steady : IsSteady (editing_of sides staged)
  pub noted : IsNoted sides
