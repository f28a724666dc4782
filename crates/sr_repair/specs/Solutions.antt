-- What is computed for a case that affects some destination.
use Rattle.std.specs.Prelude.{◌≡◌, ℕ, Bool, List}
use Rattle.sr_model.specs.declared.case.Case.{Case}
use Rattle.sr_model.specs.Walk.{IsRow}
use Rattle.sr_model.specs.Case.{IsFailedSet, source_of}
use Rattle.sr_model.specs.Label.{Net}
use Rattle.sr_encode.specs.declared.renumbered.Renumbering.{Renumbering}
use Rattle.sr_encode.specs.Placed.{listed_from, ArePlacedLists, Listing}
use Rattle.sr_encode.specs.Renumbered.{moved_entries}

-- the distances from the source without the failed links, and what is listed
pub record Solution : Type 0 where
  pub cells : List ℕ
  pub lists : Listing

-- they are those of the case
pub record IsSolution (n : Net) (case : Case) (s : Solution) : Type 0 where
  pub row : (x : List Bool) → IsFailedSet n.graph case x → IsRow n.graph x (source_of n.graph case) s.cells
  pub lists : ArePlacedLists n case s.lists

-- the same distances, and what is listed with renumbered links, where first links are counted from those at which the
-- links of the source begin
pub record IsMovedSolution (r : Renumbering) (s t : Solution) : Type 0 where
  pub cells : t.cells ≡ s.cells
  pub lists : listed_from r.after.0 t.lists ≡ moved_entries r.links.now (listed_from r.before.0 s.lists)
