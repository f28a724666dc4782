-- The rule of a store's history, and what a step that adds a version tells.
use Rattle.std.specs.Prelude.{ℕ, ◌≡◌, ◌==◌, true, List, [], ◌∷◌, ◌++◌, length, MatchBool}
use Rattle.logbook.specs.Pages.{Cell, Step, View, Book, Named}

-- the first word is the length of the history; the second one is left at 0
abbrev pub IsKeptLog : {V : Type 0} → List Cell → List V → Type 0
IsKeptLog cells log = cells ≡ (length log, true) ∷ (0, true) ∷ []

-- the name of the first word of the store of this book, whose step is tracked
abbrev pub named_head : Book → Named
named_head b = record { tracked = true; key = 0; book = b }

-- the version was added to all that had been seen; or the history was longer, and was seen
abbrev pub AddsEntry : {V : Type 0} → Step V → View V ℕ → ℕ → View V ℕ → Type 0
AddsEntry s v found w = MatchBool (found == s.old) (w.0 ≡ v.0 ++ s.ask ∷ []) (length w.0 ≡ found)
