-- How a history stands in its logbook.
use Rattle.std.specs.Prelude.{Bool, true, false, List, [], ◌∷◌}
use Rattle.sr_store.specs.declared.history.LogEntry.{LogEntry}
use Rattle.sr_store.specs.declared.history.LogEntry.TheVariants.{Version, Mark}

-- the versions among these entries
abbrev pub entry_versions : {V : Type 0} → List (LogEntry V) → List V
entry_versions [] = []
entry_versions (Version v ∷ entries) = v ∷ entry_versions entries
entry_versions (Mark ∷ entries) = entry_versions entries

-- these versions, and then the mark where the history is closed
abbrev pub entries_of : {V : Type 0} → List V → Bool → List (LogEntry V)
entries_of [] true = Mark ∷ []
entries_of [] false = []
entries_of (v ∷ versions) closed = Version v ∷ entries_of versions closed
