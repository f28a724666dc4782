-- How a front of a history is kept.
use Rattle.std.specs.Prelude.{◌≡◌, ◌≤◌, ◌^◌, ℕ, Bool, List, length}
use Rattle.sr_store.specs.declared.history.LogEntry.{LogEntry}
use Rattle.sr_store.specs.Entries.{entries_of, entry_versions}
use Rattle.sr_store.specs.Histories.{NumbersRise}

-- these entries are versions whose numbers rise, with the mark at the end where the front is closed
pub record IsFront {V : Type 0} (number : V → ℕ) (size : ℕ) (log : List (LogEntry V)) (closed : Bool) : Type 0 where
  pub count : size ≡ length log
  pub entries : log ≡ entries_of (entry_versions log) closed
  pub few : length (entry_versions log) ≤ 2 ^ 32
  pub rise : NumbersRise number (entry_versions log)
