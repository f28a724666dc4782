-- The words of a line (this project's rule). A line comes without its line feed.
use Rattle.std.specs.Prelude.{◌≡◌, ℕ, ◌-◌, ◌<◌, ◌==◌, ◌||◌, Bool, true, false, if◌then◌else◌, List, [], ◌∷◌, length, take, filter, slice_index, slice_index_or}
use Rattle.std.specs.List.{slice_split}

-- a space or a tab
abbrev pub is_blank : ℕ → Bool
is_blank byte = byte == 32 || byte == 9

-- the first n bytes are blanks
abbrev pub AreBlanks : List ℕ → ℕ → Type 0
AreBlanks text n = (k : ℕ) → k < n → is_blank (slice_index text k) ≡ true

-- a piece that isn't empty
abbrev pub is_written : List ℕ → Bool
is_written [] = false
is_written (byte ∷ piece) = true

-- the pieces of a text between its blanks
unfoldable pub pieces : List ℕ → List (List ℕ)
pieces text = slice_split is_blank text

-- the words of a text: its pieces that aren't empty
unfoldable pub words : List ℕ → List (List ℕ)
words text = filter is_written (pieces text)

-- the line without the one carriage return (13) that may end it
abbrev pub without_return : List ℕ → List ℕ
without_return line = if slice_index line (length line - 1) == 13 then take (length line - 1) line else line

-- the words of a line
abbrev pub words_of : List ℕ → List (List ℕ)
words_of line = words (without_return line)

-- the word at place i, from 0, and the empty text behind the last
unfoldable pub word_at : List (List ℕ) → ℕ → List ℕ
word_at ws i = slice_index_or ws i []
