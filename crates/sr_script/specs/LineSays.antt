-- What a line says, and why a line is refused (this project's rule). A line comes without its line feed.
use Rattle.std.specs.Prelude.{◌≡◌, ℕ, ◌<◌, ◌≤◌, ◌⊎◌, true, List, [], ◌∷◌, length, codes, slice_index, IsErr}
use Rattle.hex.specs.Hex.{decode_of}
use Rattle.sr_engine.specs.declared.script.TheConstants.{LONGEST_LINE}
use Rattle.sr_script.specs.declared.command.Command.{Command}
use Rattle.sr_script.specs.declared.line.Line.{Line}
use Rattle.sr_script.specs.declared.line.Line.TheVariants.{Nothing, Word, Try}
use Rattle.sr_script.specs.declared.line.LineFault.{LineFault}
use Rattle.sr_script.specs.declared.line.LineFault.TheVariants.{TooLong, UnknownWord, BadForm, BadHex, Memory}
use Rattle.sr_script.specs.Words.{words_of}
use Rattle.sr_script.specs.Says.{SaysCommand, first_word, is_question}

-- the word begins a command
abbrev pub BeginsCommand : List ℕ → Type 0
BeginsCommand word = (command : Command) × (word ≡ first_word command)

-- the word begins a command, or is the one with which a question is tried
abbrev pub BeginsLine : List ℕ → Type 0
BeginsLine word = BeginsCommand word ⊎ (word ≡ codes "try")

-- the word begins with `#`, which is 35
abbrev pub IsRemark : List ℕ → Type 0
IsRemark word = slice_index word 0 ≡ 35

-- there are no words, or the first begins a remark
abbrev pub SayNothing : List (List ℕ) → Type 0
SayNothing [] = Unit {0}
SayNothing (first ∷ rest) = IsRemark first

-- the first word begins neither a remark nor anything else that a line may say
abbrev pub IsUnknown : List (List ℕ) → Type 0
IsUnknown [] = ⊥
IsUnknown (first ∷ rest) = ¬ IsRemark first × ¬ BeginsLine first

-- the first word begins a command, or a question that is tried
abbrev pub IsKnown : List (List ℕ) → Type 0
IsKnown [] = ⊥
IsKnown (first ∷ rest) = BeginsLine first

-- the words are `lsp` and one text
abbrev pub IsLspOf : List (List ℕ) → List ℕ → Type 0
IsLspOf ws text = ws ≡ codes "lsp" ∷ text ∷ []

-- the words say that a question is tried: they are `try`, and behind it the words of the question
abbrev pub SaysTry : List (List ℕ) → Command → Type 0
SaysTry [] question = ⊥
SaysTry (first ∷ rest) question =
    (first ≡ codes "try") × (is_question question ≡ true) × SaysCommand rest question

-- the words say this
abbrev pub WordsSay : List (List ℕ) → Line → Type 0
WordsSay ws Nothing = SayNothing ws
WordsSay ws (Word command) = SaysCommand ws command
WordsSay ws (Try question) = SaysTry ws question

-- the words begin a command or a question that is tried, aren't `lsp` and one text, and say neither
pub record IsBadForm (ws : List (List ℕ)) : Type 0 where
  pub known : IsKnown ws
  pub other : (text : List ℕ) → ¬ IsLspOf ws text
  pub unsaid : (command : Command) → ¬ SaysCommand ws command
  pub untried : (question : Command) → ¬ SaysTry ws question

-- the words are `lsp` and a text that isn't pairs of hexadecimal digits
pub record IsBadHex (ws : List (List ℕ)) : Type 0 where
  pub text : List ℕ
  pub lsp : IsLspOf ws text
  pub refused : IsErr (decode_of text)

-- the words of a line that isn't too long are refused so; memory may run out at any line
abbrev pub IsWordsFault : List (List ℕ) → LineFault → Type 0
IsWordsFault ws TooLong = ⊥
IsWordsFault ws UnknownWord = IsUnknown ws
IsWordsFault ws BadForm = IsBadForm ws
IsWordsFault ws BadHex = IsBadHex ws
IsWordsFault ws (Memory error) = Unit {0}

-- no more bytes than the longest line may have, a carriage return counted
abbrev pub IsShortLine : List ℕ → Type 0
IsShortLine line = length line ≤ LONGEST_LINE

-- a line that isn't too long says what its words say
pub record LineSays (line : List ℕ) (said : Line) : Type 0 where
  pub short : IsShortLine line
  pub says : WordsSay (words_of line) said

-- the line is refused so; memory may run out at any line
abbrev pub IsLineFault : List ℕ → LineFault → Type 0
IsLineFault line TooLong = LONGEST_LINE < length line
IsLineFault line UnknownWord = IsShortLine line × IsUnknown (words_of line)
IsLineFault line BadForm = IsShortLine line × IsBadForm (words_of line)
IsLineFault line BadHex = IsShortLine line × IsBadHex (words_of line)
IsLineFault line (Memory error) = Unit {0}

-- memory ran out
abbrev pub IsMemory : LineFault → Type 0
IsMemory TooLong = ⊥
IsMemory UnknownWord = ⊥
IsMemory BadForm = ⊥
IsMemory BadHex = ⊥
IsMemory (Memory error) = Unit {0}
