-- What the readers of commands answer.
use Rattle.std.specs.Prelude.{◌≡◌, ◌≢◌, ◌⊎◌, true, List, ℕ, ◌+◌, ◌<◌, map, length, None, Some, Option, MatchOption, IsErr}
use Rattle.std.specs.declared.result.Result.{Result}
use Rattle.std.specs.declared.result.Result.TheVariants.{Ok, Err}
use Rattle.hex.specs.Hex.{decode_of}
use Rattle.sr_script.specs.Words.{word_at}
use Rattle.sr_script.specs.Says.{SaysCommand, is_question, kind_word, grouping_word}
use Rattle.sr_script.specs.FirstWords.{IsWordAmong}
use Rattle.sr_script.specs.Number.{number_in}
use Rattle.sr_script.specs.declared.name.TheConstants.{MOST_LINK_NUMBER}
use Rattle.sr_model.specs.declared.case.Kind.{Kind}
use Rattle.sr_insight.specs.declared.grouping.Grouping.{Grouping}
use Rattle.sr_model.specs.SystemText.{system_read}
use Rattle.sr_script.specs.LineSays.{BeginsCommand}
use Rattle.sr_script.specs.declared.command.Command.{Command}
use Rattle.sr_script.specs.declared.line.LineFault.{LineFault}
use Rattle.sr_script.specs.declared.line.LineFault.TheVariants.{UnknownWord, BadForm, BadHex, Memory}

-- the word is for no kind of failure
abbrev pub NamesNoKind : List ℕ → Type 0
NamesNoKind word = (kind : Kind) → word ≢ kind_word kind

-- an audit isn't grouped by what the word says
abbrev pub NamesNoGrouping : List ℕ → Type 0
NamesNoGrouping word = (grouping : Grouping) → word ≢ grouping_word grouping

-- one of the two words from place i on is no system id
abbrev pub NamesNoEnds : List (List ℕ) → ℕ → Type 0
NamesNoEnds ws i = (system_read (word_at ws i) ≡ None) ⊎ (system_read (word_at ws (i + 1)) ≡ None)

-- one of the three words from place i on is no system id, or no place of a link
abbrev pub NamesNoLink : List (List ℕ) → ℕ → Type 0
NamesNoLink ws i = NamesNoEnds ws i ⊎ (number_in 1 MOST_LINK_NUMBER (word_at ws (i + 2)) ≡ None)

-- one of the five words from place i on isn't of a failure's kind, a link and a destination
abbrev pub NamesNoRepair : List (List ℕ) → ℕ → Type 0
NamesNoRepair ws i = NamesNoKind (word_at ws i) ⊎ NamesNoLink ws (i + 1) ⊎ (system_read (word_at ws (i + 4)) ≡ None)

-- the command that the words say, or none where they say none
abbrev pub IsCommandOf : List (List ℕ) → Option Command → Type 0
IsCommandOf ws answer = MatchOption answer ((command : Command) → ¬ SaysCommand ws command) (SaysCommand ws)

-- the first word is one of these, and the words say the command; or it is none of these, or it is one and they say none
abbrev pub IsReadAmong : List (List ℕ) → List (List ℕ) → Result Command LineFault → Type 0
IsReadAmong firsts ws (Ok command) = IsWordAmong (word_at ws 0) firsts × SaysCommand ws command
IsReadAmong firsts ws (Err UnknownWord) = ¬ IsWordAmong (word_at ws 0) firsts
IsReadAmong firsts ws (Err BadForm) =
    IsWordAmong (word_at ws 0) firsts × ((command : Command) → ¬ SaysCommand ws command)
IsReadAmong firsts ws (Err fault) = ⊥

-- the words say this question, or none where they say none
abbrev pub IsQuestionOf : List (List ℕ) → Option Command → Type 0
IsQuestionOf ws answer = MatchOption answer
    ((question : Command) → is_question question ≡ true → ¬ SaysCommand ws question)
    (λ question. (is_question question ≡ true) × SaysCommand ws question)

-- the words say the command; or their first begins none, or it begins one and they say none
abbrev pub IsReading : List (List ℕ) → Result Command LineFault → Type 0
IsReading ws (Ok command) = SaysCommand ws command
IsReading ws (Err UnknownWord) = ¬ BeginsCommand (word_at ws 0)
IsReading ws (Err BadForm) = BeginsCommand (word_at ws 0) × ((command : Command) → ¬ SaysCommand ws command)
IsReading ws (Err fault) = ⊥

-- the text isn't pairs of hexadecimal digits, or memory ran out
abbrev pub IsHexFault : List ℕ → LineFault → Type 0
IsHexFault text BadHex = IsErr (decode_of text)
IsHexFault text (Memory error) = Unit {0}
IsHexFault text _ = ⊥

-- the word gives no value, or memory ran out
abbrev pub IsValueFault : {T : Type 0} → Option T → LineFault → Type 0
IsValueFault {T} given BadForm = given ≡ None
IsValueFault given (Memory error) = Unit {0}
IsValueFault given _ = ⊥

-- the words, which give these values or none, don't give a list of at most that many values; or memory ran out
abbrev pub IsListFault : {T : Type 0} → List (Option T) → ℕ → LineFault → Type 0
IsListFault {T} given most BadForm = (values : List T) → given ≡ map Some values → most < length values
IsListFault given most (Memory error) = Unit {0}
IsListFault given most _ = ⊥

-- the words say no command, or memory ran out
abbrev pub IsFormFault : List (List ℕ) → LineFault → Type 0
IsFormFault ws BadForm = (command : Command) → ¬ SaysCommand ws command
IsFormFault ws (Memory error) = Unit {0}
IsFormFault ws _ = ⊥
