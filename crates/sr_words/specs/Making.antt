-- The words of `make`, as a simple command of clap, and the two numbers that they give.
use Rattle.std.specs.Prelude.{◌≡◌, ℕ, ◌≤◌, true, List, [], codes, Option, Some, None, pos}
use Rattle.std.specs.Str.Parse.{IsNumeral, digits_value, without_leading_plus}
use Rattle.clap.specs.Walk.{Row, Rule, Text, one_of}
use Rattle.clap.specs.Simple.{App, Shape, matches_of, new_app, new_rule, on_top, with_rule}
use Rattle.clap.specs.Faults.{fault_of}
use Rattle.clap.specs.declared.builder.action.ArgAction.TheVariants.{Set}
use Rattle.clap.specs.declared.builder.value_parser.ValueParser.TheVariants.{Signed}
use Rattle.sr_make.specs.declared.making.TheConstants.{FEWEST_NODES, MOST_MADE_NODES}
use Rattle.sr_words.specs.declared.making.TheConstants.{MOST_START}

-- the name of an option, and the range of its number
pub record Ranged : Type 0 where
  pub name : Text
  pub least : ℕ
  pub most : ℕ

-- the count of nodes
abbrev pub nodes_range : Ranged
nodes_range = record { name = codes "nodes"; least = FEWEST_NODES; most = MOST_MADE_NODES }

-- the number that the script is made from
abbrev pub start_range : Ranged
start_range = record { name = codes "start"; least = 0; most = MOST_START }

-- such an option of clap: it has to be given, with one value, and clap checks the value for its range
abbrev pub number_option : Ranged → Rule
number_option range = record (new_rule range.name) {
  long = Some range.name;
  required = true;
  action = Some Set;
  parser = Some (Signed (pos range.least) (pos range.most));
}

-- `make` as a command of clap: it takes these two options and no others, no help flag either
abbrev pub make_command : App
make_command =
    let plain = λ (top : Shape). record top { no_binary_name = true; disable_help_flag = true } in
    let bare = on_top plain (new_app (codes "make")) in
    with_rule (with_rule bare (number_option nodes_range)) (number_option start_range)

-- the text that clap gives for the option, which lacks a minus sign before 0, writes this number in decimal digits,
-- behind at most one plus sign, and the number is in range
pub record HasNumber (range : Ranged) (rows : List Row) (number : ℕ) : Type 0 where
  pub text : Text
  pub given : one_of range.name rows ≡ Some text
  pub numeral : IsNumeral 10 (without_leading_plus text)
  pub value : number ≡ digits_value 10 (without_leading_plus text)
  pub enough : range.least ≤ number
  pub few : number ≤ range.most

-- the option has this number, or there is none that it has
abbrev pub IsNumberOf : Ranged → List Row → Option ℕ → Type 0
IsNumberOf range rows (Some number) = HasNumber range rows number
IsNumberOf range rows None = (number : ℕ) → ¬ HasNumber range rows number

-- the two options have these numbers, the count of nodes and the start
pub record HaveNumbers (rows : List Row) (numbers : ℕ × ℕ) : Type 0 where
  pub nodes : HasNumber nodes_range rows numbers.0
  pub start : HasNumber start_range rows numbers.1

-- the two options have these numbers, or there are none that they have
abbrev pub ShowNumbers : List Row → Option (ℕ × ℕ) → Type 0
ShowNumbers rows (Some numbers) = HaveNumbers rows numbers
ShowNumbers rows None = (numbers : ℕ × ℕ) → ¬ HaveNumbers rows numbers

-- the command takes the words, and they give these numbers, the count of nodes and the start
pub record GiveNumbers (words : List Text) (numbers : ℕ × ℕ) : Type 0 where
  pub taken : fault_of make_command words ≡ []
  pub shown : HaveNumbers (matches_of make_command words) numbers

-- the words give these numbers, or there are none that they give
abbrev pub AreNumbersOf : List Text → Option (ℕ × ℕ) → Type 0
AreNumbersOf words (Some numbers) = GiveNumbers words numbers
AreNumbersOf words None = (numbers : ℕ × ℕ) → ¬ GiveNumbers words numbers
