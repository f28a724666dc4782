-- The words with which commands begin, told by an example for each.
use Rattle.std.proofs.Common.{ℕ, List, [], ◌∷◌, map, ⊎_elim}
use Rattle.sr_script.specs.LineSays.{BeginsCommand}
use Rattle.sr_script.specs.Says.{first_word}
use Rattle.sr_script.specs.FirstWords.{IsWordAmong}
use Rattle.sr_model.specs.declared.case.Kind.TheVariants.{Link}
use Rattle.sr_script.specs.declared.name.EndNames.{EndNames}
use Rattle.sr_script.specs.declared.name.LinkName.{LinkName}
use Rattle.sr_script.specs.declared.name.RepairName.{RepairName}
use Rattle.sr_script.specs.declared.command.Command.{Command}
use Rattle.sr_script.specs.declared.command.Command.TheVariants.{Cost, Down, Up, Depth, Commit, DropStaged, Dist, Next, Label, Spaces, Repair, AdjRepair, AdjBackup, Walk, Load, Prove, Audit, Hold, Watch, Join, Show, Nodes, Links, Aside, FailsNode, Why, Diff, Check}

-- two nodes of an example
abbrev example_ends : EndNames
example_ends = record { from = 0; to = 0 }

-- a link of an example
abbrev example_link : LinkName
example_link = record { from = 0; to = 0; n = 1 }

-- a failure and a destination of an example
abbrev example_repair : RepairName
example_repair = record { kind = Link; link = example_link; dest = 0 }

-- an example of a command for each of the words, topic by topic and in their order
abbrev known_examples : List Command
known_examples =
    Cost example_link 1
    ∷ Down example_link
    ∷ Up example_link
    ∷ Depth 0
    ∷ Check
    ∷ Commit
    ∷ DropStaged
    ∷ Dist example_ends
    ∷ Next example_ends
    ∷ Label 0 0
    ∷ Walk example_ends 0
    ∷ Load 1 1
    ∷ Show
    ∷ Nodes
    ∷ Links
    ∷ Aside
    ∷ Spaces example_repair
    ∷ Repair example_repair
    ∷ AdjRepair example_link
    ∷ AdjBackup example_link
    ∷ Prove example_repair
    ∷ Why example_repair
    ∷ Audit
    ∷ FailsNode 0
    ∷ Diff 1
    ∷ Hold
    ∷ Watch 1 1
    ∷ Join
    ∷ []

begins-one : (commands : List Command) (word : List ℕ) → IsWordAmong word (map first_word commands) → BeginsCommand word
begins-one [] word = λ one. absurd one
begins-one (command ∷ commands) word = ⊎_elim (λ first. (command, first)) (begins-one commands word)

-- each of the words begins a command
pub known_begins : (word : List ℕ) → IsWordAmong word (map first_word known_examples) → BeginsCommand word
known_begins word one = begins-one known_examples word one
