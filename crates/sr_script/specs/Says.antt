-- The commands of a script, word by word (this project's rule).
use Rattle.std.specs.Prelude.{◌≡◌, ℕ, ◌+◌, ◌≤◌, Bool, true, false, List, [], ◌∷◌, ◌++◌, length, map, codes, Some, Ok}
use Rattle.hex.specs.Hex.{decode_of}
use Rattle.sr_model.specs.declared.case.Kind.{Kind}
use Rattle.sr_model.specs.declared.case.Kind.TheVariants.{Link, Node, Risk}
use Rattle.sr_insight.specs.declared.grouping.Grouping.{Grouping}
use Rattle.sr_insight.specs.declared.grouping.Grouping.TheVariants as by
use Rattle.sr_model.specs.SystemText.{system_read}
use Rattle.sr_script.specs.Number.{number_in, cell_read}
use Rattle.sr_script.specs.Words.{word_at}
use Rattle.sr_model.specs.declared.link.TheConstants.{MOST_METRIC}
use Rattle.sr_script.specs.declared.command.TheConstants.{MOST_LABEL, MOST_CHOICE, MOST_WORKERS, MOST_EACH, MOST_CELLS, MOST_LABELS}
use Rattle.sr_model.specs.declared.limits.TheConstants.{MOST_DEPTH, MOST_VERSION, MOST_WATCHERS, MOST_ROUNDS}
use Rattle.sr_script.specs.declared.name.TheConstants.{MOST_LINK_NUMBER}
use Rattle.sr_script.specs.declared.name.EndNames.{EndNames}
use Rattle.sr_script.specs.declared.name.LinkName.{LinkName}
use Rattle.sr_script.specs.declared.name.RepairName.{RepairName}
use Rattle.sr_script.specs.declared.command.Command.{Command}
use Rattle.sr_script.specs.declared.command.Command.TheVariants.{Lsp, Cost, Down, Up, Depth, Commit, DropStaged, Dist, Next, Label, Spaces, Repair, AdjRepair, AdjBackup, Walk, WalkRepair, Load, Prove, ProofOpen, ProofVia, ProofNode, ProofAdj, ProofRow, ProofDone, Audit, AuditFull, AuditBy, AuditLabels, Hold, Watch, Join, Show, Nodes, Links, Aside, RepairCase, FailsNode, Why, Diff, Check}

-- the word for a kind of failure
abbrev pub kind_word : Kind → List ℕ
kind_word Link = codes "link"
kind_word Node = codes "node"
kind_word Risk = codes "risk"

-- the word for what an audit is grouped by
abbrev pub grouping_word : Grouping → List ℕ
grouping_word by.Kind = codes "kind"
grouping_word by.Node = codes "node"
grouping_word by.Link = codes "link"
grouping_word by.Destination = codes "destination"

-- what a word behind the first gives: itself, a system id, a number of a range, a kind of failure, octets, or a cell of
-- a row
pub data Argument : Type 0 where
  Itself : List ℕ → Argument
  System : ℕ → Argument
  Number : ℕ → ℕ → ℕ → Argument
  Failure : Kind → Argument
  Hex : List ℕ → Argument
  Cell : ℕ → Argument

-- the word gives the argument; a number comes behind the least and the greatest one that may stand there
abbrev pub IsGiven : List ℕ → Argument → Type 0
IsGiven word (Itself text) = word ≡ text
IsGiven word (System id) = system_read word ≡ Some id
IsGiven word (Number low high n) = number_in low high word ≡ Some n
IsGiven word (Failure kind) = word ≡ kind_word kind
IsGiven word (Hex octets) = decode_of word ≡ Ok octets
IsGiven word (Cell n) = cell_read word ≡ Some n

-- the words from place i on give these arguments, a word each
abbrev pub AreGiven : List (List ℕ) → ℕ → List Argument → Type 0
AreGiven ws i [] = Unit {0}
AreGiven ws i (argument ∷ others) = IsGiven (word_at ws i) argument × AreGiven ws (i + 1) others

-- two nodes: where a way begins, and where it ends
abbrev pub ends_arguments : EndNames → List Argument
ends_arguments ends = System ends.from ∷ System ends.to ∷ []

-- a link: its ends, and its place from 1 among those between them
abbrev pub link_arguments : LinkName → List Argument
link_arguments link = System link.from ∷ System link.to ∷ Number 1 MOST_LINK_NUMBER link.n ∷ []

-- a failure by its kind and the protected link, and a destination
abbrev pub repair_arguments : RepairName → List Argument
repair_arguments repair = Failure repair.kind ∷ link_arguments repair.link ++ System repair.dest ∷ []

-- labels, or the one word `none` where there are none
abbrev pub labels_arguments : List ℕ → List Argument
labels_arguments [] = Itself (codes "none") ∷ []
labels_arguments (label ∷ labels) = map (Number 0 MOST_LABEL) (label ∷ labels)

-- the form of a command: its first word, and the arguments behind it, in the order of the words
abbrev pub form : Command → List ℕ × List Argument
form (Lsp octets) = (codes "lsp", Hex octets ∷ [])
form (Cost link metric) = (codes "cost", link_arguments link ++ Number 1 MOST_METRIC metric ∷ [])
form (Down link) = (codes "down", link_arguments link)
form (Up link) = (codes "up", link_arguments link)
form (Depth depth) = (codes "depth", Number 0 MOST_DEPTH depth ∷ [])
form Commit = (codes "commit", [])
form DropStaged = (codes "drop", [])
form (Dist ends) = (codes "dist", ends_arguments ends)
form (Next ends) = (codes "next", ends_arguments ends)
form (Label node label) = (codes "label", System node ∷ Number 0 MOST_LABEL label ∷ [])
form (Spaces repair) = (codes "spaces", repair_arguments repair)
form (Repair repair) = (codes "repair", repair_arguments repair)
form (AdjRepair link) = (codes "adjrepair", link_arguments link)
form (Walk ends choice) = (codes "walk", ends_arguments ends ++ Number 0 MOST_CHOICE choice ∷ [])
form (WalkRepair repair choice) = (codes "walk", repair_arguments repair ++ Number 0 MOST_CHOICE choice ∷ [])
form (Load workers each) = (codes "load", Number 1 MOST_WORKERS workers ∷ Number 1 MOST_EACH each ∷ [])
form (Prove repair) = (codes "prove", repair_arguments repair)
form (ProofOpen repair) = (codes "proof", Itself (codes "open") ∷ repair_arguments repair)
form (ProofVia link) = (codes "proof", Itself (codes "via") ∷ link_arguments link)
form (ProofNode node) = (codes "proof", Itself (codes "node") ∷ System node ∷ [])
form (ProofAdj link) = (codes "proof", Itself (codes "adj") ∷ link_arguments link)
form (ProofRow cells) = (codes "proof", Itself (codes "row") ∷ map Cell cells)
form (ProofDone labels) = (codes "proof", Itself (codes "done") ∷ labels_arguments labels)
form Audit = (codes "audit", [])
form AuditFull = (codes "audit", Itself (codes "full") ∷ [])
form Hold = (codes "hold", [])
form (Watch watchers rounds) = (codes "watch", Number 1 MOST_WATCHERS watchers ∷ Number 1 MOST_ROUNDS rounds ∷ [])
form Join = (codes "join", [])
form Show = (codes "show", [])
form (AdjBackup link) = (codes "adjbackup", link_arguments link)
form Nodes = (codes "nodes", [])
form Links = (codes "links", [])
form Aside = (codes "aside", [])
form (AuditBy grouping) = (codes "audit", Itself (codes "by") ∷ Itself (grouping_word grouping) ∷ [])
form AuditLabels = (codes "audit", Itself (codes "labels") ∷ [])
form (RepairCase kind link) = (codes "repair", Failure kind ∷ link_arguments link)
form (FailsNode node) = (codes "fails", Itself (codes "node") ∷ System node ∷ [])
form (Why repair) = (codes "why", repair_arguments repair)
form (Diff version) = (codes "diff", Number 1 MOST_VERSION version ∷ [])
form Check = (codes "check", [])

-- the word with which a command begins
abbrev pub first_word : Command → List ℕ
first_word command = (form command).0

-- what the words behind it give
abbrev pub arguments : Command → List Argument
arguments command = (form command).1

-- the command asks of a version, and needs no search for distances: such a question may be tried on what is staged
abbrev pub is_question : Command → Bool
is_question (Dist ends) = true
is_question (Next ends) = true
is_question (Label node label) = true
is_question (Spaces repair) = true
is_question (Repair repair) = true
is_question (RepairCase kind link) = true
is_question (AdjRepair link) = true
is_question (AdjBackup link) = true
is_question (Walk ends choice) = true
is_question (WalkRepair repair choice) = true
is_question (Load workers each) = true
is_question Audit = true
is_question AuditFull = true
is_question AuditLabels = true
is_question (AuditBy grouping) = true
is_question (FailsNode node) = true
is_question (Diff version) = true
is_question Nodes = true
is_question Links = true
is_question Aside = true
is_question command = false

-- a row has a cell for each of 1 to 256 nodes, and a certificate at most 257 labels; the form alone says how many
-- arguments any other command has
abbrev pub IsOfLength : Command → Type 0
IsOfLength (ProofRow cells) = (1 ≤ length cells) × (length cells ≤ MOST_CELLS)
IsOfLength (ProofDone labels) = length labels ≤ MOST_LABELS
IsOfLength command = Unit {0}

-- the words say the command: its first word, and behind it a word for each argument, and no others
pub record SaysCommand (ws : List (List ℕ)) (command : Command) : Type 0 where
  pub first : word_at ws 0 ≡ first_word command
  pub others : AreGiven ws 1 (arguments command)
  pub count : length ws ≡ 1 + length (arguments command)
  pub room : IsOfLength command
