-- What is told to each line of a script, and the state after it.
use Rattle.std.specs.Prelude.{◌≡◌, ℕ, ◌⊎◌, Bool, true, false, List, Option, Some, None}
use Rattle.sr_model.specs.declared.rule.DomainRule.{DomainRule}
use Rattle.sr_model.specs.Key.{pair_of}
use Rattle.sr_model.specs.Graph.{node_count, link_count}
use Rattle.sr_lsdb.specs.declared.facts.Facts.{Facts}
use Rattle.sr_lsdb.specs.Edit.Edit.{SetCost, TakeDown, BringUp, SetDepth}
use Rattle.sr_rules.specs.Broken.{AreBrokenRules}
use Rattle.sr_script.specs.declared.command.Command.{Command}
use Rattle.sr_script.specs.declared.command.Command.TheVariants.{Lsp, Cost, Down, Up, Depth, Commit, DropStaged, Prove, ProofOpen, ProofVia, ProofNode, ProofAdj, ProofRow, ProofDone, Hold, Watch, Join, Show, Why, Check}
use Rattle.sr_script.specs.declared.line.Line.TheVariants.{Nothing as NoWord, Word, Try}
use Rattle.sr_script.specs.declared.line.LineFault.{LineFault}
use Rattle.sr_script.specs.declared.line.LineFault.TheVariants as fault
use Rattle.sr_script.specs.LineSays.{LineSays, IsLineFault}
use Rattle.sr_print.specs.declared.refusal.Refusal.{Refusal}
use Rattle.sr_print.specs.declared.refusal.Refusal.TheVariants as refusal
use Rattle.sr_print.specs.Told.{Shown, Told, spelled, is_refusal}
use Rattle.sr_print.specs.Told.Told.{Nothing, Refused, Show as ShowTold, Check as CheckTold}
use Rattle.sr_repair.specs.Version.{NumberedNet}
use Rattle.sr_engine.specs.Replies.{Conduct}
use Rattle.sr_cert.specs.declared.draft.CertLine.TheVariants.{Via, AdjSegment}
use Rattle.sr_cert.specs.Draft.{CertDraft}
use Rattle.sr_run.specs.Domain.{Domain, last_version, version_before, number_of, with_draft, with_asked}
use Rattle.sr_run.specs.Edits.{Refuses, Announces, EditsLink, StagesEdit, DropsStaged, Commits}
use Rattle.sr_run.specs.Background.{BeginsHold, BeginsWatch, JoinsWork, EndsWork}
use Rattle.sr_run.specs.Asked.{TellsQuestion}
use Rattle.sr_run.specs.Reasons.{TellsReason}
use Rattle.sr_run.specs.Tries.{Tries}
use Rattle.sr_run.specs.Certificates.{Drafting, DraftsOf, TellsProof, OpensDraft, KeepsLink, KeepsNode, KeepsRow, DecidesDraft}

-- this is told of the version, or there is none, which is refused
abbrev pub TellsOf : (NumberedNet → Told → Type 0) → Option NumberedNet → Told → Type 0
TellsOf tells None told = told ≡ Refused refusal.NoVersion
TellsOf tells (Some version) told = tells version told

-- a question about the last version, which changes nothing
abbrev pub Asks : (NumberedNet → Told → Type 0) → Domain → Told → Domain → Type 0
Asks tells old told new = TellsOf tells (last_version old.nets) told × (new ≡ old)

-- after such a question: where it is refused nothing changes
abbrev pub after_question : Bool → Domain → Domain
after_question true old = old
after_question false old = with_asked old

-- a question about the last version for which distances are searched for, which is counted
abbrev pub AsksSearching : (NumberedNet → Told → Type 0) → Domain → Told → Domain → Type 0
AsksSearching tells old told new =
    TellsOf tells (last_version old.nets) told × (new ≡ after_question (is_refusal told) old)

-- a line of a certificate about the last version, which changes the open certificate alone
abbrev pub WritesDraft : (NumberedNet → Drafting) → Domain → Told → Domain → Type 0
WritesDraft drafts old told new =
    (draft : Option CertDraft) × DraftsOf drafts (last_version old.nets) old.draft told draft
    × (new ≡ with_draft old draft)

-- how many nodes the last version has, and 0 before the first
abbrev pub version_nodes : Option NumberedNet → ℕ
version_nodes None = 0
version_nodes (Some version) = node_count version.net.graph

-- how many links the last version has, and 0 before the first
abbrev pub version_links : Option NumberedNet → ℕ
version_links None = 0
version_links (Some version) = link_count version.net.graph

-- what is shown: the last version, the accepted depth, and how many edits are staged
abbrev pub shown_of : Domain → Shown
shown_of domain = record {
  version = number_of (last_version domain.nets);
  nodes = version_nodes (last_version domain.nets);
  links = version_links (last_version domain.nets);
  depth = domain.editing.accepted.depth;
  staged = domain.editing.staged;
}

-- `show`: what is shown, and nothing changes
abbrev pub Shows : Domain → Told → Domain → Type 0
Shows old told new = (told ≡ ShowTold (shown_of old)) × (new ≡ old)

-- all rules that the facts break
abbrev pub TellsBroken : Facts → Told → Type 0
TellsBroken facts told = (rules : List DomainRule) × AreBrokenRules facts rules × (told ≡ CheckTold rules)

-- `check`: all rules that the tentative facts break, and nothing changes
abbrev pub ChecksRules : Domain → Told → Domain → Type 0
ChecksRules old told new = TellsBroken old.editing.tentative told × (new ≡ old)

-- what is told to a command, and the state after it; each command that isn't named here is a question about the last
-- version
abbrev pub Tells : Domain → Command → Told → Domain → Type 0
Tells old (Lsp octets) told new = Announces octets old told new
Tells old (Cost link metric) told new = EditsLink (λ key. SetCost key metric) link old told new
Tells old (Down link) told new = EditsLink (λ key. TakeDown (pair_of key)) link old told new
Tells old (Up link) told new = EditsLink (λ key. BringUp (pair_of key)) link old told new
Tells old (Depth depth) told new = StagesEdit (SetDepth depth) old told new
Tells old Commit told new = Commits old told new
Tells old DropStaged told new = DropsStaged old told new
Tells old (Prove repair) told new = AsksSearching (TellsProof repair) old told new
Tells old (Why repair) told new = AsksSearching (TellsReason repair) old told new
Tells old (ProofOpen repair) told new = WritesDraft (OpensDraft repair) old told new
Tells old (ProofVia link) told new = WritesDraft (KeepsLink Via link) old told new
Tells old (ProofNode node) told new = WritesDraft (KeepsNode node) old told new
Tells old (ProofAdj link) told new = WritesDraft (KeepsLink AdjSegment link) old told new
Tells old (ProofRow cells) told new = WritesDraft (KeepsRow cells) old told new
Tells old (ProofDone labels) told new = WritesDraft (DecidesDraft labels) old told new
Tells old Hold told new = BeginsHold old told new
Tells old (Watch watchers rounds) told new = BeginsWatch watchers rounds old told new
Tells old Join told new = JoinsWork old told new
Tells old Show told new = Shows old told new
Tells old Check told new = ChecksRules old told new
Tells old question told new =
    Asks (TellsQuestion question old.editing.accepted (version_before old.nets)) old told new

-- a line with this fault is refused for this reason; running out of memory ends the run
abbrev pub IsRefusedAs : LineFault → Refusal → Type 0
IsRefusedAs fault.TooLong reason = reason ≡ refusal.LineTooLong
IsRefusedAs fault.UnknownWord reason = reason ≡ refusal.UnknownWord
IsRefusedAs fault.BadForm reason = reason ≡ refusal.BadForm
IsRefusedAs fault.BadHex reason = reason ≡ refusal.BadHex
IsRefusedAs (fault.Memory error) reason = ⊥

-- what is told to a line, and the state after it: it has a fault, says nothing, says a command, or a question that is
-- tried
abbrev pub TellsLine : Domain → List ℕ → Told → Domain → Type 0
TellsLine old line told new =
    ((fault : LineFault) × (reason : Refusal) × IsLineFault line fault × IsRefusedAs fault reason
    × Refuses old told new reason)
    ⊎ ((LineSays line NoWord × (told ≡ Nothing) × (new ≡ old))
    ⊎ (((command : Command) × LineSays line (Word command) × Tells old command told new)
    ⊎ ((question : Command) × LineSays line (Try question) × Tries question old told new)))

-- from a state, to the line of this number, this is answered, the line is refused or not, and that is the state after
-- it
abbrev pub Answers : Domain → ℕ → List ℕ → List ℕ → Bool → Domain → Type 0
Answers old number line out refused new =
    (told : Told) × TellsLine old line told new × (out ≡ spelled number told) × (refused ≡ is_refusal told)

-- the end of the script joins what runs
abbrev pub EndsScript : Domain → List ℕ → Domain → Type 0
EndsScript old out new = EndsWork old.background old out new

-- what a session may answer to lines, and at the end of the script
abbrev pub conduct : Conduct Domain
conduct = record { answers = Answers; ends = EndsScript }
