-- Laws of sessions, over every line and every script.
use Rattle.std.specs.Prelude.{◌≡◌, ℕ, ◌+◌, ◌<◌, ◌^◌, Bool, List, length, All}
use Rattle.sr_model.specs.Rule.{IsNet}
use Rattle.sr_wire.specs.declared.registry.TheConstants.{ADJ_SID_BACKUP, ADJ_SID_IPV6, ADJ_SID_SET, LSP_OVERLOAD, MAXIMUM_METRIC, MSD_IMPOSITION, PREFIX_SID_EXPLICIT_NULL, PREFIX_SID_NODE, PREFIX_SID_NO_POP, PREFIX_SID_READVERTISED}
use Rattle.sr_lsdb.specs.declared.limits.TheConstants.{MOST_STAGED}
use Rattle.sr_make.specs.declared.making.TheConstants.{FEWEST_NODES, MOST_MADE_NODES}
use Rattle.sr_engine.specs.Replies.{Answered, Script}
use Rattle.sr_script.specs.declared.command.Command.TheVariants.{Join}
use Rattle.sr_script.specs.declared.line.Line.TheVariants.{Word}
use Rattle.sr_script.specs.LineSays.{LineSays}
use Rattle.sr_run.specs.Domain.{Domain, BegunWatch, opening_domain}
use Rattle.sr_run.specs.Domain.Background.{OfWatch}
use Rattle.sr_run.specs.Session.{Answers, conduct}
use Rattle.sr_run.specs.Program.{EachDelivers}

-- each of the state's nets gives what an accepted net does
abbrev pub AreNets : Domain → Type 0
AreNets domain = All IsNet domain.nets

-- the line joins a watch during which a commit was accepted: its reports may name one version or another
pub record JoinsMoved (old : Domain) (line : List ℕ) : Type 0 where
  pub watch : BegunWatch
  pub runs : old.background ≡ OfWatch watch
  pub moved : watch.from < length old.nets
  pub joins : LineSays line (Word Join)

-- from a state with such nets, a line is refused or not, and has at most one next state; and it has at most one
-- answer, unless it joins a watch during which a commit was accepted
abbrev pub LinesHaveOneAnswer : Type 0
LinesHaveOneAnswer = (old : Domain) (number : ℕ) (line out other : List ℕ) (refused again : Bool) (new next : Domain)
    → AreNets old → Answers old number line out refused new → Answers old number line other again next
    → (refused ≡ again) × (new ≡ next) × (¬ JoinsMoved old line → out ≡ other)

-- a script has at most one last state, and it is told once whether a line was refused; and it has at most one output,
-- unless a commit was accepted while a watch ran
abbrev pub ScriptsHaveOneOutput : Type 0
ScriptsHaveOneOutput = (bytes out other : List ℕ) (refused again : Bool) (final last : Domain)
    → Script conduct opening_domain bytes out refused final → Script conduct opening_domain bytes other again last
    → (refused ≡ again) × (final ≡ last) × (final.totals.commits ≡ 0 → out ≡ other)

-- whatever lines were answered, in the net of each accepted commit every repair of every case has a stack, and
-- delivers under it
abbrev pub AcceptedNetsDeliver : Type 0
AcceptedNetsDeliver = (bytes out : List ℕ) (answered : Answered Answers opening_domain bytes out)
    → EachDelivers answered.last

-- the flags of a Prefix-SID have their bits (RFC 8667, 2.1.1)
pub record PrefixSidFlags : Type 0 where
  pub readvertised : PREFIX_SID_READVERTISED ≡ 0x80
  pub node : PREFIX_SID_NODE ≡ 0x40
  pub no_pop : PREFIX_SID_NO_POP ≡ 0x20
  pub explicit_null : PREFIX_SID_EXPLICIT_NULL ≡ 0x10

-- the flags of an Adj-SID have their bits (RFC 8667, 2.2.1)
pub record AdjSidFlags : Type 0 where
  pub ipv6 : ADJ_SID_IPV6 ≡ 0x80
  pub backup : ADJ_SID_BACKUP ≡ 0x40
  pub set : ADJ_SID_SET ≡ 0x08

-- an overloaded router sets its bit (ISO 10589, 9.9), how many labels a node can impose is the depth of type 1
-- (RFC 8491, 5), and the maximum metric has all of its 24 bits (RFC 5305, 3)
pub record LinkStateNumbers : Type 0 where
  pub overload : LSP_OVERLOAD ≡ 0x04
  pub imposition : MSD_IMPOSITION ≡ 1
  pub metric : MAXIMUM_METRIC + 1 ≡ 2 ^ 24

-- at most 4,096 edits are staged, and a made net has 3 to 256 nodes (this project's rules)
pub record ProjectLimits : Type 0 where
  pub staged : MOST_STAGED ≡ 2 ^ 12
  pub fewest : FEWEST_NODES ≡ 3
  pub most : MOST_MADE_NODES ≡ 256
