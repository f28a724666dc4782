-- What a session answers is what may be answered from each domain that it shows; and in each net of an accepted commit every repair delivers.
use Rattle.std.proofs.Common.{ℕ, Bool, List}
use Rattle.std.proofs.lemmas.List.Elements.{All-nil}
use Rattle.sr_repair.specs.Delivery.{EachRepairDelivers}
use Rattle.sr_repair.proofs.DeliveryLemmas.{repair_delivers}
use Rattle.sr_engine.specs.Replies.{Replies, Answered, Script}
use Rattle.sr_run.specs.Domain.{Domain, opening_domain}
use Rattle.sr_run.specs.State.{IsShown}
use Rattle.sr_run.specs.Usage.{Lent}
use Rattle.sr_run.specs.Session.{Answers, conduct}
use Rattle.sr_run.specs.Handlers.{session_conduct}
use Rattle.sr_run.specs.Program.{EachDelivers}
use Rattle.sr_run.proofs.Likeness.{Follows}
use Rattle.sr_run.proofs.StepLemmas.{ends-keep, replies-keep}
use Rattle.sr_run.proofs.AcceptedNets.{nets-kept}

pub session-follows : (lent : Lent) → Follows session_conduct conduct (IsShown lent)
session-follows lent = record {
  step = λ s s' t number line out refused h like. let next = h.steps lent t like in (next.0, next.2, next.1);
  last = λ s s' t out h like. let next = h.steps lent t like in (next.0, next.2, next.1);
}

-- every repair of a net has a stack, and delivers under it
pub replies-deliver : (old : Domain) (number : ℕ) (lines : List (List ℕ)) (out : List ℕ) (refused : Bool) (new : Domain) → Replies Answers old number lines out refused new → EachDelivers old → EachDelivers new
replies-deliver old number lines out refused new r h = replies-keep EachDelivers (nets-kept EachRepairDelivers repair_delivers) old number lines out refused new r h

-- before the first line there are no nets
none-delivers : EachDelivers opening_domain
none-delivers = All-nil EachRepairDelivers

pub answered-delivers : (bytes out : List ℕ) (answered : Answered Answers opening_domain bytes out) → EachDelivers answered.last
answered-delivers bytes out a = replies-deliver opening_domain 1 a.lines out a.refused a.last a.replies none-delivers

pub script-delivers : (bytes out : List ℕ) (refused : Bool) (final : Domain) → Script conduct opening_domain bytes out refused final → EachDelivers final
script-delivers bytes out refused final s =
    ends-keep EachDelivers (nets-kept EachRepairDelivers repair_delivers) s.last s.tail final s.end (replies-deliver opening_domain 1 _ s.said refused s.last s.replies none-delivers)
