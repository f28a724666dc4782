-- The link and the nodes of a reason are those of the graph.
use Rattle.std.proofs.Common.{ℕ, Bool, List, subst}
use Rattle.sr_model.specs.declared.case.Case.{Case}
use Rattle.sr_model.specs.Graph.{Graph, head}
use Rattle.sr_model.specs.Label.{Net}
use Rattle.sr_why.specs.declared.reason.Cause.{Cause}
use Rattle.sr_why.specs.declared.reason.Cause.TheVariants.{Covered, NoPath, NoList, TooDeep}
use Rattle.sr_why.specs.declared.whole.WholeList.{WholeList}
use Rattle.sr_why.specs.Reasons.{IsLeastList, IsReason}
use Rattle.sr_print.specs.Why.{IsReasonWithin, IsWholeWithin}
use Rattle.sr_print.proofs.Within.{leads-within}

whole-within : (n : Net) (x : List Bool) (s d : ℕ) (list : WholeList) → IsLeastList n x s d list → IsWholeWithin n.graph list
whole-within n x s d list is =
    let sound = is.least.sound in
    (sound.within, leads-within n x (head n.graph list.first.0) list.segments sound.last sound.middle sound.leads)

-- those of the reason of a case
pub reason-within : (n : Net) (case : Case) (d : ℕ) (reason : Cause) → IsReason n case d reason → IsReasonWithin n.graph reason
reason-within n case d Covered is = tt
reason-within n case d (NoPath reached) is = tt
reason-within n case d (NoList list) is =
    let whole = is.explains in
    subst (λ (g : Graph). IsWholeWithin g list) whole.1.graph (whole-within whole.0 is.failed _ d list whole.2)
reason-within n case d (TooDeep list) is = whole-within n is.failed _ d list is.explains
