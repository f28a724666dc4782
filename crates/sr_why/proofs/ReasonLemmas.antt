-- The reason of a case, from its answer and what is told beside it.
use Rattle.std.proofs.Common.{◌≡◌, ℕ, Bool, List, length, refl, ap, ◌∙◌, subst}
use Rattle.sr_model.specs.declared.case.Case.{Case}
use Rattle.sr_model.specs.declared.repair.Answer.TheVariants.{Least, NoPath, NoList, TooDeep}
use Rattle.sr_model.specs.declared.repair.RepairList.{RepairList}
use Rattle.sr_model.specs.Graph.{Graph}
use Rattle.sr_model.specs.Label.{Net}
use Rattle.sr_model.specs.Case.{IsFailedSet, source_of}
use Rattle.sr_model.specs.Repair.{Path, IsCaseAnswer}
use Rattle.sr_laws.proofs.Answers.{least-one}
use Rattle.sr_why.specs.declared.reason.Cause.TheVariants.{Covered, NoPath as NoPathLeft, NoList as NoListSound, TooDeep as ListTooDeep}
use Rattle.sr_why.specs.declared.whole.WholeList.{WholeList}
use Rattle.sr_why.specs.Labelled.{IsLabelled}
use Rattle.sr_why.specs.Reasons.{IsLeastList, IsReachedCount, IsReason, path_of_list}

module _ (n : Net) (case : Case) (d : ℕ) where
  pub reason-covered : (list : RepairList) → IsCaseAnswer n case d (Least list) → IsReason n case d Covered
  reason-covered list i = record { answer = Least list; answer_is = i; of = refl; failed = i.failed; set = i.set; explains = tt }

  pub reason-no_path : (x : List Bool) → IsFailedSet n.graph case x → IsCaseAnswer n case d NoPath → (count : ℕ) → IsReachedCount n.graph x (source_of n.graph case) count → IsReason n case d (NoPathLeft count)
  reason-no_path x set i count is = record { answer = NoPath; answer_is = i; of = (count, refl); failed = x; set = set; explains = is }

  pub reason-no_list : (m : Net) → IsLabelled n m → (x : List Bool) → IsFailedSet n.graph case x → IsCaseAnswer n case d NoList → (list : WholeList) → IsLeastList m x (source_of m.graph case) d list → IsReason n case d (NoListSound list)
  reason-no_list m labelled x set i list is = record {
    answer = NoList;
    answer_is = i;
    of = (list, refl);
    failed = x;
    set = set;
    explains = (m, labelled, subst (λ (g : Graph). IsLeastList m x (source_of g case) d list) labelled.graph is);
  }

  -- the least list has the segments that the answer counts
  pub reason-too_deep : (k : ℕ) → (i : IsCaseAnswer n case d (TooDeep k)) → (list : WholeList) → IsLeastList n i.failed (source_of n.graph case) d list → IsReason n case d (ListTooDeep list)
  reason-too_deep k i list is =
      let same : path_of_list list ≡ i.answers.0 = least-one n i.failed (source_of n.graph case) d (path_of_list list) i.answers.0 is.least i.answers.1 in
      record {
        answer = TooDeep k;
        answer_is = i;
        of = (list, refl, ap (λ (a : Path). length a.segments) same ∙ i.answers.2);
        failed = i.failed;
        set = i.set;
        explains = is;
      }
