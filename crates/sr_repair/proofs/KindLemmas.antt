-- An SRLG case that fails with the links of the link case has its lists.
use Rattle.std.proofs.Common.{◌≡◌, ℕ, Bool, List, sym, ◌∙◌}
use Rattle.sr_model.specs.declared.case.Case.{Case}
use Rattle.sr_model.specs.declared.case.Kind.TheVariants.{Link as LinkKind, Node as NodeKind, Risk as RiskKind}
use Rattle.sr_model.specs.Label.{Net}
use Rattle.sr_model.specs.Case.{IsFailedSet, IsAffected}
use Rattle.sr_graph.specs.Failed.{FailsAsLink}
use Rattle.sr_encode.specs.declared.answers.NodeAnswer.{NodeAnswer}
use Rattle.sr_encode.specs.Answered.{AreLists}
use Rattle.sr_encode.specs.Placed.{listed_from, ArePlacedLists, Listing}
use Rattle.sr_repair.specs.Answers.{link_case}

module _ (n : Net) (case : Case) (like : FailsAsLink n.graph case) where
  affected-from : (d : ℕ) → IsAffected n (link_case case) d → IsAffected n case d
  affected-from d a = record {
    index = a.index;
    outside = record { source = a.outside.source; failed = λ node. absurd (let bad : RiskKind ≡ NodeKind = sym like.risk ∙ node in cc) };
    hop = a.hop;
  }

  affected-to : (d : ℕ) → IsAffected n case d → IsAffected n (link_case case) d
  affected-to d a = record {
    index = a.index;
    outside = record { source = a.outside.source; failed = λ node. absurd (let bad : LinkKind ≡ NodeKind = node in cc) };
    hop = a.hop;
  }

  set-from : (x : List Bool) → IsFailedSet n.graph (link_case case) x → IsFailedSet n.graph case x
  set-from x s = record {
    long = s.long;
    each = λ l lt. (λ is. (like.same l lt).1 ((s.each l lt).0 is), λ fails. (s.each l lt).1 ((like.same l lt).0 fails));
  }

  pub lists-from : (list : List NodeAnswer) → AreLists n (link_case case) list → AreLists n case list
  lists-from list r = record {
    ascending = r.ascending;
    affected = λ i lt. affected-from _ (r.affected i lt);
    answers = λ i lt. let a = r.answers i lt in record { failed = a.failed; set = set-from a.failed a.set; listed = a.listed };
    all = λ d is. r.all d (affected-to d is);
  }

  pub placed-from : (listing : Listing) → ArePlacedLists n (link_case case) listing → ArePlacedLists n case listing
  placed-from listing r = record { from = λ first end holds. lists-from (listed_from first listing) (r.from first end holds) }
