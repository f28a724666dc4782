-- The records after the passes over all cases.
use Rattle.std.proofs.Common.{◌≡◌, ℕ, ◌<◌, List, [], ◌∷◌, ◌++◌, map, arith, sym, ◌∙◌, subst}
use Rattle.std.specs.Prelude.{Bool, Option, Some}
use Rattle.std.proofs.lemmas.Option.{none-some, same_Some}
use Rattle.std.specs.Arc.{arc_value}
use Rattle.std.proofs.lemmas.List.{append_assoc, get_or-map, length-map}
use Rattle.sr_model.specs.declared.case.Case.{Case}
use Rattle.sr_model.specs.declared.case.Kind.{Kind}
use Rattle.sr_model.specs.declared.case.Kind.TheVariants.{Link as LinkKind, Node as NodeKind, Risk as RiskKind}
use Rattle.sr_model.specs.Audit.{rank_of}
use Rattle.sr_model.specs.Case.{IsCase, IsFailedSet, source_of}
use Rattle.sr_model.specs.Walk.{IsRow}
use Rattle.sr_model.specs.Label.{Net}
use Rattle.sr_encode.specs.declared.answers.NodeAnswer.{NodeAnswer}
use Rattle.sr_encode.specs.Answered.{AreLists}
use Rattle.sr_encode.specs.Limited.{limit_at, limited_entries}
use Rattle.sr_graph.specs.Ranges.{HoldsLinks}
use Rattle.sr_model.specs.Graph.{IsGraph}
use Rattle.sr_encode.specs.Placed.{listed_from}
use Rattle.sr_encode.proofs.LimitLemmas.{answers-limited}
use Rattle.sr_encode.proofs.PlacedLemmas.{holds-some}
use Rattle.sr_repair.specs.declared.passes.Passed.{Passed}
use Rattle.sr_repair.specs.declared.passes.Passed.TheVariants.{Nothing, AsLink, Stays, Told, Listed}
use Rattle.sr_repair.specs.declared.answers.Found.{Found}
use Rattle.sr_repair.specs.declared.answers.Found.TheVariants.{Nothing as NothingFound, AsLink as AsLinkFound, Own}
use Rattle.sr_repair.specs.Answers.{case_count, slot_of, link_case, AffectsSome, AreAllPassed, AreAllFound, IsPassed, IsFound, cells_told, kept_of, IsAnswered}
use Rattle.sr_repair.specs.Spared.{Passage}
use Rattle.sr_repair.proofs.KindLemmas.{lists-from}

-- in a case that affects no destination nothing is listed
pub none-listed : (n : Net) (case : Case) → (AffectsSome n case → ⊥) → AreLists n case []
none-listed n case none = record {
  ascending = λ i j lt end. absurd (omega arith);
  affected = λ i lt. absurd (omega arith);
  answers = λ i lt. absurd (omega arith);
  all = λ d is. absurd (none (d, is));
}

-- the record after the pass is that of the case
kept-found : (former : Option Passage) (n : Net) (case : Case) (one : Passed) → IsPassed former n case one → IsFound n case (kept_of one)
kept-found former n case Nothing none = none
kept-found former n case AsLink like = like
kept-found former n case (Stays known) is = is
kept-found former n case (Told solved) is = record { solution = is; walks = λ set told. cc }
kept-found former n case (Listed solved search) is = record { solution = is.0; walks = λ set told. cc }

-- distances that the pass over a case tells are those that it leaves
pub cells-after : (former : Option Passage) (n : Net) (case : Case) (one : Passed) (cells : List ℕ) → IsPassed former n case one → cells_told one ≡ Some cells
    → (x : List Bool) → IsFailedSet n.graph case x → IsRow n.graph x (source_of n.graph case) cells
cells-after former n case Nothing cells is told x set = absurd (none-some cells told)
cells-after former n case AsLink cells is told x set = absurd (none-some cells told)
cells-after former n case (Stays known) cells is told x set = subst (λ k. IsRow n.graph x (source_of n.graph case) k) (same_Some _ cells told) (is.solution.row x set)
cells-after former n case (Told solved) cells is told x set = subst (λ k. IsRow n.graph x (source_of n.graph case) k) (same_Some _ cells told) (is.row x set)
cells-after former n case (Listed solved search) cells is told x set = subst (λ k. IsRow n.graph x (source_of n.graph case) k) (same_Some _ cells told) (is.0.row x set)

-- the records after the passes are those of the cases
pub all-kept : (former : Option Passage) (n : Net) (m : ℕ) (passed : List Passed) → AreAllPassed former n m passed → AreAllFound n m (map kept_of passed)
all-kept former n m passed r = record {
  long = length-map passed kept_of ∙ r.long;
  each = λ case within lt.
      subst (λ found. IsFound n case found) (sym (get_or-map kept_of passed (slot_of case) Nothing AsLinkFound (omega (arith, r.long)))) (kept-found former n case _ (r.each case within lt));
}

-- one pass more is kept
pub kept-more : (all rest : List Passed) (one : Passed) (found more : List Found) → found ++ map kept_of (one ∷ rest) ≡ map kept_of all → more ≡ found ++ kept_of one ∷ [] → more ++ map kept_of rest ≡ map kept_of all
kept-more all rest one found more so put = rw put (append_assoc found (kept_of one ∷ []) (map kept_of rest) ∙ so)

pub rank-small : (k : Kind) → rank_of k < 3
rank-small LinkKind = omega arith
rank-small NodeKind = omega arith
rank-small RiskKind = omega arith

-- the record of a case
found-for : (n : Net) (found : List Found) → AreAllFound n (case_count n.graph) found → (case : Case) → IsCase n.graph case → (one : Found) × IsFound n case one
found-for n found all case within = (_, all.each case within (let small : rank_of case.kind < 3 = rank-small case.kind in omega (arith, small, within)))

-- a link case has lists of its own
own-lists : (n : Net) (case : Case) (one : Found) → IsFound n (link_case case) one → (first end : ℕ) → HoldsLinks n.graph (source_of n.graph case) first end → (list : List NodeAnswer) × AreLists n (link_case case) list
own-lists n case NothingFound none first end holds = ([], none-listed n (link_case case) none)
own-lists n case (Own known) a first end holds = (listed_from first (arc_value known.solved).lists, a.solution.lists.from first end holds)
own-lists n case AsLinkFound like first end holds = absurd (let bad : LinkKind ≡ RiskKind = like.risk in cc)

-- and each case has its lists
their-lists : (n : Net) (case : Case) → IsCase n.graph case → (found : List Found) → AreAllFound n (case_count n.graph) found → (one : Found) → IsFound n case one → (first end : ℕ) → HoldsLinks n.graph (source_of n.graph case) first end → (list : List NodeAnswer) × AreLists n case list
their-lists n case within found all NothingFound none first end holds = ([], none-listed n case none)
their-lists n case within found all (Own known) a first end holds = (listed_from first (arc_value known.solved).lists, a.solution.lists.from first end holds)
their-lists n case within found all AsLinkFound like first end holds =
    let link = found-for n found all (link_case case) within in
    let list = own-lists n case link.0 link.1 first end holds in
    (list.0, lists-from n case like list.0 list.1)

-- so it has its answers
pub answers-there : (n : Net) → IsGraph n.graph → (found : List Found) → AreAllFound n (case_count n.graph) found → IsAnswered n
answers-there n graph found all case within =
    let one = found-for n found all case within in
    let held = holds-some n.graph graph (source_of n.graph case) in
    let list = their-lists n case within found all one.0 one.1 held.0 held.1 held.2 in
    (limited_entries (limit_at n (source_of n.graph case)) list.0, answers-limited n case list.0 list.1)
