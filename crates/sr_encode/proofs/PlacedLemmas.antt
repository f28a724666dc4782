-- First links that are told by their places among the links of the source.
use Rattle.std.proofs.Common.{◌≡◌, ℕ, zero, suc, ◌+◌, ◌<◌, ◌≤◌, ⊎_elim, Bool, List, length, get_or, refl, arith, ap, sym, ◌∙◌, subst}
use Rattle.std.specs.Prelude.{All}
use Rattle.std.proofs.lemmas.Bool.{cases_lt}
use Rattle.std.proofs.lemmas.List.{get_or_default, length-map}
use Rattle.sr_model.specs.declared.case.Case.{Case}
use Rattle.sr_model.specs.declared.repair.Answer.{Answer}
use Rattle.sr_model.specs.declared.repair.Answer.TheVariants.{Least, NoPath, NoList, TooDeep}
use Rattle.sr_model.specs.declared.repair.Segment.{Segment}
use Rattle.sr_model.specs.Graph.{Graph, IsGraph, link_count, tail}
use Rattle.sr_model.specs.Label.{Net}
use Rattle.sr_model.specs.Case.{source_of}
use Rattle.sr_graph.specs.Ranges.{HoldsLinks}
use Rattle.sr_laws.specs.Listed.{IsListed}
use Rattle.sr_encode.specs.declared.answers.NodeAnswer.{NodeAnswer}
use Rattle.sr_encode.specs.declared.kept.Outcome.{Outcome}
use Rattle.sr_encode.specs.declared.kept.Outcome.TheVariants.{Least as ListOutcome, NoPath as NoPathOutcome, NoList as NoListOutcome}
use Rattle.sr_encode.specs.declared.kept.Kept.{Kept}
use Rattle.sr_encode.specs.Answered.{AreLists, AscendByNode, answer_at, destination_at}
use Rattle.sr_encode.specs.Kept.{AreKeptWithin, HasSegments, IsListOutcome, answer_from, entries, entry_from, no_kept, outcome_at}
use Rattle.sr_encode.specs.Placed.{HasLinkNumber, HaveLinkNumbers, AreNotBefore, IsNotBefore}
use Rattle.sr_encode.proofs.AnswerLemmas.{no_entry, kept-at}

-- the links of a node that has one begin at one number
pub holds-one : (g : Graph) (u i j i' j' l : ℕ) → HoldsLinks g u i j → HoldsLinks g u i' j' → l < link_count g → tail g l ≡ u → i ≡ i'
holds-one g u i j i' j' l a b within begins =
    let here = a.to l within begins in
    let there = b.to l within begins in
    let up : i ≤ i' = (let inside : i' < link_count g = omega (arith, there.0, within) in (a.to i' inside (b.from i' (omega arith) (omega (arith, there.0, there.1)))).0) in
    let down : i' ≤ i = (let inside : i < link_count g = omega (arith, here.0, within) in (b.to i inside (a.from i (omega arith) (omega (arith, here.0, here.1)))).0) in
    omega (arith, up, down)

-- a number that parts the first m links: those below it begin before node u, and the others don't
record Parts (g : Graph) (u m i : ℕ) : Type 0 where
  most : i ≤ m
  low : (l : ℕ) → l < i → tail g l < u
  high : (l : ℕ) → i ≤ l → l < m → u ≤ tail g l

parts : (g : Graph) → IsGraph g → (u m : ℕ) → m ≤ link_count g → (i : ℕ) × Parts g u m i
parts g r u zero within = (0, record { most = omega arith; low = λ l lt. absurd (omega (arith, lt)); high = λ l le lt. absurd (omega (arith, lt)) })
parts g r u (suc m) within =
    let before = parts g r u m (omega (arith, within)) in
    ⊎_elim
    (λ (lt : tail g m < u). (
      suc m,
      record {
        most = omega arith;
        low = λ l below. let up : tail g l ≤ tail g m = r.by_tail l m (omega (arith, below)) (omega (arith, within)) in omega (arith, up, lt);
        high = λ l le below. absurd (omega (arith, le, below));
      },
    ))
    (λ (ge : u ≤ tail g m). (
      before.0,
      record {
        most = omega (arith, before.1.most);
        low = before.1.low;
        high = λ l le below. ⊎_elim
            (λ (early : l < m). before.1.high l le early)
            (λ (late : m ≤ l). let at : m ≡ l = omega (arith, late, below) in subst (λ k. u ≤ tail g k) at ge)
            (cases_lt l m);
      },
    ))
    (cases_lt (tail g m) u)

-- the links of each node stand together
pub holds-some : (g : Graph) → IsGraph g → (u : ℕ) → (i : ℕ) × (j : ℕ) × HoldsLinks g u i j
holds-some g r u =
    let one = parts g r u (link_count g) (omega arith) in
    let two = parts g r (u + 1) (link_count g) (omega arith) in
    let i : ℕ = one.0 in
    let j : ℕ = two.0 in (
      i,
      j,
      record {
        ordered = ⊎_elim
            (λ (lt : j < i).
            let inside : j < link_count g = omega (arith, lt, one.1.most) in
            let low : tail g j < u = one.1.low j lt in
            let high : u + 1 ≤ tail g j = two.1.high j (omega arith) inside in
            absurd (omega (arith, low, high)))
            (λ (ge : i ≤ j). ge)
            (cases_lt j i);
        inside = two.1.most;
        from = λ l le lt.
            let inside : l < link_count g = omega (arith, lt, two.1.most) in
            let high : u ≤ tail g l = one.1.high l le inside in
            let low : tail g l < u + 1 = two.1.low l lt in
            omega (arith, high, low);
        to = λ l within begins. (
          ⊎_elim (λ (lt : l < i). let low : tail g l < u = one.1.low l lt in absurd (omega (arith, low, begins))) (λ (ge : i ≤ l). ge) (cases_lt l i),
          ⊎_elim (λ (lt : l < j). lt) (λ (ge : j ≤ l). let high : u + 1 ≤ tail g l = two.1.high l ge within in absurd (omega (arith, high, begins))) (cases_lt l j),
        );
      },
    )

-- the first link of a list that is listed is one of the source
number-listed : (n : Net) (x : List Bool) (s d : ℕ) (a : Answer) → IsGraph n.graph → IsListed n x s d a → HasLinkNumber a
number-listed n x s d NoPath r l = tt
number-listed n x s d NoList r l = tt
number-listed n x s d (TooDeep k) r l = tt
number-listed n x s d (Least list) r l = omega (arith, l.0.sound.within, r.few_links)

stands-listed : (n : Net) (x : List Bool) (s d i j : ℕ) (a : Answer) → HoldsLinks n.graph s i j → IsListed n x s d a → IsNotBefore i a
stands-listed n x s d i j NoPath h l = tt
stands-listed n x s d i j NoList h l = tt
stands-listed n x s d i j (TooDeep k) h l = tt
stands-listed n x s d i j (Least list) h l = (h.to list.first.0 l.0.sound.within l.0.sound.begins).0

module _ (n : Net) (case : Case) (list : List NodeAnswer) (r : AreLists n case list) where
  pub lists-numbered : IsGraph n.graph → HaveLinkNumbers list
  lists-numbered g i d lt =
      let l = r.answers i lt in
      subst (λ (e : NodeAnswer). HasLinkNumber e.answer) (get_or_default list i no_entry d lt) (number-listed n l.failed (source_of n.graph case) (destination_at list i) (answer_at list i) g l.listed)

  pub lists-stand : (first end : ℕ) → HoldsLinks n.graph (source_of n.graph case) first end → AreNotBefore first list
  lists-stand first end h i d lt =
      let l = r.answers i lt in
      subst (λ (e : NodeAnswer). IsNotBefore first e.answer) (get_or_default list i no_entry d lt) (stands-listed n l.failed (source_of n.graph case) (destination_at list i) first end (answer_at list i) h l.listed)

-- what is true of the answers is true of the outcomes, since each list is that of some destination
module _ (start : ℕ) (segments : List Segment) (outcomes : List Outcome) (kept : List Kept) (within : AreKeptWithin segments outcomes kept) (P : Outcome → Type 0) (Q : Answer → Type 0) (path : P NoPathOutcome) (none : P NoListOutcome) (some : (place begin end cost : ℕ) → HasSegments segments (ListOutcome place begin end) → Q (answer_from start segments (ListOutcome place begin end) cost) → P (ListOutcome place begin end)) (all : All (λ (e : NodeAnswer). Q e.answer) (entries segments outcomes kept start)) where
  outcome-as : (r : ℕ) → r < length outcomes → (o : Outcome) → outcome_at outcomes r ≡ o → P o
  outcome-as r lt NoPathOutcome eq = path
  outcome-as r lt NoListOutcome eq = none
  outcome-as r lt (ListOutcome place begin end) eq =
      let of = within.used r lt (subst (λ (o : Outcome). IsListOutcome o) (sym eq) tt) in
      let inside : of.0 < length kept = of.1 in
      let k : Kept = get_or kept of.0 no_kept in
      let at : outcome_at outcomes k.outcome ≡ ListOutcome place begin end = ap (outcome_at outcomes) of.2 ∙ eq in
      let here : Q (entry_from start segments outcomes k).answer = subst (λ (e : NodeAnswer). Q e.answer) (kept-at start segments outcomes kept of.0 inside) (all of.0 no_entry (omega (arith, inside, length-map kept (entry_from start segments outcomes)))) in
      some place begin end k.cost
      (subst (λ (o : Outcome). HasSegments segments o) eq (within.lists r NoPathOutcome lt))
      (subst (λ (o : Outcome). Q (answer_from start segments o k.cost)) at here)

  pub outcomes-as : All P outcomes
  outcomes-as r d lt = subst (λ (o : Outcome). P o) (get_or_default outcomes r NoPathOutcome d lt) (outcome-as r lt (outcome_at outcomes r) refl)

-- destinations don't depend on what is listed for them
pub ascend-kept : (a b : ℕ) (s s' : List Segment) (o o' : List Outcome) (kept : List Kept) → AscendByNode (entries s o kept a) → AscendByNode (entries s' o' kept b)
ascend-kept a b s s' o o' kept up i j lt end =
    let inside : j < length kept = omega (arith, end, length-map kept (entry_from b s' o')) in
    let there : destination_at (entries s o kept a) i < destination_at (entries s o kept a) j = up i j lt (omega (arith, inside, length-map kept (entry_from a s o))) in
    omega (
      arith,
      there,
      ap (λ (e : NodeAnswer). e.destination.0) (kept-at a s o kept i (omega (arith, lt, inside))),
      ap (λ (e : NodeAnswer). e.destination.0) (kept-at a s o kept j inside),
      ap (λ (e : NodeAnswer). e.destination.0) (kept-at b s' o' kept i (omega (arith, lt, inside))),
      ap (λ (e : NodeAnswer). e.destination.0) (kept-at b s' o' kept j inside),
    )
