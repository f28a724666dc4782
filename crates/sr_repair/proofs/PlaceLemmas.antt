-- The places and slots of cases, and what stands in these.
use Rattle.std.proofs.Common.{◌≡◌, ℕ, zero, suc, ◌+◌, ◌*◌, ◌<◌, List, [], ◌∷◌, length, Option, refl, arith, ap, sym, ◌∙◌, subst}
use Rattle.std.specs.Prelude.{slice_index_or}
use Rattle.std.specs.List.{AllZip, range_with_len}
use Rattle.sr_model.specs.declared.case.Case.{Case}
use Rattle.sr_model.specs.declared.case.Kind.{Kind}
use Rattle.sr_model.specs.declared.case.Kind.TheVariants.{Link as LinkKind, Node as NodeKind, Risk as RiskKind}
use Rattle.sr_model.specs.Audit.{rank_of}
use Rattle.sr_model.specs.Graph.{Graph, link_count}
use Rattle.sr_model.specs.Case.{IsCase}
use Rattle.sr_spf.proofs.OrderLemmas.{in_order}
use Rattle.sr_model.specs.Label.{Net}
use Rattle.sr_repair.specs.declared.passes.LinkPasses.{LinkPasses}
use Rattle.sr_repair.specs.declared.passes.Passed.{Passed}
use Rattle.sr_repair.specs.declared.passes.Passed.TheVariants.{Nothing}
use Rattle.sr_repair.specs.Answers.{case_count, in_slots, place_of, AreOfLink, IsPassed, StandInSlots}
use Rattle.sr_repair.specs.Spared.{Passage}

-- a rank and a number below k are told from the place of both
rank-one : (k : ℕ) (a b : Kind) (i j : ℕ) → i < k → j < k → rank_of a * k + i ≡ rank_of b * k + j → (a ≡ b) × (i ≡ j)
rank-one k LinkKind LinkKind i j li lj e = (refl, omega arith)
rank-one k LinkKind NodeKind i j li lj e = absurd (omega arith)
rank-one k LinkKind RiskKind i j li lj e = absurd (omega arith)
rank-one k NodeKind LinkKind i j li lj e = absurd (omega arith)
rank-one k NodeKind NodeKind i j li lj e = (refl, omega arith)
rank-one k NodeKind RiskKind i j li lj e = absurd (omega arith)
rank-one k RiskKind LinkKind i j li lj e = absurd (omega arith)
rank-one k RiskKind NodeKind i j li lj e = absurd (omega arith)
rank-one k RiskKind RiskKind i j li lj e = (refl, omega arith)

pub case_is : (a b : Case) → a.kind ≡ b.kind → a.link.0 ≡ b.link.0 → a ≡ b
case_is a b k l = let q : record { kind = a.kind; link = record { 0 = a.link.0 } } ≡ record { kind = b.kind; link = record { 0 = b.link.0 } } = rw (k, l) refl in q

-- two cases have two places
pub place-one : (g : Graph) (a b : Case) → IsCase g a → IsCase g b → place_of g a ≡ place_of g b → a ≡ b
place-one g a b p q e = let same = rank-one (link_count g) a.kind b.kind a.link.0 b.link.0 p q e in case_is a b same.0 same.1

-- what was given for a case of a link
abbrev given_for : LinkPasses → Kind → Passed
given_for passed LinkKind = passed.link
given_for passed NodeKind = passed.node
given_for passed RiskKind = passed.risk

-- what stands for the passes of a link past the last one
abbrev no_passes : LinkPasses
no_passes = record { link = Nothing; node = Nothing; risk = Nothing }

-- what stands in a slot was given for its case
slot-read : (all : List LinkPasses) (l : ℕ) (kind : Kind) → l < length all
    → slice_index_or (in_slots all) (3 * l + rank_of kind) Nothing ≡ given_for (slice_index_or all l no_passes) kind
slot-read [] l kind lt = absurd (omega (arith, lt))
slot-read (one ∷ rest) zero LinkKind lt = ap (λ k. slice_index_or (in_slots (one ∷ rest)) k Nothing) (let at : 3 * zero + rank_of LinkKind ≡ 0 = omega arith in at)
slot-read (one ∷ rest) zero NodeKind lt = ap (λ k. slice_index_or (in_slots (one ∷ rest)) k Nothing) (let at : 3 * zero + rank_of NodeKind ≡ 1 = omega arith in at)
slot-read (one ∷ rest) zero RiskKind lt = ap (λ k. slice_index_or (in_slots (one ∷ rest)) k Nothing) (let at : 3 * zero + rank_of RiskKind ≡ 2 = omega arith in at)
slot-read (one ∷ rest) (suc l) kind lt =
    let at : 3 * suc l + rank_of kind ≡ suc (suc (suc (3 * l + rank_of kind))) = omega arith in
    ap (λ k. slice_index_or (in_slots (one ∷ rest)) k Nothing) at ∙ slot-read rest l kind (omega (arith, lt))

slots-long : (all : List LinkPasses) → length (in_slots all) ≡ 3 * length all
slots-long [] = refl
slots-long (one ∷ rest) = omega (arith, slots-long rest)

-- it belongs to that case
given-for : (former : Option Passage) (n : Net) (l : ℕ) (kind : Kind) (passed : LinkPasses) → AreOfLink former n l passed → IsPassed former n (record { kind = kind; link = record { 0 = l } }) (given_for passed kind)
given-for former n l LinkKind passed are = are.0
given-for former n l NodeKind passed are = are.1
given-for former n l RiskKind passed are = are.2

-- what was given for the cases of all links stands in their slots
pub stand-in_slots : (former : Option Passage) (n : Net) (m : ℕ) (all : List LinkPasses) → AllZip (AreOfLink former n) (range_with_len 0 m) all → m ≡ link_count n.graph
    → StandInSlots Nothing n.graph (IsPassed former n) (case_count n.graph) (in_slots all)
stand-in_slots former n m all zip count =
    let places = in_order (AreOfLink former n) m all no_passes zip in
    record {
      long = omega (arith, slots-long all, places.0, count);
      each = λ case within lt.
          let inside : case.link.0 < m = omega (arith, within, count) in
          subst (λ x. IsPassed former n case x) (sym (slot-read all case.link.0 case.kind (omega (arith, inside, places.0))))
          (subst (λ k. IsPassed former n k (given_for (slice_index_or all case.link.0 no_passes) case.kind)) (case_is (record { kind = case.kind; link = record { 0 = case.link.0 } }) case refl refl)
          (given-for former n case.link.0 case.kind (slice_index_or all case.link.0 no_passes) (places.1 case.link.0 inside)));
    }
