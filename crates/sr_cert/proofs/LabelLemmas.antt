-- The labels of a certificate, from one segment on.
use Rattle.std.proofs.Common.{◌≡◌, ℕ, suc, ◌+◌, ◌-◌, ◌<◌, ◌≤◌, Bool, List, [], ◌∷◌, ◌++◌, length, drop, drop-cons, reverse, refl, arith, ap, sym, ◌∙◌, subst}
use Rattle.std.specs.Prelude.{◌↔◌, slice_index}
use Rattle.std.proofs.lemmas.Option.{same_Some}
use Rattle.std.proofs.lemmas.List.{length-append, length-reverse, get_or-reverse}
use Rattle.sr_model.specs.declared.link.NodeNo.{NodeNo}
use Rattle.sr_model.specs.declared.repair.Segment.{Segment}
use Rattle.sr_model.specs.declared.repair.Segment.TheVariants.{Node, Adj}
use Rattle.sr_model.specs.Graph.{head}
use Rattle.sr_model.specs.Label.{Net, IsLabel}
use Rattle.sr_model.specs.Forward.{IsLabels}
use Rattle.sr_laws.proofs.Stacks.{label-same}
use Rattle.sr_repair.specs.Stack.{segment_at, goes_to, IsSegmentLabel, HaveLabels}
use Rattle.sr_cert.specs.Clauses.{AreUsable}
use Rattle.sr_cert.specs.Walked.{AreSegmentsWithin, last_segment}
use Rattle.sr_cert.proofs.WalkedLemmas.{drop-segment, drop-all}
use Rattle.sr_repair.proofs.StackLemmas.{have-cons}
use Rattle.sr_laws.proofs.Stacks.{labels-count}

-- a segment has one label at a node
pub segment-label-one : (n : Net) (u : ℕ) (s : Segment) (a b : ℕ) → IsSegmentLabel n u s a → IsSegmentLabel n u s b → a ≡ b
segment-label-one n u (Node v) a b p q = label-same n u v.0 a b p q
segment-label-one n u (Adj l) a b p q = same_Some _ _ (sym p ∙ q)

pub labels-length : (n : Net) (u : ℕ) (ss : List Segment) (d : NodeNo) (labels : List ℕ) → IsLabels n u (ss ++ last_segment d ∷ []) (reverse labels) → length labels ≡ length ss + 1
labels-length n u ss d labels a = omega (arith, labels-count n u (ss ++ last_segment d ∷ []) (reverse labels) a, length-reverse labels, length-append ss (last_segment d ∷ []))

labels-cons : (n : Net) (u : ℕ) (s : Segment) (ss : List Segment) (t : ℕ) (ts : List ℕ) → IsLabels n u (s ∷ ss) (t ∷ ts) ↔ (IsSegmentLabel n u s t × IsLabels n (goes_to n s) ss ts)
labels-cons n u (Node v) ss t ts = (λ a. a, λ b. b)
labels-cons n u (Adj l) ss t ts = (λ a. a, λ b. b)

drop-number : (xs : List ℕ) (k : ℕ) → k < length xs → drop k xs ≡ slice_index xs k ∷ drop (k + 1) xs
drop-number xs k lt =
    let next : suc k ≡ k + 1 = omega arith in
    subst (λ j. drop k xs ≡ slice_index xs k ∷ drop j xs) next (drop-cons xs k 0 lt)

-- the label below the k top ones
from-top : (labels : List ℕ) (k place : ℕ) → place + k + 1 ≡ length labels → slice_index (reverse labels) k ≡ slice_index labels place
from-top labels k place e =
    let at : length labels - 1 - k ≡ place = omega (arith, e) in
    get_or-reverse labels k 0 (omega (arith, e)) ∙ ap (λ i. slice_index labels i) at

pub labels-at : (n : Net) (ss : List Segment) (k : ℕ) → k < length ss → (u w : ℕ) → w ≡ goes_to n (segment_at ss k) → (d : NodeNo) (labels : List ℕ) (place : ℕ) → place + k + 1 ≡ length labels → IsLabels n u (drop k ss ++ last_segment d ∷ []) (drop k (reverse labels)) ↔ (IsSegmentLabel n u (segment_at ss k) (slice_index labels place) × IsLabels n w (drop (k + 1) ss ++ last_segment d ∷ []) (drop (k + 1) (reverse labels)))
labels-at n ss k lt u w to d labels place e =
    rw (drop-segment ss k lt, drop-number (reverse labels) k (omega (arith, e, length-reverse labels)), from-top labels k place e, to)
    (labels-cons n u (segment_at ss k) (drop (k + 1) ss ++ last_segment d ∷ []) (slice_index labels place) (drop (k + 1) (reverse labels)))

-- the label below all others is that of the last node
pub labels-end : (n : Net) (ss : List Segment) (k : ℕ) → k ≤ length ss → length ss ≤ k → (u : ℕ) (d : NodeNo) (labels : List ℕ) → k + 1 ≡ length labels → IsLabels n u (drop k ss ++ last_segment d ∷ []) (drop k (reverse labels)) ↔ IsLabel n u d.0 (slice_index labels 0)
labels-end n ss k le ge u d labels e =
    let last : drop (k + 1) (reverse labels) ≡ [] = drop-all (reverse labels) (k + 1) (omega (arith, e, length-reverse labels)) (omega (arith, e, length-reverse labels)) in
    rw (drop-all ss k le ge, drop-number (reverse labels) k (omega (arith, e, length-reverse labels)), last, from-top labels k 0 (omega (arith, e)))
    ((λ a. a.0, λ b. (b, refl)))

-- segments that may be used have labels
pub usable-labels : (n : Net) (x : List Bool) (u : ℕ) (ss : List Segment) → AreUsable n x u ss → AreSegmentsWithin n ss → HaveLabels n ss
usable-labels n x u [] a b = λ k lt. absurd (omega arith)
usable-labels n x u (Node v ∷ ss) a b = have-cons n (Node v) ss (b 0 (omega arith), a.0) (usable-labels n x v.0 ss a.2 (λ k lt. b (suc k) (omega arith)))
usable-labels n x u (Adj l ∷ ss) a b = have-cons n (Adj l) ss (b 0 (omega arith), a.2) (usable-labels n x (head n.graph l.0) ss a.3 (λ k lt. b (suc k) (omega arith)))
