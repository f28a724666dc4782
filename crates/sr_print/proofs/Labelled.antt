-- The labels of a list, told from the top down.
use Rattle.std.proofs.Common.{◌≡◌, ℕ, ◌+◌, ◌<◌, ◌≤◌, List, [], ◌∷◌, ◌++◌, refl, ap, ◌∙◌, drop, drop-cons, add-one, length, append_assoc, reverse}
use Rattle.std.specs.List.{flat_map}
use Rattle.std.proofs.lemmas.List.{drop_all, flat_map_more, reverse-reverse}
use Rattle.std.proofs.lemmas.List.Elements.{All-from_get_or}
use Rattle.sr_model.specs.declared.repair.Segment.{Segment}
use Rattle.sr_model.specs.declared.repair.Segment.TheVariants.{Node, Adj}
use Rattle.sr_model.specs.Forward.{IsLabels}
use Rattle.sr_model.specs.Label.{Net, IsLabel}
use Rattle.sr_repair.specs.Stack.{CanLabel, HaveLabels, IsSegmentLabel, goes_to, segment_at}
use Rattle.sr_repair.proofs.StackLemmas.{AreLabelled, last}
use Rattle.sr_print.specs.Repairs.{AreSegments, IsSegment, label_word, labels_behind}

segment-within : (n : Net) (s : Segment) → CanLabel n s → IsSegment n.graph s
segment-within n (Node v) can = can.0
segment-within n (Adj l) can = can.0

-- segments that have labels are nodes and links of the graph
pub labels-within : (n : Net) (segments : List Segment) → HaveLabels n segments → AreSegments n.graph segments
labels-within n segments have = All-from_get_or (IsSegment n.graph) segments (Node (record { 0 = 0 })) (λ k lt. segment-within n (segment_at segments k) (have k lt))

labels-cons : (n : Net) (at : ℕ) (s : Segment) (rest : List Segment) (t : ℕ) (more : List ℕ) → IsSegmentLabel n at s t → IsLabels n (goes_to n s) rest more → IsLabels n at (s ∷ rest) (t ∷ more)
labels-cons n at (Node v) rest t more label are = (label, are)
labels-cons n at (Adj l) rest t more label are = (label, are)

-- one more label
pub labelled-more : (n : Net) (start : ℕ) (ss : List Segment) (d k at : ℕ) (ts : List ℕ) (t : ℕ) → AreLabelled n start ss d k at ts → k < length ss → IsSegmentLabel n at (segment_at ss k) t → AreLabelled n start ss d (k + 1) (goes_to n (segment_at ss k)) (ts ++ t ∷ [])
labelled-more n start ss d k at ts t so_far lt label = λ more are.
    let s = segment_at ss k in
    let split : drop k ss ≡ s ∷ drop (k + 1) ss = rw add-one (drop-cons ss k (Node (record { 0 = 0 })) lt) in
    let here : IsLabels n at (drop k ss ++ last d ∷ []) (t ∷ more) = rw split (labels-cons n at s (drop (k + 1) ss ++ last d ∷ []) t more label are) in
    rw append_assoc (so_far (t ∷ more) here)

-- all labels
pub labelled-all : (n : Net) (start : ℕ) (ss : List Segment) (d k at : ℕ) (ts : List ℕ) (t : ℕ) → AreLabelled n start ss d k at ts → length ss ≤ k → IsLabel n at d t → IsLabels n start (ss ++ last d ∷ []) (ts ++ t ∷ [])
labelled-all n start ss d k at ts t so_far past label =
    let none : drop k ss ≡ [] = drop_all k ss past in
    let here : IsLabels n at (drop k ss ++ last d ∷ []) (t ∷ []) = rw none (label, refl) in
    so_far (t ∷ []) here

top-told : (labels : List ℕ) (t : ℕ) (ts : List ℕ) → reverse labels ≡ t ∷ ts → labels_behind labels ≡ flat_map label_word (t ∷ ts)
top-told [] t ts is = absurd {0} (cc)
top-told (label ∷ more) t ts is = ap (λ labels. flat_map label_word labels) is

-- labels in the order of a stack, the top last, are told from the top down
pub labels-told : (t : ℕ) (ts : List ℕ) → labels_behind (reverse (t ∷ ts)) ≡ flat_map label_word (t ∷ ts)
labels-told t ts = top-told (reverse (t ∷ ts)) t ts (reverse-reverse (t ∷ ts))

-- one more label behind others, each as one more word
pub words-more : (before one two : List ℕ) (labels : List ℕ) (label wide : ℕ) → one ≡ before ++ flat_map label_word labels → wide ≡ label → two ≡ one ++ label_word wide → two ≡ before ++ flat_map label_word (labels ++ label ∷ [])
words-more before one two labels label wide p is q =
    q ∙ ap (λ (w : ℕ). one ++ label_word w) is ∙ ap (λ t. t ++ label_word label) p ∙ flat_map_more label_word before labels label
