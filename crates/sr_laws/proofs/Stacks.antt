-- There is one stack of a list, and one list of next hops with what becomes of the label.
use Rattle.std.proofs.Common.{◌≡◌, ℕ, ◌<◌, ⊎_elim, inl, inr, Bool, true, false, List, [], ◌∷◌, ◌++◌, refl, arith, ap, sym, ◌∙◌, subst, Some, suc, length}
use Rattle.std.proofs.lemmas.Option.{same_Some}
use Rattle.std.specs.Prelude.{slice_get}
use Rattle.sr_model.specs.declared.link.LinkNo.{LinkNo}
use Rattle.sr_model.specs.declared.entry.Out.{Out}
use Rattle.sr_model.specs.declared.entry.Out.TheVariants.{Pop, Swap, Null as NullOut}
use Rattle.sr_model.specs.declared.repair.Segment.{Segment}
use Rattle.sr_model.specs.declared.repair.Segment.TheVariants.{Node, Adj}
use Rattle.sr_model.specs.Graph.{head}
use Rattle.sr_model.specs.Label.{Net, labels_at, label_of, IsLabel}
use Rattle.sr_model.specs.Forward.{Crossing, IsLabels, IsStack}
use Rattle.sr_model.specs.Table.{IsOut, leaves, AreHops}
use Rattle.sr_laws.proofs.Ascending.{ascending-one}
use Rattle.sr_laws.proofs.Parts.{link_is}

-- a node has one label at another
pub label-same : (n : Net) (u b q t : ℕ) → IsLabel n u b q → IsLabel n u b t → q ≡ t
label-same n u b q t x y =
    let i : x.0 ≡ y.0 = same_Some _ _ (sym x.2 ∙ y.2) in
    same_Some _ _ (sym x.3 ∙ ap (label_of (labels_at n u).srgb) i ∙ y.3)

true_false : {A : Type 0} (b : Bool) → b ≡ true → b ≡ false → A
true_false b p q = absurd {0} (cc)

-- what becomes of the label tells what is left of the stack
pub crossing-out : (n : Net) (b m : ℕ) (o : Out) (rest after : List ℕ) → IsOut n b m o → (Crossing n b m rest after → after ≡ leaves o rest) × (after ≡ leaves o rest → Crossing n b m rest after)
crossing-out n b m Pop rest after is = (
  ⊎_elim
      (λ pop. pop.2)
      (⊎_elim
      (λ null. true_false (labels_at n b).keep null.1 is.1)
      (λ swap. ⊎_elim (λ ne. absurd (ne is.0)) (λ keep. true_false (labels_at n b).keep keep.0 is.1) swap.2)),
  λ e. inl (is.0, is.1, e),
)
crossing-out n b m NullOut rest after is = (
  ⊎_elim
      (λ pop. true_false (labels_at n b).keep is.1 pop.1)
      (⊎_elim (λ null. null.3) (λ swap. ⊎_elim (λ ne. absurd (ne is.0)) (λ keep. true_false (labels_at n b).explicit is.2 keep.1) swap.2)),
  λ e. inr (inl (is.0, is.1, is.2, e)),
)
crossing-out n b m (Swap t) rest after is = (
  ⊎_elim
      (λ pop. ⊎_elim (λ ne. absurd (ne pop.0)) (λ keep. true_false (labels_at n b).keep keep.0 pop.1) is.1)
      (⊎_elim
      (λ null. ⊎_elim (λ ne. absurd (ne null.0)) (λ keep. true_false (labels_at n b).explicit null.2 keep.1) is.1)
      (λ swap. swap.3 ∙ ap (λ k. k ∷ rest) (label-same n m b swap.0 t swap.1 is.0))),
  λ e. inr (inr (t, is.0, is.1, e)),
)

-- each crossing leaves the label in some way
pub out-from_crossing : (n : Net) (b m : ℕ) (rest after : List ℕ) → Crossing n b m rest after → (o : Out) × IsOut n b m o × (after ≡ leaves o rest)
out-from_crossing n b m rest after cross =
    ⊎_elim
    (λ pop. (Pop, (pop.0, pop.1), pop.2))
    (⊎_elim
    (λ null. (NullOut, (null.0, null.1, null.2), null.3))
    (λ swap. (Swap swap.0, (swap.1, swap.2), swap.3)))
    cross

pub crossing-same : (n : Net) (b m : ℕ) (rest one two : List ℕ) → Crossing n b m rest one → Crossing n b m rest two → one ≡ two
crossing-same n b m rest one two p q =
    let o = out-from_crossing n b m rest one p in
    o.2 ∙ sym ((crossing-out n b m o.0 rest two o.1).0 q)

labels_same : (n : Net) (u : ℕ) (ss : List Segment) (one two : List ℕ) → IsLabels n u ss one → IsLabels n u ss two → one ≡ two
labels_same n u [] one two p q = p ∙ sym q
labels_same n u (s ∷ ss) [] two p q = absurd p
labels_same n u (s ∷ ss) (t ∷ ts) [] p q = absurd q
labels_same n u (Node v ∷ ss) (t ∷ ts) (r ∷ rs) p q =
    let e : t ≡ r = label-same n u v.0 t r p.0 q.0 in
    let f : ts ≡ rs = labels_same n v.0 ss ts rs p.1 q.1 in
    cc
labels_same n u (Adj l ∷ ss) (t ∷ ts) (r ∷ rs) p q =
    let e : t ≡ r = same_Some _ _ (sym p.0 ∙ q.0) in
    let f : ts ≡ rs = labels_same n (head n.graph l.0) ss ts rs p.1 q.1 in
    cc

-- a list has one stack
pub stack-one : (n : Net) (d first : ℕ) (ss : List Segment) (one two : List ℕ) → IsStack n d first ss one → IsStack n d first ss two → one ≡ two
stack-one n d first [] one two p q = crossing-same n d (head n.graph first) [] one two p q
stack-one n d first (s ∷ ss) one two p q = labels_same n (head n.graph first) (s ∷ ss ++ Node (record { 0 = d }) ∷ []) one two p q

-- a label has one way to be left
pub out-same : (n : Net) (b m : ℕ) (o p : Out) → IsOut n b m o → IsOut n b m p → o ≡ p
out-same n b m Pop Pop x y = refl
out-same n b m Pop NullOut x y = true_false (labels_at n b).keep y.1 x.1
out-same n b m Pop (Swap t) x y = ⊎_elim (λ ne. absurd (ne x.0)) (λ keep. true_false (labels_at n b).keep keep.0 x.1) y.1
out-same n b m NullOut Pop x y = true_false (labels_at n b).keep x.1 y.1
out-same n b m NullOut NullOut x y = refl
out-same n b m NullOut (Swap t) x y = ⊎_elim (λ ne. absurd (ne x.0)) (λ keep. true_false (labels_at n b).explicit x.2 keep.1) y.1
out-same n b m (Swap t) Pop x y = ⊎_elim (λ ne. absurd (ne y.0)) (λ keep. true_false (labels_at n b).keep keep.0 y.1) x.1
out-same n b m (Swap t) NullOut x y = ⊎_elim (λ ne. absurd (ne y.0)) (λ keep. true_false (labels_at n b).explicit y.2 keep.1) x.1
out-same n b m (Swap t) (Swap r) x y = ap Swap (label-same n m b t r x.0 y.0)

hop_same : (n : Net) (b : ℕ) (h k : LinkNo × Out) → IsOut n b (head n.graph h.0.0) h.1 → IsOut n b (head n.graph k.0.0) k.1 → k.0.0 ≡ h.0.0 → k ≡ h
hop_same n b h k x y e =
    let l : k.0 ≡ h.0 = link_is k.0 h.0 e in
    let o : k.1 ≡ h.1 = out-same n b (head n.graph h.0.0) k.1 h.1 (subst (λ j. IsOut n b (head n.graph j) k.1) e y) x in
    let q : (k.0, k.1) ≡ (h.0, h.1) = rw (l, o) refl in
    q

hops_among : (n : Net) (u b : ℕ) (xs ys : List (LinkNo × Out)) → AreHops n u b xs → AreHops n u b ys → (i : ℕ) (h : LinkNo × Out) → slice_get xs i ≡ Some h → (j : ℕ) × (slice_get ys j ≡ Some h)
hops_among n u b xs ys p q i h is =
    let a = p.each i h is in
    let r = q.all h.0.0 a.0 in
    let c = q.each r.0 r.1 r.2 in
    let same : r.1 ≡ h = hop_same n b h r.1 a.1 c.1 r.3 in
    (r.0, r.2 ∙ ap (λ k. Some k) same)

-- there is one list of next hops
pub hops-one : (n : Net) (u b : ℕ) (xs ys : List (LinkNo × Out)) → AreHops n u b xs → AreHops n u b ys → xs ≡ ys
hops-one n u b xs ys p q =
    ascending-one (λ h k. h.0.0 < k.0.0) (λ h lt. omega (arith, lt)) (λ h k l lt lt'. omega (arith, lt, lt')) xs ys p.ascending q.ascending
    (hops_among n u b xs ys p q) (hops_among n u b ys xs q p)

-- there is a label for each segment
pub labels-count : (n : Net) (u : ℕ) (ss : List Segment) (ts : List ℕ) → IsLabels n u ss ts → length ts ≡ length ss
labels-count n u [] ts a = ap length a
labels-count n u (s ∷ ss) [] a = absurd a
labels-count n u (Node v ∷ ss) (t ∷ ts) a = ap suc (labels-count n v.0 ss ts a.1)
labels-count n u (Adj l ∷ ss) (t ∷ ts) a = ap suc (labels-count n (head n.graph l.0) ss ts a.1)
