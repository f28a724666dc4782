-- Lists of the indices that nodes announce.
use Rattle.std.proofs.Common.{◌≡◌, ◌≢◌, ℕ, zero, suc, ◌+◌, ◌<◌, ◌≤◌, ◌⊎◌, ⊎_elim, inl, inr, List, [], ◌∷◌, ◌++◌, length, refl, arith, ap, sym, ◌∙◌, subst, Some, None}
use Rattle.std.proofs.lemmas.Bool.{cases_eq, cases_lt}
use Rattle.std.proofs.lemmas.Option.{same_Some}
use Rattle.sr_model.specs.declared.label.Range.{Range}
use Rattle.sr_model.specs.Label.{Labels, label_of, sizes}
use Rattle.sr_model.specs.Rule.{node_at}
use Rattle.sr_laws.proofs.Ranges.{label-some}
use Rattle.sr_labels.specs.declared.indices.NodeIndex.{NodeIndex}
use Rattle.sr_labels.specs.Indices.{entry_at, IsIndexEntry, AreByNode}

-- each node has a label for the index
abbrev pub IsInside : List Labels → ℕ → Type 0
IsInside nodes i = (v : ℕ) → v < length nodes → label_of (node_at nodes v).srgb i ≢ None

pub labelled : (rs : List Range) (i : ℕ) → i < sizes rs → label_of rs i ≢ None
labelled rs i h e = let s : (t : ℕ) × (label_of rs i ≡ Some t) = label-some rs i h in absurd {0} (cc (s.1, e))

-- the list holds what the nodes below n announce, in order of node
pub record AreListedBelow (nodes : List Labels) (list : List NodeIndex) (n : ℕ) : Type 0 where
  pub each : (k : ℕ) → k < length list → IsIndexEntry nodes (entry_at list k) × ((entry_at list k).node < n)
  pub all : (entry : NodeIndex) → IsIndexEntry nodes entry → entry.node < n → (k : ℕ) × (k < length list) × (entry_at list k ≡ entry)
  pub ascending : (j k : ℕ) → j < k → k < length list → (entry_at list j).node < (entry_at list k).node

pub below-none : (nodes : List Labels) → AreListedBelow nodes [] 0
below-none nodes = record {
  each = λ k lt. absurd (omega arith);
  all = λ entry l lt. absurd (omega arith);
  ascending = λ j k lt w. absurd (omega arith);
}

-- node n announces no index
pub below-skip : (nodes : List Labels) (list : List NodeIndex) (n : ℕ) → (node_at nodes n).index ≡ None → AreListedBelow nodes list n → AreListedBelow nodes list (n + 1)
below-skip nodes list n none h = record {
  each = λ k lt. let e = h.each k lt in (e.0, (let w : (entry_at list k).node < n = e.1 in omega arith));
  all = λ entry l lt.
      ⊎_elim
      (λ (same : entry.node ≡ n). absurd {0} (let bad : None ≡ Some entry.index = sym none ∙ ap (λ v. (node_at nodes v).index) (sym same) ∙ l.1 in cc))
      (λ (ne : entry.node ≢ n). h.all entry l (omega arith))
      (cases_eq entry.node n);
  ascending = h.ascending;
}

entry-old : (list : List NodeIndex) (a : NodeIndex) (k : ℕ) → k < length list → entry_at (list ++ a ∷ []) k ≡ entry_at list k
entry-old [] a k lt = absurd (omega arith)
entry-old (x ∷ list) a zero lt = refl
entry-old (x ∷ list) a (suc k) lt = entry-old list a k (omega arith)

entry-new : (list : List NodeIndex) (a : NodeIndex) → entry_at (list ++ a ∷ []) (length list) ≡ a
entry-new [] a = refl
entry-new (x ∷ list) a = entry-new list a

length-push : (list : List NodeIndex) (a : NodeIndex) → length (list ++ a ∷ []) ≡ length list + 1
length-push [] a = refl
length-push (x ∷ list) a = omega (arith, length-push list a)

abbrev made : ℕ → ℕ → NodeIndex
made i n = record { index = i; node = n }

entry_is : (a b : NodeIndex) → a.index ≡ b.index → a.node ≡ b.node → a ≡ b
entry_is a b i n = ap (λ x. made x a.node) i ∙ ap (made b.index) n

-- node n announces i
module _ (nodes : List Labels) (list : List NodeIndex) (n i : ℕ) (within : n < length nodes) (is : (node_at nodes n).index ≡ Some i) (h : AreListedBelow nodes list n) where
  abbrev new : NodeIndex
  new = record { index = i; node = n }

  at-place : (k : ℕ) → k < length list + 1 → ((k < length list) × (entry_at (list ++ new ∷ []) k ≡ entry_at list k)) ⊎ ((k ≡ length list) × (entry_at (list ++ new ∷ []) k ≡ new))
  at-place k lt =
      ⊎_elim
      (λ (old : k < length list). inl (old, entry-old list new k old))
      (λ (ge : length list ≤ k). let e : k ≡ length list = omega arith in inr (e, ap (entry_at (list ++ new ∷ [])) e ∙ entry-new list new))
      (cases_lt k (length list))

  pub below-push : AreListedBelow nodes (list ++ new ∷ []) (n + 1)
  below-push =
      let long : length (list ++ new ∷ []) ≡ length list + 1 = length-push list new in
      record {
        each = λ k lt.
            ⊎_elim
            (λ old. let e = h.each k old.0 in let P : NodeIndex → Type 0 = λ a. IsIndexEntry nodes a × (a.node < n + 1) in subst P (sym old.1) (e.0, (let w : (entry_at list k).node < n = e.1 in omega arith)))
            (λ last. let P : NodeIndex → Type 0 = λ a. IsIndexEntry nodes a × (a.node < n + 1) in subst P (sym last.1) ((within, is), omega arith))
            (at-place k (omega arith));
        all = λ entry l lt.
            ⊎_elim
            (λ (same : entry.node ≡ n).
            let ei : entry.index ≡ i = same_Some _ _ (sym l.1 ∙ ap (λ v. (node_at nodes v).index) same ∙ is) in
            (length list, omega arith, entry-new list new ∙ sym (entry_is entry new ei same)))
            (λ (ne : entry.node ≢ n).
            let p = h.all entry l (omega arith) in
            (p.0, (let w : p.0 < length list = p.1 in omega arith), entry-old list new p.0 p.1 ∙ p.2))
            (cases_eq entry.node n);
        ascending = λ j k lt w.
            ⊎_elim
            (λ old. rw (old.1, entry-old list new j (let o : k < length list = old.0 in omega arith)) (h.ascending j k lt old.0))
            (λ last.
            let o : k ≡ length list = last.0 in
            let jw : j < length list = omega arith in
            rw (last.1, entry-old list new j jw) (h.each j jw).1)
            (at-place k (omega arith));
      }

pub below-end : (nodes : List Labels) (list : List NodeIndex) (n : ℕ) → length nodes ≤ n → AreListedBelow nodes list n → AreByNode nodes list
below-end nodes list n le h = (
  ((λ k lt. (h.each k lt).0), (λ entry l. h.all entry l (let w : entry.node < length nodes = l.0 in omega arith))),
  h.ascending,
)
