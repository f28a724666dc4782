-- Where no rule on labels is broken, labels tell the net what to do.
use Rattle.std.proofs.Common.{◌≡◌, ℕ, zero, suc, ◌<◌, ◌≤◌, ⊎_elim, inl, inr, List, [], ◌∷◌, length, refl, arith, ap, sym, ◌∙◌, subst, Option, Some, None}
use Rattle.std.proofs.lemmas.Option.{same_Some}
use Rattle.std.specs.Prelude.{slice_index_or}
use Rattle.std.proofs.lemmas.Bool.{cases_lt, cases_order}
use Rattle.sr_model.specs.Graph.{link_count, no_link, node_count, tail}
use Rattle.sr_model.specs.Label.{IsSrgb, Labels, Net, adj_at, label_of, labels_at, nameless}
use Rattle.sr_model.specs.Rule.{IsAccepted, NoDuplicate, NoOutside, IsNet, NoAdjClash, adj_label_at, adj_labels_of, node_at}
use Rattle.sr_model.specs.declared.label.AdjLabel.{AdjLabel}
use Rattle.sr_model.specs.declared.link.Link.{Link}
use Rattle.sr_laws.proofs.Ranges.{good, label-one, label-within}

some_of : (o : Option ℕ) → (o ≡ None → ⊥) → (t : ℕ) × (o ≡ Some t)
some_of None h = absurd (h refl)
some_of (Some t) h = (t, refl)

-- ---- where the label of a link stands in the list
place : List (Option ℕ) → ℕ → ℕ
place [] l = 0
place (a ∷ labels) zero = 0
place (None ∷ labels) (suc l) = place labels l
place (Some t ∷ labels) (suc l) = suc (place labels l)

at-place : (ks : List Link) (labels : List (Option ℕ)) (l t : ℕ) → l < length ks → slice_index_or labels l None ≡ Some t → (place labels l < length (adj_labels_of ks labels)) × (adj_label_at (adj_labels_of ks labels) (place labels l) ≡ record { node = (slice_index_or ks l no_link).from.0; label = t })
unfolding place
at-place [] labels l t lt e = absurd (omega arith)
at-place (k ∷ ks) [] l t lt e = absurd {0} (cc)
at-place (k ∷ ks) (None ∷ labels) zero t lt e = absurd {0} (cc)
at-place (k ∷ ks) (None ∷ labels) (suc l) t lt e = at-place ks labels l t (omega arith) e
at-place (k ∷ ks) (Some s ∷ labels) zero t lt e = (omega arith, ap (λ n. record { node = k.from.0; label = n }) (same_Some _ _ e))
at-place (k ∷ ks) (Some s ∷ labels) (suc l) t lt e =
    let r = at-place ks labels l t (omega arith) e in
    (omega arith, r.1)

place-lt : (labels : List (Option ℕ)) (k l t : ℕ) → k < l → slice_index_or labels k None ≡ Some t → place labels k < place labels l
unfolding place
place-lt [] k l t lt e = absurd {0} (cc)
place-lt (a ∷ labels) k zero t lt e = absurd (omega arith)
place-lt (None ∷ labels) zero (suc l) t lt e = absurd {0} (cc)
place-lt (Some s ∷ labels) zero (suc l) t lt e = omega arith
place-lt (None ∷ labels) (suc k) (suc l) t lt e = place-lt labels k l t (omega arith) e
place-lt (Some s ∷ labels) (suc k) (suc l) t lt e = let r : place labels k < place labels l = place-lt labels k l t (omega arith) e in omega arith

beyond : {A : Type 0} (xs : List A) (k : ℕ) (d : A) → length xs ≤ k → slice_index_or xs k d ≡ d
beyond [] k d h = refl
beyond (x ∷ xs) zero d h = absurd (omega arith)
beyond (x ∷ xs) (suc k) d h = beyond xs k d (omega arith)

within-some : (labels : List (Option ℕ)) (l t : ℕ) → slice_index_or labels l None ≡ Some t → l < length labels
within-some labels l t e = ⊎_elim (λ lt. lt) (λ ge. let n : slice_index_or labels l None ≡ None = beyond labels l None ge in absurd {0} (cc)) (cases_lt l (length labels))

-- an announced label has a good node
good-node : (n : Net) (u i t : ℕ) → ((v : ℕ) → v < length n.labels → IsSrgb (labels_at n v).srgb) → label_of (labels_at n u).srgb i ≡ Some t → IsSrgb (labels_at n u).srgb
good-node n u i t g e =
    ⊎_elim
    (λ lt. g u lt)
    (λ ge.
    let b : labels_at n u ≡ nameless = beyond n.labels u nameless ge in
    let f : label_of (labels_at n u).srgb i ≡ None = ap (λ (a : Labels). label_of a.srgb i) b in
    absurd {0} (cc))
    (cases_lt u (length n.labels))

place-clash : (n : Net) (l t : ℕ) → length n.adj ≡ link_count n.graph → adj_at n l ≡ Some t → (l < link_count n.graph) × (place n.adj l < length (adj_labels_of n.graph.links n.adj)) × (adj_label_at (adj_labels_of n.graph.links n.adj) (place n.adj l) ≡ record { node = tail n.graph l; label = t })
place-clash n l t links e =
    let w : l < length n.adj = within-some n.adj l t e in
    let lt : l < link_count n.graph = omega arith in
    let a = at-place n.graph.links n.adj l t lt e in
    (lt, a.0, a.1)

adj-one : (n : Net) (k l t : ℕ) → length n.adj ≡ link_count n.graph → NoAdjClash n.labels (adj_labels_of n.graph.links n.adj) → tail n.graph k ≡ tail n.graph l → adj_at n k ≡ Some t → adj_at n l ≡ Some t → k < l → ⊥
adj-one n k l t links none tails ek el lt =
    let a = place-clash n k t links ek in
    let b = place-clash n l t links el in
    let apart : place n.adj k < place n.adj l = place-lt n.adj k l t lt ek in
    none (place n.adj k) (record {
      within = a.1;
      clash = inr (inr (place n.adj l, b.1, omega arith, ap (λ (x : AdjLabel). x.node) b.2 ∙ sym tails ∙ sym (ap (λ (x : AdjLabel). x.node) a.2), ap (λ (x : AdjLabel). x.label) b.2 ∙ sym (ap (λ (x : AdjLabel). x.label) a.2)));
    })

-- what the rules give
pub net-from_accepted : (n : Net) → IsAccepted n → IsNet n
net-from_accepted n a =
    let nodes : length n.labels ≡ node_count n.graph = a.nodes in
    let links : length n.adj ≡ link_count n.graph = a.links in
    let none : NoDuplicate n.labels × NoOutside n.labels × NoAdjClash n.labels (adj_labels_of n.graph.links n.adj) = a.rules in
    let goods : (v : ℕ) → v < length n.labels → IsSrgb (labels_at n v).srgb = a.ranges in
    record {
      graph = a.graph;
      named = a.named;
      grouped = a.grouped;
      nodes = a.nodes;
      links = a.links;
      inside = λ u v i uw vw is. some_of (label_of (labels_at n u).srgb i) (λ out. none.1 i u (record { announced = (v, (let w : v < length n.labels = omega arith in w), is); within = omega arith; outside = out }));
      own_index = λ u v i uw vw a b.
          ⊎_elim
          (λ same. same)
          (⊎_elim
          (λ (lt : u < v). absurd (none.0 i u v (record { order = lt; within = omega arith; low_has = a; high_has = b })))
          (λ (gt : v < u). absurd (none.0 i v u (record { order = gt; within = omega arith; low_has = b; high_has = a }))))
          (cases_order u v);
      own_label = λ u i j t a b. label-one (labels_at n u).srgb i j t (good (labels_at n u).srgb (good-node n u i t goods a)) a b;
      high = λ u i t a. let w = label-within (labels_at n u).srgb i t (good (labels_at n u).srgb (good-node n u i t goods a)) a in let low : 16 ≤ t = w.0 in omega arith;
      adj_high = λ l t e.
          let p = place-clash n l t links e in
          ⊎_elim
          (λ (low : t < 16). absurd (none.2 (place n.adj l) (record { within = p.1; clash = inl (subst (λ (x : AdjLabel). x.label < 16) (sym p.2) low) })))
          (λ (ge : 16 ≤ t). omega arith)
          (cases_lt t 16);
      adj_apart = λ l i t e own.
          let p = place-clash n l t links e in
          none.2 (place n.adj l) (record { within = p.1; clash = inr (inl (i, subst (λ (x : AdjLabel). label_of (node_at n.labels x.node).srgb i ≡ Some x.label) (sym p.2) own)) });
      adj_one = λ k l t kw lw tails ek el.
          ⊎_elim
          (λ same. same)
          (⊎_elim
          (λ (lt : k < l). absurd (adj-one n k l t links none.2 tails ek el lt))
          (λ (gt : l < k). absurd (adj-one n l k t links none.2 (sym tails) el ek gt)))
          (cases_order k l);
    }
