-- The order of lists that outlast a change of links, and the least of them.
use Rattle.std.proofs.Common.{◌≡◌, ℕ, ◌+◌, ◌<◌, ⊎_elim, inl, inr, Bool, List, [], ◌∷◌, length, refl, arith, ap, sym, ◌∙◌, subst}
use Rattle.std.specs.Prelude.{slice_index}
use Rattle.sr_model.specs.Graph.{Graph, node_count, tail}
use Rattle.sr_model.specs.Label.{Net}
use Rattle.sr_model.specs.Repair.{IsLeast, IsSound, Path, PathLt, SegmentLt, SegmentsLt}
use Rattle.sr_model.specs.Walk.{IsDistance}
use Rattle.sr_model.specs.declared.link.TheConstants.{FAR}
use Rattle.sr_model.specs.declared.repair.Segment.{Segment}
use Rattle.sr_model.specs.declared.repair.Segment.TheVariants.{Adj, Node}
use Rattle.sr_walks.proofs.Rows.{agree-sym, like-begins, way-kept}
use Rattle.sr_laws.proofs.KeptLists.{in_row, OnWay, Stays, AreLinksAlike, AreSegmentsAlike, sound-kept}

-- the links that are alike stand in one order, and each has one like
pub record Ordered (g h : Graph) : Type 0 where
  pub up : (l k l' k' : ℕ) → AreLinksAlike g h l k → AreLinksAlike g h l' k' → l < l' → k < k'
  pub one : (l k k' : ℕ) → AreLinksAlike g h l k → AreLinksAlike g h l k' → k ≡ k'

pub length-alike : (g h : Graph) (ss ts : List Segment) → AreSegmentsAlike g h ss ts → length ss ≡ length ts
length-alike g h [] ts a = ap length (sym a)
length-alike g h (Node v ∷ ss) [] a = absurd a
length-alike g h (Node v ∷ ss) (Node w ∷ ts) a = omega (arith, length-alike g h ss ts a.1)
length-alike g h (Node v ∷ ss) (Adj k ∷ ts) a = absurd a
length-alike g h (Adj l ∷ ss) [] a = absurd a
length-alike g h (Adj l ∷ ss) (Node w ∷ ts) a = absurd a
length-alike g h (Adj l ∷ ss) (Adj k ∷ ts) a = omega (arith, length-alike g h ss ts a.1)

-- both segments are of the same node, or of links that are alike
abbrev AreAlike : Graph → Graph → Segment → Segment → Type 0
AreAlike g h (Node v) (Node w) = v ≡ w
AreAlike g h (Node v) (Adj k) = ⊥
AreAlike g h (Adj l) (Node w) = ⊥
AreAlike g h (Adj l) (Adj k) = AreLinksAlike g h l.0 k.0

lt-kept : (g h : Graph) → Ordered g h → (a b a' b' : Segment) → AreAlike g h a a' → AreAlike g h b b' → SegmentLt a b → SegmentLt a' b'
lt-kept g h o (Node a) (Node b) (Node a') (Node b') p q lt = omega (arith, ap (λ k. k.0) p, ap (λ k. k.0) q)
lt-kept g h o (Node a) (Adj b) (Node a') (Adj b') p q lt = tt
lt-kept g h o (Node a) b (Adj a') b' p q lt = absurd p
lt-kept g h o (Adj a) b (Node a') b' p q lt = absurd p
lt-kept g h o (Node a) (Node b) (Node a') (Adj b') p q lt = absurd q
lt-kept g h o (Node a) (Adj b) (Node a') (Node b') p q lt = absurd q
lt-kept g h o (Adj a) (Node b) (Adj a') b' p q lt = absurd lt
lt-kept g h o (Adj a) (Adj b) (Adj a') (Node b') p q lt = absurd q
lt-kept g h o (Adj a) (Adj b) (Adj a') (Adj b') p q lt = o.up a.0 a'.0 b.0 b'.0 p q lt

-- the head of a list that is alike, and the rest
head_alike : (g h : Graph) (a : Segment) (ss ts : List Segment) → AreSegmentsAlike g h (a ∷ ss) ts → (b : Segment) × (us : List Segment) × (ts ≡ b ∷ us) × AreAlike g h a b × AreSegmentsAlike g h ss us
head_alike g h (Node v) ss [] p = absurd p
head_alike g h (Node v) ss (Node w ∷ us) p = (Node w, us, refl, p.0, p.1)
head_alike g h (Node v) ss (Adj k ∷ us) p = absurd p
head_alike g h (Adj l) ss [] p = absurd p
head_alike g h (Adj l) ss (Node w ∷ us) p = absurd p
head_alike g h (Adj l) ss (Adj k ∷ us) p = (Adj k, us, refl, p.0, p.1)

alike_one : (g h : Graph) → Ordered g h → (a b c : Segment) → AreAlike g h a b → AreAlike g h a c → b ≡ c
alike_one g h o (Node a) (Node b) (Node c) p q = ap (λ k. Node k) (sym p ∙ q)
alike_one g h o (Node a) (Node b) (Adj c) p q = absurd q
alike_one g h o (Node a) (Adj b) c p q = absurd p
alike_one g h o (Adj a) (Node b) c p q = absurd p
alike_one g h o (Adj a) (Adj b) (Node c) p q = absurd q
alike_one g h o (Adj a) (Adj b) (Adj c) p q = ap (λ k. Adj (record { 0 = k })) (o.one a.0 b.0 c.0 p q)

segments-lt-kept : (g h : Graph) → Ordered g h → (ws bs ps qs : List Segment) → AreSegmentsAlike g h ws ps → AreSegmentsAlike g h bs qs → SegmentsLt ws bs → SegmentsLt ps qs
segments-lt-kept g h o [] bs ps qs p q lt = absurd lt
segments-lt-kept g h o (a ∷ ws) [] ps qs p q lt = absurd lt
segments-lt-kept g h o (a ∷ ws) (b ∷ bs) ps qs p q lt =
    let x = head_alike g h a ws ps p in
    let y = head_alike g h b bs qs q in
    rw (x.2, y.2) (⊎_elim
    (λ here. inl (lt-kept g h o a b x.0 y.0 x.3 y.3 here))
    (λ later. inr (alike_one g h o a x.0 y.0 x.3 (rw later.0 y.3), segments-lt-kept g h o ws bs x.1 y.1 x.4 y.4 later.1))
    lt)

path-lt-kept : (g h : Graph) → Ordered g h → (a b p q : Path) → AreLinksAlike g h a.first p.first → AreSegmentsAlike g h a.segments p.segments → AreLinksAlike g h b.first q.first → AreSegmentsAlike g h b.segments q.segments → PathLt a b → PathLt p q
path-lt-kept g h o a b p q fa sa fb sb lt =
    let la : length a.segments ≡ length p.segments = length-alike g h a.segments p.segments sa in
    let lb : length b.segments ≡ length q.segments = length-alike g h b.segments q.segments sb in
    ⊎_elim
    (λ shorter. inl (omega arith))
    (λ same. inr (
      omega (arith, same.0),
      ⊎_elim
          (λ lower. inl (o.up a.first p.first b.first q.first fa fb lower))
          (λ e. inr (o.one a.first p.first q.first fa (rw e.0 fb), segments-lt-kept g h o a.segments b.segments p.segments q.segments sa sb e.1))
          same.1,
    ))
    lt

-- the same from the new net's side
pub way-sym : (n : Net) (x : List Bool) (m : Net) (y : List Bool) (s d : ℕ) (post : List ℕ) → Stays n x m y s d post → (w : ℕ) → w < node_count m.graph → d < node_count m.graph → OnWay m.graph y s d w → OnWay n.graph x s d w
way-sym n x m y s d post st w within inside o =
    let at_w : (slice_index post w < FAR) × (slice_index post w ≡ o.far) = in_row m.graph y s w o.far post st.row' within o.to in
    let at_d : (slice_index post d < FAR) × (slice_index post d ≡ o.far + o.rest) = in_row m.graph y s d (o.far + o.rest) post st.row' inside o.whole in
    let r = way-kept m.graph y n.graph x s post st.graph' st.row' st.back (agree-sym n.graph m.graph st.nodes st.agree) w o.from.0 d o.from.1 o.from.3 at_w.0 (omega (arith, o.from.2)) in
    record {
      far = o.far;
      rest = o.rest;
      to = subst (λ k. IsDistance n.graph x s w k) at_w.1 ((st.row.each w (omega (arith, st.nodes))).near at_w.0);
      from = (r.0, r.1, r.2 ∙ o.from.2, like-begins m.graph n.graph (agree-sym n.graph m.graph st.nodes st.agree) s w within o.from.0 r.0 r.3 o.from.3);
      whole = subst (λ k. IsDistance n.graph x s d k) at_d.1 ((st.row.each d (omega (arith, st.nodes))).near at_d.0);
    }

pub stays-sym : (n : Net) (x : List Bool) (m : Net) (y : List Bool) (s d : ℕ) (post : List ℕ) → Stays n x m y s d post → d < node_count n.graph → Stays m y n x s d post
stays-sym n x m y s d post st inside =
    let inside' : d < node_count m.graph = omega (arith, st.nodes) in
    record {
      graph = st.graph';
      graph' = st.graph;
      nodes = sym st.nodes;
      agree = agree-sym n.graph m.graph st.nodes st.agree;
      source = omega (arith, st.nodes, st.source);
      row = st.row';
      row' = st.row;
      there = st.back;
      back = st.there;
      same = λ l k a b e. sym (st.same k l b a (sym e));
      steps = λ u v at to o p other.
          let r = st.steps u v (omega (arith, st.nodes)) (omega (arith, st.nodes)) (way-sym n x m y s d post st u at inside' o) (way-sym n x m y s d post st v to inside' p) other in
          (r.1, r.0);
      index = λ w within o. sym (st.index w (omega (arith, st.nodes)) (way-sym n x m y s d post st w within inside' o));
      adj = λ l k a b o e. sym (st.adj k l b a (subst (λ j. OnWay n.graph x s d j) (ap (λ j. j.from.0) (sym e)) (way-sym n x m y s d post st (tail m.graph l) ((st.graph'.each l a).0) inside' o)) (sym e));
    }

segments_one : (g h : Graph) → Ordered g h → (ss ts us : List Segment) → AreSegmentsAlike g h ss ts → AreSegmentsAlike g h ss us → ts ≡ us
segments_one g h o [] ts us p q = p ∙ sym q
segments_one g h o (a ∷ ss) ts us p q =
    let x = head_alike g h a ss ts p in
    let y = head_alike g h a ss us q in
    x.2 ∙ (ap (λ k. k ∷ x.1) (alike_one g h o a x.0 y.0 x.3 y.3) ∙ ap (λ k. y.0 ∷ k) (segments_one g h o ss x.1 y.1 x.4 y.4)) ∙ sym y.2

segments-alike-sym : (g h : Graph) (ss ts : List Segment) → AreSegmentsAlike g h ss ts → AreSegmentsAlike h g ts ss
segments-alike-sym g h [] ts a = rw a refl
segments-alike-sym g h (Node v ∷ ss) [] a = absurd a
segments-alike-sym g h (Node v ∷ ss) (Node w ∷ ts) a = (sym a.0, segments-alike-sym g h ss ts a.1)
segments-alike-sym g h (Node v ∷ ss) (Adj k ∷ ts) a = absurd a
segments-alike-sym g h (Adj l ∷ ss) [] a = absurd a
segments-alike-sym g h (Adj l ∷ ss) (Node w ∷ ts) a = absurd a
segments-alike-sym g h (Adj l ∷ ss) (Adj k ∷ ts) a = ((a.0.1, a.0.0, sym a.0.2), segments-alike-sym g h ss ts a.1)

-- the least stays the least
pub least-kept : (n : Net) (x : List Bool) (m : Net) (y : List Bool) (s d : ℕ) (post : List ℕ) → Stays n x m y s d post → Ordered n.graph m.graph → d < node_count n.graph → (a : Path) → IsLeast n x s d a → (b : Path) × IsLeast m y s d b × AreLinksAlike n.graph m.graph a.first b.first × AreSegmentsAlike n.graph m.graph a.segments b.segments
least-kept n x m y s d post st o inside a i =
    let b = sound-kept n x m y s d post st inside a i.sound in (
      b.0,
      record {
        sound = b.1;
        least = λ c j.
            let e = sound-kept m y n x s d post (stays-sym n x m y s d post st inside) (omega (arith, st.nodes)) c j in
            let first : AreLinksAlike n.graph m.graph e.0.first c.first = (e.2.1, e.2.0, sym e.2.2) in
            let rest : AreSegmentsAlike n.graph m.graph e.0.segments c.segments = segments-alike-sym m.graph n.graph c.segments e.0.segments e.3 in
            ⊎_elim
            (λ lt. inl (path-lt-kept n.graph m.graph o a e.0 b.0 c b.2 b.3 first rest lt))
            (λ same.
            let f : b.0.first ≡ c.first = o.one a.first b.0.first c.first b.2 (rw same first) in
            let g : b.0.segments ≡ c.segments = segments_one n.graph m.graph o a.segments b.0.segments c.segments b.3 (rw same rest) in
            let q : b.0 ≡ record { first = c.first; segments = c.segments } = rw (← f, ← g) refl in
            inr q)
            (i.least e.0 e.1);
      },
      b.2,
      b.3,
    )

-- and where there was none, there is none
pub none-kept : (n : Net) (x : List Bool) (m : Net) (y : List Bool) (s d : ℕ) (post : List ℕ) → Stays n x m y s d post → d < node_count n.graph → ((a : Path) → IsSound n x s d a → ⊥) → (b : Path) → IsSound m y s d b → ⊥
none-kept n x m y s d post st inside none b j =
    let e = sound-kept m y n x s d post (stays-sym n x m y s d post st inside) (omega (arith, st.nodes)) b j in
    none e.0 e.1
