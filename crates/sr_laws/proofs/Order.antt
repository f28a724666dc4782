-- The order of lists.
use Rattle.std.proofs.Common.{◌≡◌, ⊎_elim, inl, inr, List, [], ◌∷◌, ◌++◌, refl, arith, ap, sym, ◌∙◌, subst}
use Rattle.std.proofs.lemmas.List.{length-append}
use Rattle.sr_model.specs.Repair.{Path, PathLe, PathLt, SegmentLt, SegmentsLt}
use Rattle.sr_model.specs.declared.repair.Segment.{Segment}
use Rattle.sr_model.specs.declared.repair.Segment.TheVariants.{Adj, Node}
pub use Rattle.sr_laws.specs.Exact.{push}

SegmentLt-trans : (a b c : Segment) → SegmentLt a b → SegmentLt b c → SegmentLt a c
SegmentLt-trans (Node a) (Node b) (Node c) p q = omega arith
SegmentLt-trans (Node a) (Node b) (Adj c) p q = tt
SegmentLt-trans (Node a) (Adj b) (Node c) p q = absurd q
SegmentLt-trans (Node a) (Adj b) (Adj c) p q = tt
SegmentLt-trans (Adj a) (Node b) c p q = absurd p
SegmentLt-trans (Adj a) (Adj b) (Node c) p q = absurd q
SegmentLt-trans (Adj a) (Adj b) (Adj c) p q = omega arith

SegmentLt-irrefl : (a : Segment) → SegmentLt a a → ⊥
SegmentLt-irrefl (Node a) p = omega arith
SegmentLt-irrefl (Adj a) p = omega arith

SegmentsLt-trans : (ps bs cs : List Segment) → SegmentsLt ps bs → SegmentsLt bs cs → SegmentsLt ps cs
SegmentsLt-trans [] bs cs p q = absurd p
SegmentsLt-trans (a ∷ ps) [] cs p q = absurd p
SegmentsLt-trans (a ∷ ps) (b ∷ bs) [] p q = absurd q
SegmentsLt-trans (a ∷ ps) (b ∷ bs) (c ∷ cs) p q =
    ⊎_elim
    (λ lt. ⊎_elim (λ lt'. inl (SegmentLt-trans a b c lt lt')) (λ e. inl (subst (λ k. SegmentLt a k) e.0 lt)) q)
    (λ e. ⊎_elim (λ lt'. inl (subst (λ k. SegmentLt k c) (sym e.0) lt')) (λ f. inr (e.0 ∙ f.0, SegmentsLt-trans ps bs cs e.1 f.1)) q)
    p

SegmentsLt-irrefl : (ps : List Segment) → SegmentsLt ps ps → ⊥
SegmentsLt-irrefl [] p = p
SegmentsLt-irrefl (a ∷ ps) p = ⊎_elim (λ lt. SegmentLt-irrefl a lt) (λ e. SegmentsLt-irrefl ps e.1) p

-- longer lists keep the order of their beginnings
SegmentsLt-push : (ps bs : List Segment) (s t : Segment) → SegmentsLt ps bs → SegmentsLt (ps ++ s ∷ []) (bs ++ t ∷ [])
SegmentsLt-push [] bs s t p = absurd p
SegmentsLt-push (a ∷ ps) [] s t p = absurd p
SegmentsLt-push (a ∷ ps) (b ∷ bs) s t p = ⊎_elim (λ lt. inl lt) (λ e. inr (e.0, SegmentsLt-push ps bs s t e.1)) p

SegmentsLt-last : (ps : List Segment) (s t : Segment) → SegmentLt s t → SegmentsLt (ps ++ s ∷ []) (ps ++ t ∷ [])
SegmentsLt-last [] s t p = inl p
SegmentsLt-last (a ∷ ps) s t p = inr (refl, SegmentsLt-last ps s t p)

pub PathLt-push : (a b : Path) (s t : Segment) → PathLt a b → PathLt (push a s) (push b t)
PathLt-push a b s t p =
    ⊎_elim
    (λ shorter. inl (omega (arith, length-append a.segments (s ∷ []), length-append b.segments (t ∷ []))))
    (λ same. inr (
      omega (arith, same.0, length-append a.segments (s ∷ []), length-append b.segments (t ∷ [])),
      ⊎_elim (λ lt. inl lt) (λ e. inr (e.0, SegmentsLt-push a.segments b.segments s t e.1)) same.1,
    ))
    p

pub PathLt-last : (a : Path) (s t : Segment) → SegmentLt s t → PathLt (push a s) (push a t)
PathLt-last a s t p = inr (omega (arith, length-append a.segments (s ∷ []), length-append a.segments (t ∷ [])), inr (refl, SegmentsLt-last a.segments s t p))

pub PathLe-push : (a b : Path) (s : Segment) → PathLe a b → PathLe (push a s) (push b s)
PathLe-push a b s p = ⊎_elim (λ lt. inl (PathLt-push a b s s lt)) (λ e. inr (ap (λ k. push k s) e)) p

pub PathLt-trans : (a b c : Path) → PathLt a b → PathLt b c → PathLt a c
PathLt-trans a b c p q =
    ⊎_elim
    (λ shorter. ⊎_elim (λ s'. inl (omega arith)) (λ same'. inl (omega (arith, same'.0))) q)
    (λ same. ⊎_elim
    (λ s'. inl (omega (arith, same.0)))
    (λ same'. inr (
      same.0 ∙ same'.0,
      ⊎_elim
          (λ lt. ⊎_elim (λ lt'. inl (omega arith)) (λ e'. inl (omega (arith, e'.0))) same'.1)
          (λ e. ⊎_elim (λ lt'. inl (omega (arith, e.0))) (λ e'. inr (e.0 ∙ e'.0, SegmentsLt-trans a.segments b.segments c.segments e.1 e'.1)) same'.1)
          same.1,
    ))
    q)
    p

pub PathLt-irrefl : (a : Path) → PathLt a a → ⊥
PathLt-irrefl a p =
    ⊎_elim (λ s. omega arith) (λ same. ⊎_elim (λ lt. omega arith) (λ e. SegmentsLt-irrefl a.segments e.1) same.1) p

pub PathLe-trans : (a b c : Path) → PathLe a b → PathLe b c → PathLe a c
PathLe-trans a b c p q =
    ⊎_elim
    (λ lt. ⊎_elim (λ lt'. inl (PathLt-trans a b c lt lt')) (λ e. inl (subst (λ k. PathLt a k) e lt)) q)
    (λ e. subst (λ k. PathLe k c) (sym e) q)
    p

pub PathLe-antisym : (a b : Path) → PathLe a b → PathLe b a → a ≡ b
PathLe-antisym a b p q =
    ⊎_elim
    (λ lt. ⊎_elim (λ lt'. absurd (PathLt-irrefl a (PathLt-trans a b a lt lt'))) (λ e. sym e) q)
    (λ e. e)
    p
