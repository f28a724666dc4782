-- Segments that are the same by names, one by one, are the same lists.
use Rattle.std.proofs.Common.{◌≡◌, ℕ, zero, suc, ◌<◌, List, [], ◌∷◌, length, refl, sym, ap, ◌∙◌, arith}
use Rattle.std.proofs.lemmas.List.{length-map}
use Rattle.sr_model.specs.declared.repair.Segment.{Segment}
use Rattle.sr_model.specs.Graph.{Graph}
use Rattle.sr_repair.specs.Stack.{segment_at}
use Rattle.sr_diff.specs.Named.{NamedSegment, segment_name, segment_names}

-- the segments at one place are the same by names
abbrev pub AreNamedAlikeAt : Graph → Graph → List Segment → List Segment → ℕ → Type 0
AreNamedAlikeAt g h ss ts j = segment_name g (segment_at ss j) ≡ segment_name h (segment_at ts j)

-- as many of them, and the same at each place
pub segments-same : (g h : Graph) (ss ts : List Segment) → length ss ≡ length ts → ((j : ℕ) → j < length ss → AreNamedAlikeAt g h ss ts j) → segment_names g ss ≡ segment_names h ts
segments-same g h [] [] long each = refl
segments-same g h [] (t ∷ ts) long each = absurd (omega (arith, long))
segments-same g h (s ∷ ss) [] long each = absurd (omega (arith, long))
segments-same g h (s ∷ ss) (t ∷ ts) long each =
    let head : segment_name g s ≡ segment_name h t = each 0 (omega arith) in
    let rest : segment_names g ss ≡ segment_names h ts = segments-same g h ss ts (omega (arith, long)) (λ j lt. each (suc j) (omega (arith, lt))) in
    cc

-- the same lists have as many
pub segments-long : (g h : Graph) (ss ts : List Segment) → segment_names g ss ≡ segment_names h ts → length ss ≡ length ts
segments-long g h ss ts e =
    sym (length-map ss (segment_name g)) ∙ ap (λ (xs : List NamedSegment). length xs) e ∙ length-map ts (segment_name h)

-- and the same at each place
pub segments-at : (g h : Graph) (ss ts : List Segment) → segment_names g ss ≡ segment_names h ts → (j : ℕ) → j < length ss → AreNamedAlikeAt g h ss ts j
segments-at g h [] ts e j lt = absurd (omega (arith, lt))
segments-at g h (s ∷ ss) [] e j lt = absurd (cc (e))
segments-at g h (s ∷ ss) (t ∷ ts) e zero lt = let head : segment_name g s ≡ segment_name h t = cc (e) in head
segments-at g h (s ∷ ss) (t ∷ ts) e (suc j) lt = segments-at g h ss ts (cc (e)) j (omega (arith, lt))
