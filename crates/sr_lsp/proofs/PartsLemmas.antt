-- Keeping parts one after the other keeps their list.
use Rattle.std.proofs.Common.{◌≡◌, ◌+◌, ℕ, zero, suc, List, [], ◌∷◌, ◌++◌, length, refl, sym, ap, subst, ◌∙◌, arith, append_assoc, append-nil}
use Rattle.std.specs.List.{All}
use Rattle.std.proofs.lemmas.List.{map-append}
use Rattle.std.proofs.lemmas.List.Elements.{All-append, All-cons, All-nil}
use Rattle.sr_lsp.specs.declared.table.Part.{Part}
use Rattle.sr_lsp.specs.declared.parts.Arrays.{Arrays}
use Rattle.sr_lsp.specs.declared.parts.Spot.{Spot}
use Rattle.sr_lsp.specs.Parts.{AreUnmoved, IsPutAway}
use Rattle.sr_lsp.specs.Spots.{IsInside, part_in, parts_by}

-- so far: the parts that stand there, and then the rest of the list, of which there are that many
pub record IsKeptSoFar (arrays : Arrays) (order : List Spot) (rest : List Part) (left : ℕ) (list : List Part) : Type 0 where
  pub inside : All (IsInside arrays) order
  pub parts : parts_by arrays order ++ rest ≡ list
  pub count : left ≡ length rest

-- what was kept is the same list
still-parts : (old new : Arrays) (order : List Spot) → AreUnmoved old new → All (IsInside old) order → parts_by new order ≡ parts_by old order
still-parts old new [] kept inside = refl
still-parts old new (spot ∷ spots) kept inside =
    let first : part_in new spot ≡ part_in old spot = kept.same spot (inside zero spot (omega arith)) in
    let others : parts_by new spots ≡ parts_by old spots = still-parts old new spots kept (λ k d h. inside (suc k) d (omega arith)) in
    cc

-- nothing is kept at first
pub kept-none : (arrays : Arrays) (order : List Spot) (rest : List Part) (left : ℕ) (list : List Part)
    → order ≡ [] → rest ≡ list → left ≡ length rest → IsKeptSoFar arrays order rest left list
kept-none arrays order rest left list none whole count =
    subst (λ (spots : List Spot). IsKeptSoFar arrays spots rest left list) (sym none) (record { inside = All-nil (IsInside arrays); parts = whole; count = count })

-- and then one part more
pub kept-more : (old new : Arrays) (order grown : List Spot) (rest more : List Part) (left less : ℕ) (list : List Part) (part : Part) (spot : Spot)
    → grown ≡ order ++ spot ∷ [] → rest ≡ part ∷ more → left ≡ less + 1 → IsPutAway old new part spot → IsKeptSoFar old order rest left list
    → IsKeptSoFar new grown more less list
kept-more old new order grown rest more left less list part spot pushed next fewer kept so_far =
    let still : parts_by new order ≡ parts_by old order = still-parts old new order kept.others so_far.inside in
    let both : parts_by new (order ++ spot ∷ []) ≡ parts_by new order ++ part_in new spot ∷ [] = map-append (part_in new) order (spot ∷ []) in
    let one : parts_by new (order ++ spot ∷ []) ≡ parts_by old order ++ part ∷ [] = both ∙ ap (λ (ps : List Part). ps ++ part_in new spot ∷ []) still ∙ ap (λ (p : Part). parts_by old order ++ p ∷ []) kept.is in
    subst (λ (spots : List Spot). IsKeptSoFar new spots more less list) (sym pushed) (record {
      inside = All-append (IsInside new) order (spot ∷ []) (λ k d h. kept.others.inside _ (so_far.inside k d h)) (All-cons (IsInside new) spot [] kept.inside (All-nil (IsInside new)));
      parts = ap (λ (ps : List Part). ps ++ more) one ∙ append_assoc (parts_by old order) (part ∷ []) more ∙ ap (λ (ps : List Part). parts_by old order ++ ps) (sym next) ∙ so_far.parts;
      count = let counts : length rest ≡ length (part ∷ more) = ap length next in omega (arith, so_far.count);
    })

nothing-left : (rest : List Part) → 0 ≡ length rest → rest ≡ []
nothing-left [] none = refl
nothing-left (part ∷ more) none = absurd (omega arith)

-- until nothing is left
pub kept-all : (arrays : Arrays) (order : List Spot) (rest : List Part) (left : ℕ) (list : List Part) → left ≡ 0 → IsKeptSoFar arrays order rest left list → parts_by arrays order ≡ list
kept-all arrays order rest left list none so_far =
    let empty : rest ≡ [] = nothing-left rest (sym none ∙ so_far.count) in
    sym (append-nil (parts_by arrays order)) ∙ ap (λ (ps : List Part). parts_by arrays order ++ ps) (sym empty) ∙ so_far.parts
