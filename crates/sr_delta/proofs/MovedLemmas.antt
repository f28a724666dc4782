-- The sets of nodes to which it isn't as far as it was.
use Rattle.std.proofs.Common.{◌≡◌, ℕ, ◌+◌, ⊎_elim, List, [], ◌∷◌, ◌++◌, refl, arith, sym, subst}
use Rattle.std.proofs.lemmas.List.{length_push}
use Rattle.sr_model.specs.Graph.{Graph}
use Rattle.sr_lanes.specs.declared.words.NodeBits.{NodeBits}
use Rattle.sr_delta.specs.Moved.{AreMoved, IsMovedFrom}
use Rattle.sr_seq.proofs.ListLemmas.{get-push}

pub moved-none : (g h : Graph) → AreMoved g h [] 0
moved-none g h = record { long = refl; each = λ u set is. absurd {0} (cc) }

-- one more
pub moved-more : (g h : Graph) (sets : List NodeBits) (n : ℕ) (set : NodeBits) → AreMoved g h sets n → IsMovedFrom g h n set → AreMoved g h (sets ++ set ∷ []) (n + 1)
moved-more g h sets n set are one = record {
  long = omega (arith, length_push sets set, are.long);
  each = λ u other is. ⊎_elim
      (λ old. are.each u other old)
      (λ last.
      let at : u ≡ n = omega (arith, last.0, are.long) in
      subst (λ k. IsMovedFrom g h k other) (sym at) (subst (λ (k : NodeBits). IsMovedFrom g h n k) last.1 one))
      (get-push sets set u other is);
}
