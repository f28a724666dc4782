-- P of a node where just the links at one node fail, as it is told of many nodes at once.
use Rattle.std.proofs.Common.{◌≡◌, ◌≢◌, ℕ, ◌<◌, ⊎_elim, Bool, true, false, not, ◌&&◌, ◌||◌, ◌==◌, ltb, List, [], length, arith, refl, sym, ◌∙◌, subst}
use Rattle.std.specs.Prelude.{IsTrue, ◌↔◌, slice_index}
use Rattle.std.proofs.lemmas.Bool.{and_parts, eq-eqb, eqb-true, lt-ltb, ltb-true, or_cases, or_left, or_right, not-true, true≢false, false_from_ne_true, cases_eq, cases_lt}
use Rattle.sr_lanes.specs.Passes.{has_distance}
use Rattle.sr_model.specs.Graph.{Graph, node_count}
use Rattle.sr_model.specs.Walk.{IsOnWay, IsCell}
use Rattle.sr_model.specs.Space.{InP}
use Rattle.sr_model.specs.declared.link.TheConstants.{FAR}
use Rattle.sr_spf.specs.Trees.{Forest, AreTrees, cell_at, row_at}
use Rattle.sr_spaces.specs.Failure.{IsAround}
use Rattle.sr_spaces.proofs.SpaceLemmas.{tree_cell}
use Rattle.sr_spaces.proofs.AroundLemmas.{way-outside, no_way-inside, own-inside}

-- a node in P of u is reached
inside-near : (g : Graph) (t : Forest) (x : List Bool) (u v : ℕ) → AreTrees g t → u < node_count g → v < node_count g → InP g x u v → cell_at t u v < FAR
inside-near g t x u v a b c inside =
    let cell : IsCell g [] u v (cell_at t u v) = tree_cell g t u v a b c in
    ⊎_elim (λ near. near) (λ far. absurd (cell.far far inside.reached.0 inside.reached.1)) (cases_lt (cell_at t u v) FAR)

-- those of the nodes that u reaches
module _ (g : Graph) (t : Forest) (row : List ℕ) (u : ℕ) (among reached : ℕ → Bool) (a : AreTrees g t) (b : u < node_count g) (c : (v : ℕ) → among v ≡ true → v < node_count g) (first : row ≡ row_at t.rows u) (near : (v : ℕ) → reached v ≡ (among v && has_distance row v)) where
  reached-among : (v : ℕ) → reached v ≡ true → among v ≡ true
  reached-among v e = (and_parts (among v) (has_distance row v) (sym (near v) ∙ e)).0

  reached-near : (v : ℕ) → reached v ≡ true → cell_at t u v < FAR
  reached-near v e =
      let finite = (and_parts (among v) (has_distance row v) (sym (near v) ∙ e)).1 in
      rw first at (ltb-true (slice_index row v) FAR (and_parts (ltb v (length row)) (ltb (slice_index row v) FAR) finite).1)

  inside-reached : (x : List Bool) (v : ℕ) → among v ≡ true → InP g x u v → reached v ≡ true
  inside-reached x v m inside =
      let within : v < length row = rw first (omega (arith, (a.rows u b).long, c v m)) in
      let small : slice_index row v < FAR = rw first (inside-near g t x u v a b (c v m) inside) in
      near v ∙ rw (m, lt-ltb v (length row) within, lt-ltb (slice_index row v) FAR small) refl

  -- just the links at f fail, and away are those of them towards which no shortest walk from u reaches f
  module _ (x : List Bool) (f : ℕ) (comes away : ℕ → Bool) (around : IsAround g x f) (way : (v : ℕ) → IsTrue (comes v) ↔ ((reached v ≡ true) × IsOnWay g [] u v f)) (is : (v : ℕ) → away v ≡ (reached v && not (comes v))) where
    away-inside : (v : ℕ) → away v ≡ true → (among v ≡ true) × InP g x u v
    away-inside v e =
        let both = and_parts (reached v) (not (comes v)) (sym (is v) ∙ e) in
        let m = reached-among v both.0 in (
          m,
          no_way-inside g x u v f (cell_at t u v) around ((tree_cell g t u v a b (c v m)).near (reached-near v both.0))
              (λ on. true≢false (sym ((way v).1 (both.0, on)) ∙ not-true (comes v) both.1)),
        )

    inside-away : (v : ℕ) → u ≢ v → among v ≡ true → InP g x u v → away v ≡ true
    inside-away v apart m inside =
        let none : comes v ≡ false = false_from_ne_true (comes v) (λ yes. way-outside g x u v f around apart ((way v).0 yes).1 inside) in
        is v ∙ rw (inside-reached x v m inside, none) refl

    -- they are P of u where u isn't among the nodes
    pub away-told : reached u ≡ false → (v : ℕ) → IsTrue (away v) ↔ ((among v ≡ true) × InP g x u v)
    away-told out v = (
      away-inside v,
      λ both. inside-away v
          (λ same. true≢false (sym (subst (λ k. reached k ≡ true) (sym same) (inside-reached x v both.0 both.1)) ∙ out)) both.0 both.1,
    )

    -- and where it is, they are with it
    pub own-told : reached u ≡ true → (more : ℕ → Bool) → ((v : ℕ) → more v ≡ (v == u || away v)) → (v : ℕ) → IsTrue (more v) ↔ ((among v ≡ true) × InP g x u v)
    own-told own more each v = (
      λ yes. ⊎_elim
          (λ here. subst (λ k. (among k ≡ true) × InP g x u k) (sym (eqb-true v u here)) (reached-among u own, own-inside g x u a.graph))
          (λ there. away-inside v there)
          (or_cases (v == u) (away v) (sym (each v) ∙ yes)),
      λ both. ⊎_elim
          (λ (same : v ≡ u). each v ∙ or_left (v == u) (away v) (eq-eqb v u same))
          (λ (ne : v ≢ u). each v ∙ or_right (v == u) (away v) (inside-away v (λ same. ne (sym same)) both.0 both.1))
          (cases_eq v u),
    )
