-- How the places of the nodes' links are found.
use Rattle.std.proofs.Common.{◌≡◌, ◌≢◌, ℕ, ◌+◌, ◌<◌, ◌≤◌, ⊎_elim, List, [], ◌∷◌, ◌++◌, length, refl, arith, ◌∙◌}
use Rattle.std.specs.Prelude.{slice_index}
use Rattle.std.proofs.lemmas.Bool.{cases_lt, cases_eq}
use Rattle.std.proofs.lemmas.List.{length-append, get_or_push, get_or_append_left}
use Rattle.sr_model.specs.declared.link.Link.{Link}
use Rattle.sr_model.specs.Graph.{Graph, node_count, link_count, tail}
use Rattle.sr_graph.specs.Ranges.{tail_in, AreByTail, AreStarts, HoldsLinks}

-- the first u starts are right, and the links below place `next` begin below node u
pub record AreBegun (links : List Link) (starts : List ℕ) (u next : ℕ) : Type 0 where
  pub long : length starts ≡ u
  pub inside : (k : ℕ) → k < u → slice_index starts k ≤ length links
  pub from : (k l : ℕ) → k < u → l < length links → slice_index starts k ≤ l → k ≤ tail_in links l
  pub to : (k l : ℕ) → k < u → l < length links → k ≤ tail_in links l → slice_index starts k ≤ l
  pub low : (l : ℕ) → l < next → tail_in links l < u

pub begun-none : (links : List Link) → AreBegun links [] 0 0
begun-none links = record {
  long = refl;
  inside = λ k lt. absurd (omega arith);
  from = λ k l lt within le. absurd (omega arith);
  to = λ k l lt within le. absurd (omega arith);
  low = λ l lt. absurd (omega arith);
}

pub begun-push : (links : List Link) (starts : List ℕ) (u next place : ℕ) → AreByTail links → AreBegun links starts u next → next ≤ place → place ≤ length links
    → ((l : ℕ) → next ≤ l → l < place → tail_in links l < u) → (place < length links → u ≤ tail_in links place) → AreBegun links (starts ++ place ∷ []) (u + 1) place
begun-push links starts u next place order b forth inside before at =
    let below : (l : ℕ) → l < place → tail_in links l < u = λ l lt. ⊎_elim (λ early. b.low l early) (λ late. before l late lt) (cases_lt l next) in
    let old : (k : ℕ) → k < u → slice_index (starts ++ place ∷ []) k ≡ slice_index starts k = λ k lt. get_or_append_left starts (place ∷ []) 0 k (omega (arith, b.long)) in
    let new : slice_index (starts ++ place ∷ []) u ≡ place = get_or_push starts place 0 u b.long in
    record {
      long = length-append starts (place ∷ []) ∙ omega (arith, b.long);
      inside = λ k lt. ⊎_elim
          (λ (e : k ≡ u). rw (e, new) inside)
          (λ (ne : k ≢ u). let lt' : k < u = omega arith in rw (old k lt') (b.inside k lt'))
          (cases_eq k u);
      from = λ k l lt within le. ⊎_elim
          (λ (e : k ≡ u).
          let le' : place ≤ l = rw (e, new) at le in
          let up : tail_in links place ≤ tail_in links l = order place l le' within in
          let low : u ≤ tail_in links place = at (omega arith) in
          omega arith)
          (λ (ne : k ≢ u). let lt' : k < u = omega arith in b.from k l lt' within (rw (old k lt') at le))
          (cases_eq k u);
      to = λ k l lt within le. ⊎_elim
          (λ (e : k ≡ u). rw (e, new) (⊎_elim (λ early. let z : tail_in links l < u = below l early in absurd (omega arith)) (λ late. late) (cases_lt l place)))
          (λ (ne : k ≢ u). let lt' : k < u = omega arith in rw (old k lt') (b.to k l lt' within le))
          (cases_eq k u);
      low = λ l lt. let z : tail_in links l < u = below l lt in omega arith;
    }

pub starts-from_begun : (links : List Link) (starts : List ℕ) (nodes u next : ℕ) → AreBegun links starts u next → u ≡ nodes + 1 → AreStarts nodes links starts
starts-from_begun links starts nodes u next b e = record {
  long = b.long ∙ e;
  inside = λ k le. b.inside k (omega arith);
  from = λ k l le within at. b.from k l (omega arith) within at;
  to = λ k l le within at. b.to k l (omega arith) within at;
}

-- what two starts say
pub holds-from_starts : (g : Graph) (starts : List ℕ) (u : ℕ) → AreStarts (node_count g) g.links starts → u < node_count g → HoldsLinks g u (slice_index starts u) (slice_index starts (u + 1))
holds-from_starts g starts u s within = record {
  ordered = ⊎_elim
      (λ (lt : slice_index starts (u + 1) < slice_index starts u).
      let some : slice_index starts u ≤ link_count g = s.inside u (omega arith) in
      let up : u + 1 ≤ tail g (slice_index starts (u + 1)) = s.from (u + 1) (slice_index starts (u + 1)) (omega arith) (omega arith) (omega arith) in
      let back : slice_index starts u ≤ slice_index starts (u + 1) = s.to u (slice_index starts (u + 1)) (omega arith) (omega arith) (omega arith) in
      absurd (omega arith))
      (λ ge. ge)
      (cases_lt (slice_index starts (u + 1)) (slice_index starts u));
  inside = s.inside (u + 1) (omega arith);
  from = λ l at below.
      let some : slice_index starts (u + 1) ≤ link_count g = s.inside (u + 1) (omega arith) in
      let low : u ≤ tail g l = s.from u l (omega arith) (omega arith) at in
      ⊎_elim
      (λ (lt : u < tail g l). let z : slice_index starts (u + 1) ≤ l = s.to (u + 1) l (omega arith) (omega arith) (omega arith) in absurd (omega arith))
      (λ ge. omega arith)
      (cases_lt u (tail g l));
  to = λ l inside e. (
    s.to u l (omega arith) inside (omega arith),
    ⊎_elim
        (λ lt. lt)
        (λ ge. let z : u + 1 ≤ tail g l = s.from (u + 1) l (omega arith) inside ge in absurd (omega arith))
        (cases_lt l (slice_index starts (u + 1))),
  );
}
