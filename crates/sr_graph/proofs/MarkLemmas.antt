-- Overloaded nodes, tested one by one, and what marking them keeps.
use Rattle.std.proofs.Common.{◌≡◌, ◌≢◌, ◌↔◌, ℕ, ◌+◌, ◌<◌, ⊎_elim, Bool, true, List, [], ◌∷◌, ◌++◌, length, refl, arith, sym, ◌∙◌, subst}
use Rattle.std.specs.Prelude.{slice_index, Contains}
use Rattle.std.proofs.lemmas.Bool.{cases_eq}
use Rattle.std.proofs.lemmas.List.{length-append, get_or_push, get_or_append_left}
use Rattle.sr_model.specs.declared.link.Link.{Link}
use Rattle.sr_model.specs.declared.link.LinkNo.{LinkNo}
use Rattle.sr_model.specs.Graph.{has}
use Rattle.sr_graph.specs.declared.edges.Edge.{Edge}
use Rattle.sr_graph.specs.Built.{IsLaidOut}

-- the first n systems are tested
pub record AreMarksBelow (systems overloaded : List ℕ) (tests : List Bool) (n : ℕ) : Type 0 where
  pub long : length tests ≡ n
  pub each : (v : ℕ) → v < n → (has tests v ≡ true) ↔ Contains overloaded (slice_index systems v)

module _ (systems overloaded : List ℕ) where
  pub marks-none : AreMarksBelow systems overloaded [] 0
  marks-none = record { long = refl; each = λ v lt. absurd (omega arith) }

  pub marks-more : (tests : List Bool) (n : ℕ) (test : Bool) → AreMarksBelow systems overloaded tests n → (test ≡ true) ↔ Contains overloaded (slice_index systems n) → AreMarksBelow systems overloaded (tests ++ test ∷ []) (n + 1)
  marks-more tests n test k here = record {
    long = length-append tests (test ∷ []) ∙ omega (arith, k.long);
    each = λ v lt. ⊎_elim
        (λ (e : v ≡ n).
        let P : ℕ → Type 0 = λ j. (has (tests ++ test ∷ []) j ≡ true) ↔ Contains overloaded (slice_index systems j) in
        let Q : Bool → Type 0 = λ b. (b ≡ true) ↔ Contains overloaded (slice_index systems n) in
        subst P (sym e) (subst Q (sym (get_or_push tests test _ n k.long)) here))
        (λ (ne : v ≢ n).
        let before : v < n = omega arith in
        let Q : Bool → Type 0 = λ b. (b ≡ true) ↔ Contains overloaded (slice_index systems v) in
        subst Q (sym (get_or_append_left tests (test ∷ []) _ v (omega (arith, k.long)))) (k.each v before))
        (cases_eq v n);
  }

-- other tests change nothing else that is kept
pub laid_out-marked : (systems : List ℕ) (links : List Link) (groups : List (List ℕ)) (before after : List Bool) (edges : List Edge) (places : List ℕ) (lists : List (List LinkNo)) (sets : List (List ℕ))
    → IsLaidOut (record { systems = systems; links = links; groups = groups; overloaded = before }) edges places lists sets
    → IsLaidOut (record { systems = systems; links = links; groups = groups; overloaded = after }) edges places lists sets
laid_out-marked systems links groups before after edges places lists sets k = record {
  graph = record { few_nodes = k.graph.few_nodes; few_links = k.graph.few_links; each = k.graph.each; by_tail = k.graph.by_tail };
  named = record { ascending = k.named.ascending; ends = k.named.ends; keys = k.named.keys };
  grouped = record { long = k.grouped.long; ascending = k.grouped.ascending; pairs = k.grouped.pairs };
  edges = k.edges;
  starts = k.starts;
  incoming = record {
    long = k.incoming.long;
    each = λ v within. let ends = k.incoming.each v within in record { each = ends.each; all = ends.all; ascending = ends.ascending };
  };
  sharing = k.sharing;
}
