-- What lists of nodes keep.
use Rattle.std.proofs.Common.{◌≡◌, ◌≢◌, ℕ, ◌+◌, ◌<◌, ◌≤◌, ⊎_elim, List, [], ◌∷◌, ◌++◌, length, refl, arith, ap, sym, ◌∙◌, subst, get_or}
use Rattle.std.specs.Prelude.{Contains}
use Rattle.std.proofs.lemmas.Bool.{cases_eq, cases_lt}
use Rattle.std.proofs.lemmas.List.{length-append, get_or_push, get_or_append_left}
use Rattle.std.proofs.lemmas.List.Elements.{Contains-get_or}
use Rattle.sr_model.specs.declared.link.NodeNo.{NodeNo}
use Rattle.sr_spf.specs.Nodes.{listed_at, AreThose}

-- what stands for a node past the end of a list
abbrev pub no_node : NodeNo
no_node = record { 0 = 0 }

-- there is none below 0
pub those-none : (P : ℕ → Type 0) → AreThose P 0 []
those-none P = record { ascending = λ i j up lt. absurd (omega arith); each = λ i lt. absurd (omega arith); all = λ d lt a. absurd (omega arith) }

-- one more, which has the property
pub those-push : (P : ℕ → Type 0) (v : NodeNo) (nodes : List NodeNo) → AreThose P v.0 nodes → P v.0 → AreThose P (v.0 + 1) (nodes ++ v ∷ [])
those-push P v nodes r is =
    let long : length (nodes ++ v ∷ []) ≡ length nodes + 1 = length-append nodes (v ∷ []) in
    let old : (i : ℕ) → i < length nodes → listed_at (nodes ++ v ∷ []) i ≡ listed_at nodes i = λ i lt. ap (λ (k : NodeNo). k.0) (get_or_append_left nodes (v ∷ []) no_node i lt) in
    let last : listed_at (nodes ++ v ∷ []) (length nodes) ≡ v.0 = ap (λ (k : NodeNo). k.0) (get_or_push nodes v no_node (length nodes) refl) in
    record {
      ascending = λ i j up lt. ⊎_elim
          (λ (early : j < length nodes). let low : listed_at nodes i < listed_at nodes j = r.ascending i j up early in omega (arith, old i (omega arith), old j early))
          (λ (late : length nodes ≤ j).
          let at : j ≡ length nodes = omega arith in
          let low : listed_at nodes i < v.0 = (r.each i (omega arith)).0 in
          let here : listed_at (nodes ++ v ∷ []) j ≡ v.0 = ap (λ k. listed_at (nodes ++ v ∷ []) k) at ∙ last in
          omega (arith, old i (omega arith)))
          (cases_lt j (length nodes));
      each = λ i lt. ⊎_elim
          (λ (early : i < length nodes). (
            (let low : listed_at nodes i < v.0 = (r.each i early).0 in omega (arith, old i early)),
            subst P (sym (old i early)) (r.each i early).1,
          ))
          (λ (late : length nodes ≤ i).
          let at : i ≡ length nodes = omega arith in
          let here : listed_at (nodes ++ v ∷ []) i ≡ v.0 = ap (λ k. listed_at (nodes ++ v ∷ []) k) at ∙ last in
          (omega arith, subst P (sym here) is))
          (cases_lt i (length nodes));
      all = λ d lt a. ⊎_elim
          (λ (here : d ≡ v.0). (length nodes, omega arith, last ∙ sym here))
          (λ (ne : d ≢ v.0). let q = r.all d (omega arith) a in (q.0, (let below : q.0 < length nodes = q.1 in omega arith), old q.0 q.1 ∙ q.2))
          (cases_eq d v.0);
    }

-- none up to here has it
pub those-up : (P : ℕ → Type 0) (m n : ℕ) (nodes : List NodeNo) → AreThose P m nodes → m ≤ n → ((v : ℕ) → m ≤ v → v < n → P v → ⊥) → AreThose P n nodes
those-up P m n nodes r le none = record {
  ascending = r.ascending;
  each = λ j lt. ((let low : listed_at nodes j < m = (r.each j lt).0 in omega arith), (r.each j lt).1);
  all = λ u lt is. ⊎_elim
      (λ (low : u < m). r.all u low is)
      (λ (up : m ≤ u). absurd (none u up lt is))
      (cases_lt u m);
}

-- a node that is listed stands in the list
pub listed-contains : (P : ℕ → Type 0) (m : ℕ) (nodes : List NodeNo) (v : ℕ) → AreThose P m nodes → v < m → P v → Contains nodes (record { 0 = v })
listed-contains P m nodes v those lt is =
    let at = those.all v lt is in
    let same : get_or nodes at.0 (record { 0 = 0 }) ≡ record { 0 = v } = ap (λ k. record { 0 = k }) at.2 in
    subst (λ (node : NodeNo). Contains nodes node) same (Contains-get_or nodes at.0 (record { 0 = 0 }) at.1)
