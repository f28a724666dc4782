-- How sets of nodes are told one node at a time.
use Rattle.std.proofs.Common.{◌≡◌, ◌≢◌, ℕ, ◌+◌, ◌<◌, ⊎_elim, Bool, true, false, ◌↔◌, arith, ap, sym, ◌∙◌, subst, eq-eqb}
use Rattle.std.specs.Prelude.{◌==◌, ◌||◌, ◌&&◌, not, nat_lt, if◌then◌else◌}
use Rattle.std.proofs.lemmas.Bool.{cases_eq, ne_eqb, lt-ltb}
use Rattle.sr_lanes.specs.declared.words.NodeBits.{NodeBits}
use Rattle.sr_lanes.specs.Bits.{is_in}
use Rattle.sr_laws.proofs.Parts.{true_or}
use Rattle.sr_delta.specs.Alike.{IsSetOf}

-- no node lies below 0
pub those-none : (p : ℕ → Type 0) (set : NodeBits) → ((v : ℕ) → is_in set v ≡ false) → IsSetOf p 0 set
those-none p set none = record { each = λ v lt. absurd (omega arith); above = λ v le. none v }

-- one more node
pub those-put : (p : ℕ → Type 0) (v : ℕ) (set after : NodeBits) (b : Bool) → IsSetOf p v set → ((u : ℕ) → is_in after u ≡ (if u == v then (is_in set u || b) else is_in set u)) → (b ≡ true) ↔ p v → IsSetOf p (v + 1) after
those-put p v set after b r put is =
    let other : (u : ℕ) → u ≢ v → is_in after u ≡ is_in set u =
    λ u ne. put u ∙ ap (λ t. if t then (is_in set u || b) else is_in set u) (ne_eqb u v ne) in
    record {
      each = λ u lt. ⊎_elim
          (λ (e : u ≡ v).
          let here : is_in after u ≡ b = put u ∙ ap (λ t. if t then (is_in set u || b) else is_in set u) (eq-eqb u v e) ∙ ap (λ t. t || b) (r.above u (omega arith)) in
          (λ h. subst p (sym e) (is.0 (sym here ∙ h)), λ q. here ∙ is.1 (subst p e q)))
          (λ (ne : u ≢ v).
          let old = r.each u (omega arith) in
          (λ h. old.0 (sym (other u ne) ∙ h), λ q. other u ne ∙ old.1 q))
          (cases_eq u v);
      above = λ u le. other u (λ e. omega arith) ∙ r.above u (omega arith);
    }

-- where no number below is missing from the set, it has each
pub none-missing : (all set rest : NodeBits) (count : ℕ) → ((v : ℕ) → is_in all v ≡ nat_lt v count) → ((v : ℕ) → is_in rest v ≡ (is_in all v && not (is_in set v))) → ((v : ℕ) → is_in rest v ≡ false) → (v : ℕ) → v < count → is_in set v ≡ true
none-missing all set rest count below minus none v lt =
    ⊎_elim
    (λ yes'. yes')
    (λ no'.
    let left : is_in rest v ≡ true = minus v ∙ ap (λ a. a && not (is_in set v)) (below v ∙ lt-ltb v count lt) ∙ ap (λ b. true && not b) no' in
    absurd (let bad : false ≡ true = sym (none v) ∙ left in cc))
    (true_or (is_in set v))
