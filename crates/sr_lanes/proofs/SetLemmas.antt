-- Sets of nodes as nodes are put in and taken out one by one.
use Rattle.std.proofs.Common.{◌≡◌, ℕ, ◌⊎◌, ⊎_elim, inl, inr, true, false, ◌||◌, ◌==◌, refl, sym, ◌∙◌, subst}
use Rattle.std.proofs.lemmas.Bool.{eq-eqb, eqb-true, cases_eq, or_cases, or_left, or_right, true≢false}
use Rattle.sr_lanes.specs.declared.words.NodeBits.{NodeBits}
use Rattle.sr_lanes.specs.Bits.{is_in, IsWithout}
use Rattle.sr_lanes.proofs.SizeLemmas.{without-other, without-inside}

-- the set with node v
abbrev pub IsWith : NodeBits → ℕ → NodeBits → Type 0
IsWith set v more = (k : ℕ) → is_in more k ≡ (k == v || is_in set k)

pub with-same : (set more : NodeBits) (v : ℕ) → IsWith set v more → is_in more v ≡ true
with-same set more v is = is v ∙ or_left (v == v) (is_in set v) (eq-eqb v v refl)

pub with-old : (set more : NodeBits) (v k : ℕ) → IsWith set v more → is_in set k ≡ true → is_in more k ≡ true
with-old set more v k is e = is k ∙ or_right (k == v) (is_in set k) e

pub with-back : (set more : NodeBits) (v k : ℕ) → IsWith set v more → is_in more k ≡ true
    → (k ≡ v) ⊎ (is_in set k ≡ true)
with-back set more v k is e = ⊎_elim (λ same. inl (eqb-true k v same)) (λ old. inr old) (or_cases (k == v) (is_in set k) (sym (is k) ∙ e))

-- no node is in one and not in the other
pub none_in : (set : NodeBits) (k : ℕ) → ((v : ℕ) → is_in set v ≡ false) → is_in set k ≡ true → ⊥
none_in set k none is = true≢false (sym is ∙ none k)

-- of the nodes of a set, those that aren't left have been sifted: found are those of them for which P holds
pub record AreSifted (P : ℕ → Type 0) (start left found : NodeBits) : Type 0 where
  pub inside : (v : ℕ) → is_in left v ≡ true → is_in start v ≡ true
  pub sound : (v : ℕ) → is_in found v ≡ true → (is_in start v ≡ true) × P v
  pub all : (v : ℕ) → is_in start v ≡ true → P v → (is_in left v ≡ true) ⊎ (is_in found v ≡ true)

module _ (P : ℕ → Type 0) (start : NodeBits) where
  pub sifted-start : (none : NodeBits) → ((v : ℕ) → is_in none v ≡ false) → AreSifted P start start none
  sifted-start none empty = record { inside = λ v is. is; sound = λ v is. absurd (none_in none v empty is); all = λ v is p. inl is }

  -- the least of those left holds P
  pub sifted-found : (left found left' found' : NodeBits) (v : ℕ) → AreSifted P start left found → is_in left v ≡ true
      → IsWithout left left' v → IsWith found v found' → P v → AreSifted P start left' found'
  sifted-found left found left' found' v r is less more p = record {
    inside = λ k e. r.inside k (without-inside left left' v k less e).1;
    sound = λ k e. ⊎_elim
        (λ same. subst (λ j. (is_in start j ≡ true) × P j) (sym same) (r.inside v is, p))
        (λ old. r.sound k old)
        (with-back found found' v k more e);
    all = λ k e q. ⊎_elim
        (λ here. ⊎_elim
        (λ same. inr (subst (λ j. is_in found' j ≡ true) (sym same) (with-same found found' v more)))
        (λ ne. inl (without-other left left' v k less ne ∙ here))
        (cases_eq k v))
        (λ old. inr (with-old found found' v k more old))
        (r.all k e q);
  }

  -- or it doesn't
  pub sifted-passed : (left found left' : NodeBits) (v : ℕ) → AreSifted P start left found → IsWithout left left' v
      → (P v → ⊥) → AreSifted P start left' found
  sifted-passed left found left' v r less fails = record {
    inside = λ k e. r.inside k (without-inside left left' v k less e).1;
    sound = r.sound;
    all = λ k e q. ⊎_elim
        (λ here. ⊎_elim
        (λ same. absurd (fails (subst P same q)))
        (λ ne. inl (without-other left left' v k less ne ∙ here))
        (cases_eq k v))
        (λ old. inr old)
        (r.all k e q);
  }

  -- none are left
  pub sifted-over : (left found : NodeBits) (v : ℕ) → AreSifted P start left found → ((k : ℕ) → is_in left k ≡ false)
      → is_in start v ≡ true → P v → is_in found v ≡ true
  sifted-over left found v r none is p = ⊎_elim (λ here. absurd (none_in left v none here)) (λ there. there) (r.all v is p)
