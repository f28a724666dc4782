-- Tests that tell a fact, and facts that are told step by step.
use Rattle.std.proofs.Common.{◌≡◌, ℕ, Bool, true, false, refl}
use Rattle.std.specs.Prelude.{IsTrue, ◌↔◌, ◌==◌}
use Rattle.std.proofs.Common.{eq-eqb}
use Rattle.std.proofs.lemmas.Bool.{eqb-true}

-- a test that fails, where the fact doesn't hold
pub refused : {A : Type 0} → (A → ⊥) → IsTrue false ↔ A
refused none = (λ no. absurd {0} (cc), λ a. absurd {0} (none a))

-- a test that succeeds, where it does
pub granted : {A : Type 0} → A → IsTrue true ↔ A
granted a = (λ _. a, λ _. refl)

pub holds : {A : Type 0} (b : Bool) → IsTrue b ↔ A → b ≡ true → A
holds b test is = test.0 is

pub lacks : {A : Type 0} (b : Bool) → IsTrue b ↔ A → b ≡ false → A → ⊥
lacks b test is a = let yes : b ≡ true = test.1 a in absurd {0} (cc)

pub both-ways : {A B C : Type 0} → A ↔ B → B ↔ C → A ↔ C
both-ways f g = (λ a. g.0 (f.0 a), λ c. f.1 (g.1 c))

pub turned : {A B : Type 0} → A ↔ B → B ↔ A
turned f = (f.1, f.0)

-- what is left says the whole; where its first part holds, the rest does
pub goes-on : {A B C W : Type 0} → A ↔ (B × C) → A ↔ W → B → C ↔ W
goes-on split whole b = (λ c. whole.0 (split.1 (b, c)), λ w. (split.0 (whole.1 w)).1)

-- where it doesn't hold, the whole doesn't
pub stops-here : {A B C W : Type 0} → A ↔ (B × C) → A ↔ W → (B → ⊥) → W → ⊥
stops-here split whole none w = none ((split.0 (whole.1 w)).0)

-- the test of two numbers
pub told-equal : (a b : ℕ) → IsTrue (a == b) ↔ (a ≡ b)
told-equal a b = (λ yes. eqb-true a b yes, λ e. eq-eqb a b e)
