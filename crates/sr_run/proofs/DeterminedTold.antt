-- When two tellings are told alike.
use Rattle.std.proofs.Common.{◌≡◌, ℕ, refl, sym, ap, ◌∙◌}
use Rattle.sr_print.specs.declared.refusal.Refusal.{Refusal}
use Rattle.sr_print.specs.Told.{Told, spelled, is_refusal}
use Rattle.sr_print.specs.Told.Told.{Refused}
use Rattle.sr_run.specs.Domain.{Domain}
use Rattle.sr_run.specs.Edits.{Refuses}
use Rattle.sr_run.specs.Questions.{IsRefused}

-- both are spelled the same at every line, and both are refusals or neither is
pub record AreAlike (a b : Told) : Type 0 where
  pub text : (number : ℕ) → spelled number a ≡ spelled number b
  pub refusal : is_refusal a ≡ is_refusal b

-- and the states after them are the same
pub record AreOne (a b : Told) (new next : Domain) : Type 0 where
  pub told : AreAlike a b
  pub state : new ≡ next

-- what is the same is told alike
pub alike : (a b x y : Told) → a ≡ x → b ≡ y → x ≡ y → AreAlike a b
alike a b x y p q e =
    let same : a ≡ b = p ∙ e ∙ sym q in
    record { text = λ number. ap (spelled number) same; refusal = ap is_refusal same }

-- one reason is told alike
pub alike-refused : (a b : Told) (reason : Refusal) → IsRefused a reason → IsRefused b reason → AreAlike a b
alike-refused a b reason p q = alike a b (Refused reason) (Refused reason) p q refl

-- a refusal that changes nothing is told alike
pub one-refused : (old : Domain) (a b : Told) (new next : Domain) (reason : Refusal) → Refuses old a new reason → Refuses old b next reason → AreOne a b new next
one-refused old a b new next reason p q = record { told = alike-refused a b reason p.0 q.0; state = p.1 ∙ sym q.1 }
