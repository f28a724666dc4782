-- Tests made link by link, and that they are determined.
use Rattle.std.proofs.Common.{◌≡◌, ◌≢◌, ℕ, ◌+◌, ◌<◌, ⊎_elim, Bool, true, false, List, [], ◌∷◌, ◌++◌, length, refl, arith, sym, ◌∙◌, subst}
use Rattle.std.specs.List.{list_any}
use Rattle.std.proofs.lemmas.Bool.{cases_eq}
use Rattle.std.proofs.lemmas.List.{length-append, get_or_push, get_or_append_left, ext_get_or}
use Rattle.sr_model.specs.declared.name.LinkKey.{LinkKey}
use Rattle.sr_model.specs.KeyOrder.{same_key}
use Rattle.sr_model.specs.Graph.{Graph, link_count, has}
use Rattle.sr_model.specs.Case.{key_at}
use Rattle.sr_model.specs.Label.{Net}
use Rattle.sr_laws.proofs.Failures.{test-same}
use Rattle.sr_lsdb.specs.declared.facts.Facts.{Facts}
use Rattle.sr_domain.specs.Announced.{AreKeysOf}
use Rattle.sr_domain.specs.Net.{IsNetOf}
use Rattle.sr_adjprot.specs.Eligible.{AreEligible, IsEligible}
use Rattle.sr_adjprot.specs.Protected.{AreKeysMarked, protected_of}
use Rattle.sr_adjprot.proofs.EligibleLemmas.{eligible-from, eligible-to}

-- the first n links are tested
pub record AreMarkedBelow (g : Graph) (keys : List LinkKey) (tests : List Bool) (n : ℕ) : Type 0 where
  pub long : length tests ≡ n
  pub each : (l : ℕ) → l < n → has tests l ≡ list_any (same_key (key_at g l)) keys

pub marked-none : (g : Graph) (keys : List LinkKey) → AreMarkedBelow g keys [] 0
marked-none g keys = record { long = refl; each = λ l lt. absurd (omega arith) }

pub marked-more : (g : Graph) (keys : List LinkKey) (tests : List Bool) (n : ℕ) (test : Bool) → AreMarkedBelow g keys tests n → test ≡ list_any (same_key (key_at g n)) keys → AreMarkedBelow g keys (tests ++ test ∷ []) (n + 1)
marked-more g keys tests n test k here = record {
  long = length-append tests (test ∷ []) ∙ omega (arith, k.long);
  each = λ l lt. ⊎_elim
      (λ (e : l ≡ n).
      let P : ℕ → Type 0 = λ j. has (tests ++ test ∷ []) j ≡ list_any (same_key (key_at g j)) keys in
      subst P (sym e) (get_or_push tests test _ n k.long ∙ here))
      (λ (ne : l ≢ n).
      let before : l < n = omega arith in
      get_or_append_left tests (test ∷ []) _ l (omega (arith, k.long)) ∙ k.each l before)
      (cases_eq l n);
}

pub marked-all : (g : Graph) (keys : List LinkKey) (tests : List Bool) (n : ℕ) → n ≡ link_count g → AreMarkedBelow g keys tests n → AreKeysMarked g keys tests
marked-all g keys tests n e k = record { long = k.long ∙ e; each = λ l lt. k.each l (omega arith) }

-- the links whose keys are announced with a label of the flag B are those whose labels may be protected
pub marked-eligible : (facts : Facts) (net : Net) (keys : List LinkKey) (tests : List Bool) → IsNetOf facts net → AreKeysOf (protected_of facts) keys → AreKeysMarked net.graph keys tests → AreEligible facts net tests
marked-eligible facts net keys tests is keyed marked = record {
  long = marked.long;
  each = λ l within.
      let told = marked.each l within ∙ keyed.each (key_at net.graph l) in
      ((λ (e : has tests l ≡ true). eligible-from facts net is l within (sym told ∙ e)), (λ (el : IsEligible facts net l). told ∙ eligible-to facts net l el));
}

pub eligible-one : (facts : Facts) (net : Net) (one two : List Bool) → AreEligible facts net one → AreEligible facts net two → one ≡ two
eligible-one facts net one two a b = ext_get_or false one two (a.long ∙ sym b.long) (λ l lt.
    let within : l < link_count net.graph = omega (arith, a.long) in
    test-same (has one l) (has two l) (λ e. (b.each l within).1 ((a.each l within).0 e)) (λ e. (a.each l within).1 ((b.each l within).0 e)))
