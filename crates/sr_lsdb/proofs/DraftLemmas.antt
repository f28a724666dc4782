-- What an editor keeps when an edit is staged.
use Rattle.std.proofs.Common.{◌≡◌, ℕ, ◌+◌, ◌<◌, ◌==◌, false, arith, ap, subst, sym, ◌∙◌}
use Rattle.std.proofs.lemmas.Bool.Decides.{nat_tests}
use Rattle.sr_lsdb.specs.declared.sides.Sides.{Sides}
use Rattle.sr_lsdb.specs.Draft.{AreSteadySides}
use Rattle.sr_lsdb.specs.Edit.{Edit, IsEditInRange, apply}
use Rattle.sr_lsdb.specs.Facts.{AreInRange}
use Rattle.sr_lsdb.specs.Sides.{IsNoted, latest}
use Rattle.sr_lsdb.proofs.RangeLemmas.{AreInRange-apply}

not_none : (staged : ℕ) → (staged + 1 == 0) ≡ false
not_none staged = grind (arith, nat_tests)

pub latest-draft : (staged : ℕ) (sides : Sides) → latest (staged + 1 == 0) sides ≡ sides.back
latest-draft staged sides = ap (λ idle. latest idle sides) (not_none staged)

pub AreSteadySides-staged : (edit : Edit) (old new : Sides) (staged : ℕ) → IsEditInRange edit → AreSteadySides old staged → staged < 4096 → new.front ≡ old.front → IsNoted new → new.back ≡ apply edit (latest (staged == 0) old) → AreSteadySides new (staged + 1)
AreSteadySides-staged edit old new staged fits kept room front noted back = record {
  steady = record {
    accepted = subst AreInRange (sym front) kept.steady.accepted;
    tentative = subst AreInRange (sym (latest-draft staged new ∙ back)) (AreInRange-apply edit (latest (staged == 0) old) fits kept.steady.tentative);
    staged = omega arith;
    idle = λ none. absurd (omega arith);
  };
  noted = noted;
}
