use Rattle.std.proofs.Common.{◌≡◌, ℕ, ◌+◌, ◌-◌, ◌/◌, List, [], length, sym, subst, arith}
use Rattle.sr_wire.specs.Octets.{number}
use Rattle.sr_wire.proofs.NumberLemmas.{NumbersSoFar, all_numbers, no_numbers, one_number}
use Rattle.sr_wire.proofs.numbers.read_numbers.Goals as goal

pub loop-at-init : goal.loop-at-init
loop-at-init c =
    let P : List ℕ → Type 0 = λ ns. NumbersSoFar c.args.value.now c.args.from c.args.from ns in
    let none : c.in_ok-numbers.numbers ≡ [] = c.in_ok-numbers.ensures in
    record { numbers = subst P (sym none) (no_numbers c.args.value.now c.args.from); whole = ((length c.args.value.now - c.args.from) / 4, omega arith) }

pub returns : goal.returns
returns c = all_numbers c.args.value.now c.loop-at.numbers c.args.from c.loop-at.at c.loop-at.invariant.numbers c.loop-at-test.false

pub loop-at-preserved : goal.loop-at-preserved
loop-at-preserved c =
    let value = c.args.value.now in
    let whole = c.loop-at.invariant.whole in
    let one : c.u32_at.result ≡ number value c.loop-at.at 4 = c.u32_at.ensures in
    let P : List ℕ → Type 0 = λ ns. NumbersSoFar value c.args.from (c.loop-at.at + 4) ns in
    record {
      numbers = subst P (sym {A = List ℕ} c.in_ok-push.ensures.ok)
          (one_number value c.loop-at.numbers c.args.from c.loop-at.at c.u32_at.result c.loop-at.invariant.numbers (omega (arith, whole.1)) one);
      whole = (whole.0 - 1, omega (arith, whole.1));
    }
