use Rattle.std.proofs.Common.{◌≡◌, ◌-◌, ◌<◌, ℕ, ◌++◌, Ok, subst, refl, arith}
use Rattle.std.specs.List.{range_with_len}
use Rattle.std.proofs.lemmas.List.Elements.{All-push}
use Rattle.sr_threads.specs.Taking.{IsDone, AreDone, numbers_of}
use Rattle.sr_threads.proofs.TakingLemmas.{numbers-more}
use Rattle.sr_threads.proofs.taking.do_some.Goals as goal

pub loop-number-preserved : goal.loop-number-preserved
loop-number-preserved g c =
    let Belongs : ℕ → g.row.T.Denot → Type 0 = λ i made. g.F.Fn.post c.args.f.now (i, tt) (Ok made) in
    let within : c.loop-number.number < c.args.count = omega (arith, c.loop-number-test.true, c.requires.numbers) in
    let done : AreDone Belongs c.args.count c.push.new.self.items = rw c.in_ok-push.ensures.items (All-push (IsDone Belongs c.args.count) c.loop-number.done.items _ c.loop-number.invariant.0 (within, c.in_ok-made.ensures)) in
    (done, numbers-more c.args.done.now.items c.loop-number.done.items c.push.new.self.items c.args.begin c.loop-number.number _ c.loop-number.invariant.2 refl c.in_ok-push.ensures.items c.loop-number.invariant.1, omega (arith, c.loop-number.invariant.2), omega (arith, c.loop-number.invariant.2, c.loop-number-test.true))

pub returns-clause-numbers : goal.returns-clause-numbers
returns-clause-numbers g c =
    let count : c.loop-number.number - c.args.begin ≡ c.args.end - c.args.begin = omega (arith, c.loop-number-test.false, c.loop-number.invariant.2, c.loop-number.invariant.3) in
    subst (λ (k : ℕ). numbers_of c.loop-number.done.items ≡ numbers_of c.args.done.now.items ++ range_with_len c.args.begin k) count c.loop-number.invariant.1
