use Rattle.std.proofs.Common.{◌≡◌, ◌-◌, ◌≤◌, ◌++◌, Ok}
use Rattle.std.specs.List.{range_with_len}
use Rattle.sr_threads.specs.Taking.{AreDone, numbers_of}
use Rattle.sr_threads.proofs.taking.do_some.Given as goal

-- what was done so far, and the numbers of it
abbrev pub invariant-loop-number : goal.invariant-loop-number
invariant-loop-number g l = AreDone (λ i made. g.F.Fn.post l.fn.f (i, tt) (Ok made)) l.fn.count l.done.items
    × (numbers_of l.done.items ≡ numbers_of l.fn.done.items ++ range_with_len l.fn.begin (l.number - l.fn.begin))
    × (l.fn.begin ≤ l.number)
    × (l.number - l.fn.begin ≤ l.fn.end - l.fn.begin)
