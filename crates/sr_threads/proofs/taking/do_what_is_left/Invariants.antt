use Rattle.std.proofs.Common.{Ok}
use Rattle.sr_threads.specs.Taking.{AreDone}
use Rattle.sr_threads.proofs.taking.do_what_is_left.Given as goal

-- what was done so far
abbrev pub invariant-loop : goal.invariant-loop
invariant-loop g l = AreDone (λ i made. g.F.Fn.post l.fn.f (i, tt) (Ok made)) l.fn.count l.done.items
