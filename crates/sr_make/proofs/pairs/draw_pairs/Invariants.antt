use Rattle.std.proofs.Common.{◌≡◌, ◌+◌, ◌++◌, drop}
use Rattle.sr_make.specs.Pairs.{drawn_pairs}
use Rattle.sr_make.proofs.pairs.draw_pairs.Given as goal

-- the pairs so far, with those that the further draws give, are all of them
abbrev pub invariant-loop-place : goal.invariant-loop-place
invariant-loop-place l = l.pairs.items ++ drawn_pairs l.draws.state (l.place + 1) (drop l.place l.spans) ≡ drawn_pairs l.fn.start 1 l.fn.spans
