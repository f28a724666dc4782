use Rattle.std.proofs.Common.{◌≡◌, ◌↔◌, ℕ, length}
use Rattle.sr_graph.specs.Bits.{IsIn}
use Rattle.sr_graph.specs.Holdings.{HasHolder}
use Rattle.sr_graph.proofs.sharing.collect.Given as goal

abbrev pub invariant-loop-place : goal.invariant-loop-place
invariant-loop-place l = record {
  long : length l.set ≡ length l.fn.set;
  links : (n : ℕ) → IsIn l.set n ↔ HasHolder l.list l.start l.place n;
}
