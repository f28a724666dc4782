use Rattle.std.proofs.Common.{◌≡◌, ℕ, ◌<◌, ◌≤◌, ◌-◌, ◌/◌, length}
use Rattle.sr_graph.specs.Holdings.{AreJoined}
use Rattle.sr_graph.proofs.SharingLemmas.{ArePartedAt}
use Rattle.sr_graph.proofs.sharing.joined.Given as goal

abbrev pub invariant-loop-start : goal.invariant-loop-start
invariant-loop-start l = record {
  within : l.start ≤ length l.list;
  long : length l.sets.items ≡ l.links;
  room : (k : ℕ) → k < l.links → k / 64 < length l.common;
  joined : AreJoined l.list l.start l.sets.items;
  parted : ArePartedAt l.list l.start;
}

abbrev pub decreases-loop-start : goal.decreases-loop-start
decreases-loop-start l = length l.list - l.start
