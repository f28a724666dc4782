use Rattle.std.proofs.Common.{◌≡◌, ℕ}
use Rattle.sr_graph.specs.Ranges.{HoldsLinks}
use Rattle.sr_lanes.specs.Bits.{member_count}
use Rattle.sr_encode.specs.Collected.{IsCollected}
use Rattle.sr_encode.specs.Kept.{AreKeptWithin, entries}
use Rattle.sr_encode.proofs.AnswerLemmas.{AreListedBut}
use Rattle.sr_encode.proofs.repairs.kept_lists.Given as goal

-- what is listed so far, and what was collected for it
abbrev pub invariant-left : goal.invariant-left
invariant-left l = record {
  queue : l.collected.queue.now ≡ l.found.queue.items;
  start : (end : ℕ) × HoldsLinks l.net.graph l.fn.source.0 l.collected.start.0 end;
  collected : IsCollected l.collected;
  listed : AreListedBut l.net l.failed l.fn.source.0 l.fn.wanted l.left (entries l.collected.segments.items l.collected.outcomes.items l.kept.items l.collected.start.0);
  within : AreKeptWithin l.collected.segments.items l.collected.outcomes.items l.kept.items;
}

abbrev pub decreases-left : goal.decreases-left
decreases-left l = member_count l.left
