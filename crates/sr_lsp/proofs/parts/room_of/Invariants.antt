-- no kind has more parts than there were so far
use Rattle.std.proofs.Common.{◌≤◌}
use Rattle.sr_lsp.proofs.parts.room_of.Given as goal

abbrev pub invariant-loop-part : goal.invariant-loop-part
invariant-loop-part l = record {
  reaches : l.room.reaches ≤ l.part-index;
  prefixes : l.room.prefixes ≤ l.part-index;
  names : l.room.names ≤ l.part-index;
  risks : l.room.risks ≤ l.part-index;
  capabilities : l.room.capabilities ≤ l.part-index;
}
