use Rattle.std.proofs.Common.{◌≡◌, ◌≤◌, All, vec_len, vec_capacity}
use Rattle.sr_store.specs.Seats.{IsSeat, SeatsFrom}
use Rattle.sr_store.proofs.opening.seat_readers.Given as goal

abbrev pub invariant-loop-number : goal.invariant-loop-number
invariant-loop-number g l = record {
  list : l.writer.list ≡ l.fn.writer.list;
  stuck : l.writer.stuck ≡ l.fn.writer.stuck;
  readers : All (IsSeat l.fn.writer.list) l.readers.items;
  seats : SeatsFrom l.fn.writer.list.store 0 l.readers.items;
  count : vec_len l.readers ≡ l.number;
  room : l.places ≤ vec_capacity l.readers;
  places : l.number ≤ l.places;
}
