use Rattle.std.proofs.Common.{◌≡◌, ◌+◌, ◌≤◌, All, length, vec_len, vec_capacity}
use Rattle.sr_store.specs.Closes.{EndedSoFar}
use Rattle.sr_store.proofs.closing.last_turns.Given as goal

abbrev pub invariant-loop-one : goal.invariant-loop-one
invariant-loop-one g l = record {
  store : All (λ r. r.list.store ≡ l.list.store) l.one-iterator.rest.items;
  readers : vec_len l.back + length l.one-iterator.rest.items ≤ vec_capacity l.back;
  room : vec_len l.ended + length l.one-iterator.rest.items ≤ vec_capacity l.ended;
  done : EndedSoFar l.list l.fn.readers.items l.one-iterator.rest.items l.back.items l.ended.items;
}
