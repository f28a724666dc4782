use Rattle.std.proofs.Common.{◌≡◌, ◌<◌, ◌+◌, ◌-◌, ◌^◌, min, drop}
use Rattle.sr_store.specs.Closes.{turns_of}
use Rattle.sr_store.proofs.closing.turns_of_all.Given as goal

abbrev pub invariant-loop-reader : goal.invariant-loop-reader
invariant-loop-reader g l = record {
  bound : l.turns < 2 ^ 64;
  sum : min (l.turns + turns_of (drop l.reader-index l.readers.items)) (2 ^ 64 - 1) ≡ min (turns_of l.readers.items) (2 ^ 64 - 1);
}
