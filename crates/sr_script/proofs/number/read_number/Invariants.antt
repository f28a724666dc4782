use Rattle.std.proofs.Common.{◌≡◌, ◌<◌, ◌+◌, ◌-◌, ◌*◌, ◌^◌, true, take, drop}
use Rattle.std.specs.Prelude.{fold}
use Rattle.std.specs.List.{list_all}
use Rattle.std.specs.Char.{is_ascii_digit}
use Rattle.sr_script.specs.Number.{decimal_value}
use Rattle.sr_script.proofs.number.read_number.Given as goal

abbrev pub invariant-loop-byte : goal.invariant-loop-byte
invariant-loop-byte l = record {
  digits : list_all is_ascii_digit (take l.byte-index l.word) ≡ true;
  small : l.value < 10 ^ l.byte-index;
  whole : fold (λ n byte. n * 10 + (byte - 48)) l.value (drop l.byte-index l.word) ≡ decimal_value l.word;
}
