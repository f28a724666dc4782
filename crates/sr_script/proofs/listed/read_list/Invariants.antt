-- the words so far gave the values, and the others follow
use Rattle.std.proofs.Common.{◌≡◌, ◌++◌, length, map, Some}
use Rattle.sr_script.specs.Words.{words}
use Rattle.sr_script.proofs.listed.read_list.Given as goal

abbrev pub invariant-loop-count : goal.invariant-loop-count
invariant-loop-count g l = record {
  given : map g.T.Listed.given (words l.text) ≡ map Some l.values.items ++ map g.T.Listed.given (words l.rest);
  count : length l.values.items ≡ l.count;
}
