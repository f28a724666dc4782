-- the lines of the answers so far stand behind, and the list that is kept is that of each answer of its code
use Rattle.std.proofs.Common.{◌≡◌, ◌<◌, ℕ, length, take, slice_index, Some}
use Rattle.sr_encode.specs.Answered.{answer_at}
use Rattle.sr_print.specs.Answers.{IsWayOf, PutsItemsFor}
use Rattle.sr_print.proofs.answers.put_lines.Given as goal

abbrev pub invariant-loop-place : goal.invariant-loop-place
invariant-loop-place l = record {
  puts : PutsItemsFor l.net l.case (take l.place l.answers) l.fn.out.items l.out.items;
  way : (k i : ℕ) → l.way.code ≡ Some k → i < length l.answers → slice_index l.codes i ≡ k → IsWayOf l.net (answer_at l.answers i) l.way.octets.items;
}
