use Rattle.std.proofs.Common.{◌+◌, ◌/◌, ◌&&◌, arith, ap, refl}
use Rattle.std.proofs.lemmas.List.{get_or_past}
use Rattle.sr_lanes.specs.Bits.{is_in}
use Rattle.sr_lanes.specs.Passes.{is_tight}
use Rattle.sr_lanes.proofs.AmongLemmas.{among-told, word-told}
use Rattle.sr_lanes.proofs.RunLemmas.{tells-words}
use Rattle.sr_lanes.proofs.WordLemmas.{tells, tells-none}
use Rattle.sr_lanes.proofs.passes.tight_among.Goals as goal

pub tight_of_word-requires-clause-among : goal.tight_of_word-requires-clause-among
unfolding is_in
tight_of_word-requires-clause-among c = λ i lt is. c.requires.among (0 + i) (word-told c.args.among.words 0 0 i (omega arith) lt is)

pub tight_of_word-requires-2-clause-among : goal.tight_of_word-requires-2-clause-among
unfolding is_in
tight_of_word-requires-2-clause-among c = λ i lt is. c.requires.among (64 + i) (word-told c.args.among.words 1 64 i (omega arith) lt is)

pub tight_of_word-requires-3-clause-among : goal.tight_of_word-requires-3-clause-among
unfolding is_in
tight_of_word-requires-3-clause-among c = λ i lt is. c.requires.among (128 + i) (word-told c.args.among.words 2 128 i (omega arith) lt is)

pub tight_of_word-requires-4-clause-among : goal.tight_of_word-requires-4-clause-among
unfolding is_in
tight_of_word-requires-4-clause-among c = λ i lt is. c.requires.among (192 + i) (word-told c.args.among.words 3 192 i (omega arith) lt is)

pub returns : goal.returns
unfolding is_in
returns c =
    let xs = c.args.among.words in
    let test = is_tight c.args.row.now c.args.cost c.args.base.now in
    tells-words (λ v. tells xs v && test v) c.tight_of_word.result c.tight_of_word-2.result c.tight_of_word-3.result c.tight_of_word-4.result
    (among-told xs test 0 0 _ c.tight_of_word.result (omega arith) refl (omega arith) c.tight_of_word.ensures)
    (among-told xs test 1 64 _ c.tight_of_word-2.result (omega arith) refl (omega arith) c.tight_of_word-2.ensures)
    (among-told xs test 2 128 _ c.tight_of_word-3.result (omega arith) refl (omega arith) c.tight_of_word-3.ensures)
    (among-told xs test 3 192 _ c.tight_of_word-4.result (omega arith) refl (omega arith) c.tight_of_word-4.ensures)
    (λ v le. ap (λ t. t && test v) (tells-none xs v (get_or_past xs (v / 64) 0 (let four = c.args.among.whole.four in omega (arith, le, four)))))
