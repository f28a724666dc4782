use Rattle.std.proofs.Common.{ℕ, ◌*◌, ◌&&◌, ◌/◌, arith}
use lib.Dec.{ltb}
use Rattle.std.proofs.lemmas.Bool.{le-ltb, and_left}
use Rattle.sr_lanes.specs.Bits.{is_in}
use Rattle.sr_lanes.proofs.RunLemmas.{tells-words, groups-told}
use Rattle.sr_lanes.proofs.place_test.in_groups.Goals as goal

pub returns : goal.returns
unfolding is_in
returns g c =
    let test = g.T.PlaceTest.test c.args.test.now in
    let groups : ℕ = g.T.PlaceTest.count c.args.test.now / 8 in
    tells-words (λ v. ltb v (groups * 8) && test v) c.word_of.result c.word_of-2.result c.word_of-3.result c.word_of-4.result
    (groups-told test groups 0 0 c.min.result c.word_of.result (omega arith) (omega arith) c.word_of.ensures)
    (groups-told test groups 8 64 c.min-2.result c.word_of-2.result (omega arith) (omega arith) c.word_of-2.ensures)
    (groups-told test groups 16 128 c.min-3.result c.word_of-3.result (omega arith) (omega arith) c.word_of-3.ensures)
    (groups-told test groups 24 192 c.min-4.result c.word_of-4.result (omega arith) (omega arith) c.word_of-4.ensures)
    (λ v le. and_left (ltb v (groups * 8)) (test v) (le-ltb v (groups * 8) (omega arith)))
