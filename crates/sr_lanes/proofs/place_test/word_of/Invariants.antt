use Rattle.std.proofs.Common.{◌*◌}
use Rattle.sr_lanes.specs.Tests.{AreBitsOf}
use Rattle.sr_lanes.proofs.place_test.word_of.Given as goal

abbrev pub invariant-loop-group : goal.invariant-loop-group
invariant-loop-group g l = AreBitsOf (g.T.PlaceTest.test l.test) l.from (8 * l.group) l.word
