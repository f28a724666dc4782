use Rattle.std.proofs.Common.{arith, get_or}
use Rattle.std.specs.Int.{trailing_zeros}
use mir.Syntax.{w64}
use Rattle.sr_lanes.specs.declared.words.NodeBits.{NodeBits}
use Rattle.sr_lanes.specs.Bits.{is_in}
use Rattle.sr_lanes.proofs.WordLemmas.{least-told, word-without}
use Rattle.sr_lanes.proofs.words.NodeBits.take_from.Goals as goal

pub returns-clause-first : goal.returns-clause-first
unfolding is_in
returns-clause-first c =
    let set : NodeBits = c.args.self.now in
    let told = least-told set.words c.args.k c.requires.none set.whole c.requires.some in
    let lt = told.0 in
    record {
      within = omega (arith, lt, c.requires.k);
      member = told.1;
      least = told.2;
    }

pub returns-clause-left : goal.returns-clause-left
unfolding is_in
returns-clause-left c =
    let set : NodeBits = c.args.self.now in
    let told = least-told set.words c.args.k c.requires.none set.whole c.requires.some in
    λ v. word-without set.words c.args.k (trailing_zeros w64 (get_or set.words c.args.k 0)) set.whole c.requires.k told.0 v
