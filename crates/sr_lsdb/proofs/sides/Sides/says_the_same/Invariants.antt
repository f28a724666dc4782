use Rattle.std.proofs.Common.{ℕ, ◌<◌, get_or}
use Rattle.sr_lsdb.specs.declared.touched.Touched.{Touched}
use Rattle.sr_lsdb.specs.Alike.{IsAlikeAt}
use Rattle.sr_lsdb.proofs.sides.Sides.says_the_same.Given as goal

abbrev pub invariant-loop-name : goal.invariant-loop-name
invariant-loop-name l = (k : ℕ) (d : Touched) → k < l.name-index → IsAlikeAt (get_or l.self.touched.items k d) l.self.front l.self.back
