use Rattle.sr_lanes.specs.Bits.{member_count}
use Rattle.sr_post.proofs.KeptHopLemmas.{AreHopsBut}
use Rattle.sr_post.proofs.kept.keep_singly.Given as goal

abbrev pub invariant-untried : goal.invariant-untried
invariant-untried l = AreHopsBut l.spaces.graph l.spaces.failed l.fn.source.0 l.fn.endangered l.untried l.hops

abbrev pub decreases-untried : goal.decreases-untried
decreases-untried l = member_count l.untried
