use Rattle.sr_rules.proofs.LinksLemmas.{KeysAscendBelow}
use Rattle.sr_rules.proofs.links.first_repeated.Given as goal

abbrev pub invariant-loop-i : goal.invariant-loop-i
invariant-loop-i l = KeysAscendBelow l.links l.i
