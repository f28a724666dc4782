use Rattle.sr_why.specs.Whole.{AreLinkKeys}
use Rattle.sr_why.proofs.keys.link_keys.Given as goal

abbrev pub invariant-loop-link : goal.invariant-loop-link
invariant-loop-link l = AreLinkKeys l.graph l.link l.keys.items
