use Rattle.std.proofs.Common.{◌≤◌}
use Rattle.sr_post.proofs.KeptHopLemmas.{AreHopsUpTo}
use Rattle.sr_post.proofs.kept.keep_by_links.Given as goal

abbrev pub invariant-loop-link : goal.invariant-loop-link
invariant-loop-link l = record {
  hops : AreHopsUpTo l.spaces.graph l.spaces.failed l.fn.source.0 l.link l.fn.endangered l.hops;
  first : l.first ≤ l.link;
}
