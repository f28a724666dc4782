use Rattle.sr_post.proofs.DangerLemmas.{AreLosingAmong}
use Rattle.sr_post.proofs.kept.losing.Given as goal

abbrev pub invariant-loop-link : goal.invariant-loop-link
invariant-loop-link l = AreLosingAmong l.spaces.graph l.spaces.failed l.fn.source.0 l.link-items l.link-index l.losing
