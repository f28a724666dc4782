use Rattle.std.proofs.Common.{◌≡◌, ◌+◌, false}
use Rattle.sr_store.specs.Lists.{EndsWith}
use Rattle.sr_line_checks.specs.declared.tests.stamps.Stamp.{Stamp}
use Rattle.sr_line_checks.proofs.tests.watch.publish_on.Given as goal

abbrev pub invariant-loop-past : goal.invariant-loop-past
invariant-loop-past g l = record {
  free : l.writer.stuck ≡ false;
  last : (v : Stamp) → EndsWith l.writer.list.versions v → v.number ≡ l.last + l.past;
}
