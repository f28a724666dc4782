use Rattle.std.proofs.Common.{◌≡◌, false}
use Rattle.sr_line_checks.proofs.tests.echo.echo_all.Given as goal

abbrev pub invariant-steps : goal.invariant-steps
invariant-steps g l = l.script.lent ≡ false
