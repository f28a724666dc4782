use Rattle.std.proofs.Common.{arith}
use Rattle.sr_encode.proofs.CollectLemmas.{gains-nothing}
use Rattle.sr_encode.proofs.collected.Collected.outcome_for.Goals as goal

pub outcome_of-requires-clause-waypoint : goal.outcome_of-requires-clause-waypoint
outcome_of-requires-clause-waypoint c = c.requires.waypoint c.in-Some.waypoint c.in-Some.is

pub returns-in-None-clause-gains : goal.returns-in-None-clause-gains
returns-in-None-clause-gains c = gains-nothing c.args.self.now 0 c.requires.collected (omega (arith, c.requires.collected.two))

pub returns-in-None-2-clause-gains : goal.returns-in-None-2-clause-gains
returns-in-None-2-clause-gains c = gains-nothing c.args.self.now 1 c.requires.collected (omega (arith, c.requires.collected.two))
