use Rattle.sr_laws.proofs.Entries.{lookup-steps, lookup-one}
use Rattle.sr_laws.proofs.lookups_are_steps.Goals as goal

pub returns : goal.returns
returns c = record { steps = lookup-steps; unique = lookup-one }
