use Rattle.sr_account.proofs.SearchLemmas.{sought-nowhere, sought-there}
use Rattle.sr_account.proofs.survey.is_among.Goals as goal

pub returns-in-Ok : goal.returns-in-Ok
returns-in-Ok g c = sought-there g.met.T.Ord.total c.args.sorted.now c.args.value.now c.in-Ok.field-0 c.in-Ok.ensures.bound c.in-Ok.ensures.ok

pub returns-in-Err : goal.returns-in-Err
returns-in-Err g c = sought-nowhere g.met.T.Ord.total c.args.sorted.now c.args.value.now c.in-Err.field-0 c.requires c.in-Err.ensures.position
