use Rattle.sr_domain.proofs.KeyLemmas.{sought-found, sought-missing}
use Rattle.std.proofs.Common.{sym}
use Rattle.sr_domain.proofs.two_way.holds.Goals as goal

pub returns-in-Ok : goal.returns-in-Ok
returns-in-Ok c = sym (sought-found c.args.keys.now c.args.key.now c.in-Ok.field-0 c.in-Ok.ensures.bound c.in-Ok.ensures.ok)

pub returns-in-Err : goal.returns-in-Err
returns-in-Err c = sym (sought-missing c.args.keys.now c.args.key.now c.in-Err.field-0 c.requires c.in-Err.ensures.position)
