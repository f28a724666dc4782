use Rattle.sr_delta.proofs.ChangeLemmas.{partner-has, none-lacks}
use Rattle.sr_delta.proofs.changed.arisen_of.Goals as goal

pub returns-in-Some : goal.returns-in-Some
returns-in-Some c = partner-has c.args.old.now c.args.new.now c.args.link.0 c.in-Some.field-0 (rw c.in-Some.is at c.requires.origin)

pub arisen-requires-clause-arises : goal.arisen-requires-clause-arises
arisen-requires-clause-arises c = none-lacks c.args.old.now c.args.new.now c.args.link.0 c.requires.link (rw c.in-None.is at c.requires.origin)

pub returns-in-None : goal.returns-in-None
returns-in-None c = (
  c.arisen.ensures.change,
  c.arisen.ensures.key,
  none-lacks c.args.old.now c.args.new.now c.args.link.0 c.requires.link (rw c.in-None.is at c.requires.origin),
)
