use Rattle.std.proofs.Common.{◌≡◌, refl, subst}
use Rattle.sr_script.specs.declared.name.EndNames.{EndNames}
use Rattle.sr_run.specs.Handlers.{AreEnds, LacksEnd}
use Rattle.sr_run.specs.Names.{ends_named}
use Rattle.sr_run.proofs.NameLemmas.{lacks-end, lacks-named}
use Rattle.sr_run.proofs.names.find_link.Goals as goal

pub returns-in-Err : goal.returns-in-Err
returns-in-Err c =
    let net = c.args.version.now.net in
    lacks-end (λ missing. c.in-Err.reason ≡ missing) c.in-Err.reason refl net (ends_named c.args.link.now) _
    (subst (λ (e : EndNames). LacksEnd net e c.in-Err.reason) c.ends_named.ensures c.in-Err.ensures)

pub returns-in-None : goal.returns-in-None
returns-in-None c =
    let net = c.args.version.now.net in
    lacks-named net c.args.link.now c.in-Ok._nodes.from.0 c.in-Ok._nodes.to.0 c.missing_link.result
    (subst (λ (e : EndNames). AreEnds net e c.in-Ok._nodes.from.0 c.in-Ok._nodes.to.0) c.ends_named.ensures c.in-Ok.ensures)
    c.in-None.ensures c.missing_link.ensures
