use Rattle.std.proofs.Common.{◌≡◌, refl, subst}
use Rattle.sr_script.specs.declared.name.EndNames.{EndNames}
use Rattle.sr_run.specs.Handlers.{AreEnds, LacksEnd}
use Rattle.sr_run.specs.Names.{ends_named}
use Rattle.sr_run.proofs.NameLemmas.{lacks-end, lacks-dest, lacks-link}
use Rattle.sr_run.proofs.names.find_failure.Goals as goal

pub returns-in-Err : goal.returns-in-Err
returns-in-Err c =
    let net = c.args.version.now.net in
    lacks-end (λ missing. c.in-Err.reason ≡ missing) c.in-Err.reason refl net (ends_named c.args.repair.now.link) _
    (subst (λ (e : EndNames). LacksEnd net e c.in-Err.reason) c.ends_named.ensures c.in-Err.ensures)

pub returns-in-Err-find_node : goal.returns-in-Err-find_node
returns-in-Err-find_node c =
    let net = c.args.version.now.net in
    lacks-dest net c.args.repair.now c.in-Ok._nodes.from.0 c.in-Ok._nodes.to.0 c.in-Err-find_node.reason
    (subst (λ (e : EndNames). AreEnds net e c.in-Ok._nodes.from.0 c.in-Ok._nodes.to.0) c.ends_named.ensures c.in-Ok.ensures)
    c.in-Err-find_node.ensures.0 c.in-Err-find_node.ensures.1

pub returns-in-None : goal.returns-in-None
returns-in-None c =
    let net = c.args.version.now.net in
    lacks-link net c.args.repair.now c.in-Ok._nodes.from.0 c.in-Ok._nodes.to.0 c.in-Ok-find_node.destination.0 c.missing_link.result
    (subst (λ (e : EndNames). AreEnds net e c.in-Ok._nodes.from.0 c.in-Ok._nodes.to.0) c.ends_named.ensures c.in-Ok.ensures)
    c.in-Ok-find_node.ensures c.in-None.ensures c.missing_link.ensures
