use Rattle.std.proofs.Common.{◌≡◌, refl, subst}
use Rattle.sr_script.specs.declared.name.EndNames.{EndNames}
use Rattle.sr_run.specs.Handlers.{LacksEnd}
use Rattle.sr_run.specs.Names.{ends_named}
use Rattle.sr_run.proofs.NameLemmas.{lacks-end}
use Rattle.sr_run.proofs.names.find_announced.Goals as goal

pub returns-in-Err : goal.returns-in-Err
returns-in-Err c =
    let net = c.args.version.now.net in
    lacks-end (λ missing. c.in-Err.reason ≡ missing) c.in-Err.reason refl net (ends_named c.args.link.now) _
    (subst (λ (e : EndNames). LacksEnd net e c.in-Err.reason) c.ends_named.ensures c.in-Err.ensures)
