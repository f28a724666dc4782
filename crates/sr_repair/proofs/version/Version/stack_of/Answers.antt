use Rattle.std.proofs.Common.{subst}
use Rattle.std.specs.Prelude.{IfOk, MatchOption}
use Rattle.sr_model.specs.Label.{Net}
use Rattle.sr_repair.specs.Stack.{HasNoList, IsStackOf}
use Rattle.sr_repair.proofs.version.Version.stack_of.Goals as goal

pub returns-in-Some : goal.returns-in-Some
returns-in-Some c =
    subst
    (λ (n : Net). IfOk c.list_labels.result (λ found. MatchOption found (HasNoList n c.args.case c.args.destination.0) (λ labels. IsStackOf n c.args.case c.args.destination.0 labels.items)))
    c.net-net.ensures.value
    c.list_labels.ensures
