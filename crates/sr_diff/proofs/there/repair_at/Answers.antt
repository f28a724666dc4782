use Rattle.std.proofs.Common.{Option, subst}
use Rattle.std.specs.Prelude.{IfOk, MatchOption}
use Rattle.sr_model.specs.declared.audit.Item.{Item}
use Rattle.sr_model.specs.Label.{Net}
use Rattle.sr_repair.specs.Stack.{HasNoList}
use Rattle.sr_diff.specs.Matched.{IsListFor}
use Rattle.sr_diff.proofs.there.repair_at.Goals as goal

pub returns-in-Some : goal.returns-in-Some
returns-in-Some c =
    subst (λ (n : Net). IfOk c.item_for.result (λ (found : Option Item). MatchOption found (HasNoList n c.args.purpose.case c.args.purpose.dest.0) (IsListFor n c.args.purpose.case c.args.purpose.dest.0)))
    c.net.ensures.value c.item_for.ensures
