use Rattle.std.proofs.Common.{◌≡◌, Bool, true, false, not, refl, ap, sym, ◌∙◌}
use Rattle.std.specs.Prelude.{is_some}
use Rattle.sr_account.proofs.SourceLaw.{flags-told}
use Rattle.sr_account.proofs.sources.label_flags.Goals as goal

turned : (a b : Bool) → a ≡ not b → b ≡ not a
turned true true e = e
turned true false e = refl
turned false true e = refl
turned false false e = e

pub returns-in-Some : goal.returns-in-Some
returns-in-Some c =
    flags-told c.args.sids.now c.is_none-backup.result c.in-Some.label c.first_flags.result
    (turned _ c.is_none-backup.result (ap is_some (sym c.least_label.ensures) ∙ c.is_none-backup.ensures))
    (sym c.least_label-2.ensures ∙ c.in-Some.is)
    c.first_flags.ensures
