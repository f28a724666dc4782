-- some reason holds of each so far
use Rattle.std.proofs.Common.{◌≡◌, ℕ, ◌<◌, Some}
use Rattle.std.specs.Prelude.{slice_get}
use Rattle.sr_subtlv.specs.declared.prefix_sid.PrefixSid.{PrefixSid}
use Rattle.sr_lsp.specs.declared.table.Part.TheVariants as part
use Rattle.sr_lsdb.specs.declared.facts.Facts.{Facts}
use Rattle.sr_account.specs.declared.aside.Reason.{Reason}
use Rattle.sr_account.specs.Reasons.{PrefixSidFails}
use Rattle.sr_account.specs.Steps.{IsOwnPart, at_part}
use Rattle.sr_account.proofs.prefixes.is_any_used.Given as goal

abbrev pub invariant-loop-k : goal.invariant-loop-k
invariant-loop-k l =
    (facts : Facts) → IsOwnPart facts l.choice (at_part l.id l.at) (part.Prefix l.prefix) → (j : ℕ) (sid : PrefixSid)
    → j < l.k → slice_get l.prefix.sids j ≡ Some sid
    → (reason : Reason) × PrefixSidFails facts (at_part l.id l.at) l.prefix j sid reason
