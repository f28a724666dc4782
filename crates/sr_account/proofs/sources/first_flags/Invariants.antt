use Rattle.std.proofs.Common.{◌≡◌, ℕ, ◌<◌, Some}
use Rattle.std.specs.Prelude.{◌≢◌, slice_get}
use Rattle.sr_subtlv.specs.declared.adj_sid.AdjSid.{AdjSid}
use Rattle.sr_lsdb.specs.Announcement.{adj_sid_label}
use Rattle.sr_account.proofs.sources.first_flags.Given as goal

abbrev pub invariant-loop-sid : goal.invariant-loop-sid
invariant-loop-sid l = (j : ℕ) (other : AdjSid) → j < l.sid-index → slice_get l.sids j ≡ Some other → adj_sid_label l.backup other ≢ Some l.label
