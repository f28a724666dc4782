use Rattle.std.proofs.Common.{◌≡◌, take}
use Rattle.sr_model.specs.Audit.{counts_of}
use Rattle.sr_audit.proofs.report.Report.counts.Given as goal

-- the counts of the items so far
abbrev pub invariant-loop-item : goal.invariant-loop-item
invariant-loop-item l = l.counts ≡ counts_of (take l.item-index l.fn.self.items)
