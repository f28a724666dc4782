use Rattle.std.proofs.Common.{take}
use Rattle.std.specs.List.{AllZip}
use Rattle.sr_repair.specs.Items.{IsItemFor}
use Rattle.sr_audit.proofs.audits.items_of.Given as goal

-- the items of the answers so far
abbrev pub invariant-loop-place : goal.invariant-loop-place
invariant-loop-place l = AllZip (IsItemFor l.fn.net l.fn.case) (take l.place l.fn.answers) l.items.items
