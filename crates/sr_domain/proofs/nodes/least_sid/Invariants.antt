use Rattle.std.proofs.Common.{◌≡◌, drop}
use Rattle.sr_domain.specs.Nodes.{lesser_sid, least_sid}
use Rattle.sr_domain.proofs.nodes.least_sid.Given as goal

abbrev pub invariant-loop-sid : goal.invariant-loop-sid
invariant-loop-sid l = lesser_sid l.found (least_sid (drop l.sid-index l.sids)) ≡ least_sid l.sids
