use Rattle.std.proofs.Common.{◌+◌, ◌≤◌, length}
use Rattle.sr_spf.proofs.HopsLemmas.{AddsHopsBelow}
use Rattle.sr_spf.proofs.hops.push_hops.Given as goal

abbrev pub invariant-loop-link : goal.invariant-loop-link
invariant-loop-link l = record { hops : AddsHopsBelow l.graph l.fn.from.0 l.fn.to.0 l.link l.initial.links.items l.links.items; few : length l.links.items ≤ length l.initial.links.items + l.link; first : l.first ≤ l.link }
