-- the parts so far are kept
use Rattle.sr_lsp.proofs.PartsLemmas.{IsKeptSoFar}
use Rattle.sr_lsp.proofs.parts.Parts.new.Given as goal

abbrev pub invariant-loop-part : goal.invariant-loop-part
invariant-loop-part l = IsKeptSoFar l.arrays l.order.items l.part-iterator.rest.items l.part-iterator.rest.len l.fn.list.items
