use Rattle.sr_post.specs.Bypass.{AreLostFilled}
use Rattle.sr_post.proofs.bypass.fill_lost.Given as goal

abbrev pub invariant-loop-node : goal.invariant-loop-node
invariant-loop-node l = AreLostFilled l.graph (record { end = l.end.0; into = l.into; around = l.around; onward = l.onward }) l.lost l.node-index l.fn.cells l.cells
