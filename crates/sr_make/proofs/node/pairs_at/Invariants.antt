use Rattle.std.proofs.Common.{◌≡◌, filter, take}
use Rattle.sr_make.specs.Nodes.{touches}
use Rattle.sr_make.proofs.node.pairs_at.Given as goal

-- the pairs so far that join the node to another were kept
abbrev pub invariant-loop-pair : goal.invariant-loop-pair
invariant-loop-pair l = l.own.items ≡ filter (touches l.node) (take l.pair-index l.pairs)
