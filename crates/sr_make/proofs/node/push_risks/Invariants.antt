use Rattle.std.proofs.Common.{◌≡◌, ◌++◌, map, take}
use Rattle.sr_make.specs.Nodes.{made_risk}
use Rattle.sr_make.proofs.node.push_risks.Given as goal

-- the parts of the pairs so far were appended
abbrev pub invariant-loop-pair : goal.invariant-loop-pair
invariant-loop-pair l = l.parts.items ≡ l.fn.parts.items ++ map (made_risk l.node) (take l.pair-index l.own)
