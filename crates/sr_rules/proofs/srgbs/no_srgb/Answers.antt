use Rattle.std.proofs.Common.{arith}
use Rattle.sr_rules.proofs.SrgbLemmas.{lacks-first, all-announce}
use Rattle.sr_rules.proofs.srgbs.no_srgb.Goals as goal

pub returns-in-None : goal.returns-in-None
returns-in-None c =
    lacks-first c.args.facts.now c.args.nodes.now c.requires.nodes c.loop-node.node-index c.node-item.result (omega arith) c.node-item.is c.requires.ascending
    (rw c.in-None.is at c.in_ok-srgb_of.ensures) c.loop-node.invariant

pub returns : goal.returns
returns c = all-announce c.args.facts.now c.args.nodes.now c.requires.nodes c.loop-node.node-index (omega arith) c.loop-node.invariant
