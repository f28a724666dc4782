use Rattle.std.proofs.Common.{arith, sym}
use Rattle.sr_lsp.specs.Parts.{part_of}
use Rattle.sr_account.specs.Steps.{part_items}
use Rattle.sr_account.proofs.ToldLemmas.{rest-end, rest-next, stands-at}
use Rattle.sr_account.proofs.asides.add_parts.Goals as goal

pub add_part-requires-clause-stands : goal.add_part-requires-clause-stands
add_part-requires-clause-stands c =
    stands-at c.args.facts.now c.args.id.now c.args.standing.now c.loop-at.at (part_of c.at.result) c.args.parts.now c.requires.survey.order c.requires.stands c.requires.parts (omega arith) c.at.ensures

pub loop-at-preserved : goal.loop-at-preserved
loop-at-preserved c =
    rest-next c.args.facts.now (part_items c.args.id.now) c.loop-at.at c.args.parts.now (part_of c.at.result) c.args.out.now.items c.loop-at.out.items c.add_part.new.out.items (omega arith) (sym c.at.ensures) c.loop-at.invariant c.in_ok-add_part.ensures

pub returns : goal.returns
returns c = rest-end c.args.facts.now (part_items c.args.id.now) c.loop-at.at c.args.parts.now c.args.out.now.items c.loop-at.out.items (omega arith) c.loop-at.invariant
