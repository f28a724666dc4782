use Rattle.sr_lanes.specs.declared.words.NodeBits.{NodeBits}
use Rattle.sr_lanes.specs.Bits.{is_in}
use Rattle.sr_lanes.proofs.WordLemmas.{four-none, nothing-told, words-beyond}
use Rattle.sr_lanes.proofs.words.NodeBits.take_first.Goals as goal

pub returns-clause-first : goal.returns-clause-first
unfolding is_in
returns-clause-first c =
    let set : NodeBits = c.args.self.now in
    nothing-told set.words (words-beyond set.words set.whole (four-none set.words c.if-self-ne0.false c.if-self-ne0-2.false c.if-self-ne0-3.false c.if-self-ne0-4.false))
