use Rattle.std.proofs.Common.{◌+◌, ◌∙◌, length, refl, arith}
use Rattle.std.proofs.lemmas.Bool.{lt-ltb}
use Rattle.sr_lanes.proofs.WordLemmas.{told-both}
use Rattle.sr_lanes.proofs.passes.tight_of_word.Goals as goal

pub returns : goal.returns
returns c i lt =
    let inside = lt-ltb (c.args.from + i) (length c.args.row.now) (omega arith) in
    rw inside (told-both c.args.among c.word_of.result i ∙ rw (c.word_of.ensures.told i lt) refl)
