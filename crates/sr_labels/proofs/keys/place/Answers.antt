use Rattle.std.proofs.Common.{arith}
use Rattle.sr_model.proofs.KeyOrderLemmas.{key-from_cmp}
use Rattle.sr_labels.proofs.KeyPlaces.{IsStart, place-named, not_missed}
use Rattle.sr_labels.proofs.keys.place.Goals as goal

pub returns-in-Ok : goal.returns-in-Ok
returns-in-Ok c =
    let s : IsStart c.args.keys.now c.args.key.now.from c.args.key.now.to c.first_between-first.result = record { ascending = c.requires.ascending; within = c.first_between-first.ensures.within; before = c.first_between-first.ensures.before; after = c.first_between-first.ensures.after } in
    place-named c.args.keys.now c.args.key.now c.first_between-first.result c.in-Ok.at s (omega (arith, c.in-Ok.ensures.bound)) (key-from_cmp _ _ (c.in-Ok.ensures.ok c.args.key.now))

pub returns-in-Err : goal.returns-in-Err
returns-in-Err c = absurd (not_missed c.args.keys.now c.args.key.now c.in-Err.field-0 c.requires.ascending c.requires.there c.in-Err.ensures.position)
