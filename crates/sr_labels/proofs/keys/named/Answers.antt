use Rattle.std.proofs.Common.{arith, sym, ◌∙◌}
use Rattle.sr_labels.proofs.KeyPlaces.{IsStart, named-found, named-other, named-past}
use Rattle.sr_labels.proofs.keys.named.Goals as goal

pub returns-then-n-keys : goal.returns-then-n-keys
returns-then-n-keys c =
    let s : IsStart c.args.keys.now c.args.from c.args.to c.first_between-first.result = record { ascending = c.requires; within = c.first_between-first.ensures.within; before = c.first_between-first.ensures.before; after = c.first_between-first.ensures.after } in
    named-past c.args.keys.now c.args.from c.args.to c.first_between-first.result s c.args.n (omega arith) (omega arith)

pub returns-then-joins : goal.returns-then-joins
returns-then-joins c =
    let s : IsStart c.args.keys.now c.args.from c.args.to c.first_between-first.result = record { ascending = c.requires; within = c.first_between-first.ensures.within; before = c.first_between-first.ensures.before; after = c.first_between-first.ensures.after } in
    named-found c.args.keys.now c.args.from c.args.to c.first_between-first.result s c.args.n (omega arith) c.index-keys-first.result (omega arith) c.index-keys-first.is (sym c.joins.ensures ∙ c.if-joins.true)

pub returns : goal.returns
returns c =
    let s : IsStart c.args.keys.now c.args.from c.args.to c.first_between-first.result = record { ascending = c.requires; within = c.first_between-first.ensures.within; before = c.first_between-first.ensures.before; after = c.first_between-first.ensures.after } in
    named-other c.args.keys.now c.args.from c.args.to c.first_between-first.result s c.args.n (omega arith) c.index-keys-first.result (omega arith) c.index-keys-first.is (sym c.joins.ensures ∙ c.if-joins.false)
