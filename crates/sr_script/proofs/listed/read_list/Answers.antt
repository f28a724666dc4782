use Rattle.std.proofs.Common.{◌++◌, map, Some, ◌∙◌, ap}
use Rattle.sr_script.specs.Words.{words}
use Rattle.sr_script.proofs.ListLemmas.{value-refused}
use Rattle.sr_script.proofs.listed.read_list.Goals as goal

pub returns-in-Err-clause-err : goal.returns-in-Err-clause-err
returns-in-Err-clause-err g c =
    let given = g.T.Listed.given in
    let value = given c.in-Some.next.word.now in
    let rest = map given (words c.in-Some.next.rest.now) in
    let whole = c.loop-count.invariant.given ∙ ap (λ next. map Some c.loop-count.values.items ++ map given next) c.in-Some.ensures in
    value-refused value c.loop-count.values.items rest (map given (words c.args.text.now)) c.args.most c.in-Err.fault whole c.in-Err.ensures.err
