use Rattle.std.proofs.Common.{◌+◌, arith, ap, ◌∙◌, subst}
use Rattle.std.proofs.lemmas.Result.{IfOk-weaker}
use Rattle.sr_spf.specs.Renewed.{AreRenewed}
use Rattle.sr_spf.proofs.RenewedLemmas.{rows-renewed, searches-fallen, on_ok-always}
use Rattle.sr_spf.proofs.renewed.renewed_rows.Goals as goal

pub returns-in_err-found-clause-most : goal.returns-in_err-found-clause-most
returns-in_err-found-clause-most g c =
    let count = searches-fallen c.args.graph.now c.args.renewal.now.stays.items c.in_ok-all.all.items c.requires.0.marks c.in_ok-all.ensures in
    omega (arith, count, c.all_found_taken_in.ensures.most)

pub returns-clause-rows : goal.returns-clause-rows
returns-clause-rows g c =
    IfOk-weaker c.renewed.result _ _
    (λ rows made. rows-renewed c.args.graph.now c.args.old.now c.args.renewal.now.stays.items c.in_ok-all.all.items rows c.requires.0 c.in_ok-all.ensures
    (subst (λ k. AreRenewed c.args.old.now k rows) c.in_ok-found.ensures.rows made))
    c.renewed.ensures

pub returns-clause-steps : goal.returns-clause-steps
returns-clause-steps g c =
    let count = searches-fallen c.args.graph.now c.args.renewal.now.stays.items c.in_ok-all.all.items c.requires.0.marks c.in_ok-all.ensures in
    on_ok-always c.renewed.result _ (c.in_ok-found.ensures.steps ∙ ap (λ k. c.args.steps.now + k) count)

pub returns-clause-most : goal.returns-clause-most
returns-clause-most g c =
    let count = searches-fallen c.args.graph.now c.args.renewal.now.stays.items c.in_ok-all.all.items c.requires.0.marks c.in_ok-all.ensures in
    omega (arith, count, c.all_found_taken_in.ensures.most)
