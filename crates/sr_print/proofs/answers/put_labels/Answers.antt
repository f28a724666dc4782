use Rattle.std.proofs.Common.{◌≡◌, ℕ, ◌<◌, ◌++◌, ◌∷◌, [], ap, ◌∙◌, arith, length, subst}
use Rattle.std.proofs.lemmas.Bool.Decides.{nat_tests}
use Rattle.std.proofs.lemmas.Result.{on_ok_weaker}
use Rattle.sr_model.specs.Graph.{Graph, head}
use Rattle.sr_repair.proofs.StackLemmas.{last}
use Rattle.sr_print.specs.Answers.{PutsLabels}
use Rattle.sr_print.proofs.Routes.{stacked}
use Rattle.sr_print.proofs.answers.put_labels.Goals as goal

pub returns-clause-line : goal.returns-clause-line
returns-clause-line c =
    let n = c.args.net.now in
    let first = c.args.first.0 in
    let segments = c.args.segments.now in
    let d = c.args.d.0 in
    let old = c.args.out.now.items in
    let new = c.put_stack.new.out.items in
    let some : 0 < length segments = grind (arith, nat_tests) in
    let at : c.edge.result.to.0 ≡ head n.graph first = c.edge.ensures.to ∙ ap (λ (g : Graph). head g first) c.graph.ensures.value in
    on_ok_weaker c.put_stack.result
    (λ puts. stacked n d first segments old new some (subst (λ (u : ℕ). PutsLabels n u (segments ++ last d ∷ []) old new) at puts))
    c.put_stack.ensures.line
