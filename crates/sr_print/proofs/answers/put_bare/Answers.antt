use Rattle.std.proofs.Common.{◌≡◌, ℕ, [], ◌∷◌, ap, ◌∙◌, subst}
use Rattle.std.specs.Prelude.{codes}
use Rattle.std.proofs.lemmas.Result.{on_ok_weaker}
use Rattle.sr_model.specs.Forward.{Crossing}
use Rattle.sr_model.specs.Graph.{Graph, head}
use Rattle.sr_print.proofs.Appended.{on_ok}
use Rattle.sr_print.proofs.Routes.{bare-none, bare-some}
use Rattle.sr_print.proofs.answers.put_bare.Goals as goal

pub returns-in-None-clause-line : goal.returns-in-None-clause-line
returns-in-None-clause-line c =
    let n = c.args.net.now in
    let old = c.args.out.now.items in
    let new = c.extend_from_slice.new.self.items in
    let at : c.edge.result.to.0 ≡ head n.graph c.args.first.0 = c.edge.ensures.to ∙ ap (λ (g : Graph). head g c.args.first.0) c.graph.ensures.value in
    let crossing : Crossing n c.args.d.0 (head n.graph c.args.first.0) [] [] = subst (λ (m : ℕ). Crossing n c.args.d.0 m [] []) at c.in-None.ensures in
    on_ok_weaker c.extend_from_slice.result
    (λ is. bare-none n c.args.d.0 c.args.first.0 old new crossing is)
    (on_ok c.extend_from_slice.result old new (codes " none") c.extend_from_slice.ensures.items)

pub returns-in-Some-clause-line : goal.returns-in-Some-clause-line
returns-in-Some-clause-line c =
    let n = c.args.net.now in
    let label = c.in-Some.label in
    let at : c.edge.result.to.0 ≡ head n.graph c.args.first.0 = c.edge.ensures.to ∙ ap (λ (g : Graph). head g c.args.first.0) c.graph.ensures.value in
    let crossing : Crossing n c.args.d.0 (head n.graph c.args.first.0) [] (label ∷ []) = subst (λ (m : ℕ). Crossing n c.args.d.0 m [] (label ∷ [])) at c.in-Some.ensures in
    on_ok_weaker c.put_value.result
    (λ is. bare-some n c.args.d.0 c.args.first.0 label c.from.result c.args.out.now.items c.put_value.new.out.items crossing c.from.ensures is)
    c.put_value.ensures.line
