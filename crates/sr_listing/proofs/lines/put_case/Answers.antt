use Rattle.std.proofs.Common.{◌≡◌, ap, ◌∙◌, subst}
use Rattle.std.proofs.lemmas.Result.{on_ok_weaker}
use Rattle.sr_model.specs.Case.{IsCase}
use Rattle.sr_model.specs.Graph.{Graph}
use Rattle.sr_repair.specs.Answers.{place_of}
use Rattle.sr_listing.proofs.LineLemmas.{case-put}
use Rattle.sr_listing.proofs.lines.put_case.Goals as goal

pub returns-clause-lines : goal.returns-clause-lines
returns-clause-lines c =
    let net = c.args.version.now.net in
    let case = c.case_at-case.result in
    let graph : c.graph.result.now ≡ net.graph = c.graph.ensures.value ∙ ap (λ n. n.graph) c.net-net.ensures.value in
    let within = subst (λ (g : Graph). IsCase g case) graph c.case_at-case.ensures.case in
    let at = subst (λ (g : Graph). place_of g case ≡ c.args.place) graph c.case_at-case.ensures.place in
    on_ok_weaker c.put_answers.result
    (λ puts. case-put net c.args.place case c.answers.result c.args.out.now.items c.put_answers.new.out.items c.net-net.ensures.net within at c.answers.ensures puts)
    (rw c.net-net.ensures.value at c.put_answers.ensures.line)
