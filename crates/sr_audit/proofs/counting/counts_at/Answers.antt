use Rattle.std.proofs.Common.{◌≡◌, subst, ap, ◌∙◌}
use Rattle.sr_model.specs.Case.{IsCase}
use Rattle.sr_model.specs.Graph.{Graph}
use Rattle.sr_repair.specs.Answers.{place_of}
use Rattle.sr_audit.proofs.CaseLemmas.{items-audit, items-few, items-there}
use Rattle.sr_audit.proofs.CountLemmas.{counts-items}
use Rattle.sr_audit.proofs.counting.counts_at.Goals as goal

pub returns : goal.returns
returns c =
    let net = c.args.version.now.net in
    let case = c.case_at-case.result in
    let answers = c.answers.result in
    let graph : c.graph.result.now ≡ net.graph = c.graph.ensures.value ∙ ap (λ n. n.graph) c.net.ensures.value in
    let within = subst (λ (g : Graph). IsCase g case) graph c.case_at-case.ensures.case in
    let there = items-there net case answers c.net.ensures.net c.answers.ensures in
    record {
      items = there.0;
      audit = record {
        case = case;
        within = within;
        place_is = subst (λ (g : Graph). place_of g case ≡ c.args.place) graph c.case_at-case.ensures.place;
        audit = items-audit net case answers there.0 within c.answers.ensures there.1;
        few = items-few net case answers there.0 c.net.ensures.net c.answers.ensures there.1;
      };
      counted = c.counts.ensures ∙ counts-items net case answers there.0 there.1;
    }
