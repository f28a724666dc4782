use Rattle.std.proofs.Common.{◌≡◌, ap, sym, ◌∙◌, subst}
use Rattle.sr_model.specs.Graph.{tail}
use Rattle.sr_model.specs.Case.{source_of}
use Rattle.sr_graph.specs.Ranges.{HoldsLinks}
use Rattle.sr_encode.specs.Placed.{listed_from}
use Rattle.sr_encode.specs.Answered.{AreAnswers, AreLists}
use Rattle.sr_encode.specs.Limited.{limit_at, limited_entries}
use Rattle.sr_encode.proofs.LimitLemmas.{answers-limited}
use Rattle.sr_encode.proofs.PlacedLemmas.{lists-numbered}
use Rattle.sr_encode.proofs.case_lists.CaseLists.answers.Goals.{After-start_of}
use Rattle.sr_encode.proofs.case_lists.CaseLists.answers.Goals as goal

-- what is listed, with first links counted from where those of the source begin
listed : (c : After-start_of) → AreLists c.args.net.now c.args.case (listed_from c.start_of.result.0 c.args.self.now)
listed c =
    let holds : HoldsLinks c.args.net.now.graph (source_of c.args.net.now.graph c.args.case) c.start_of.result.0 c.start_of.ensures.0 = rw c.graph-graph.ensures.value at c.start_of.ensures.1 in
    c.requires.lists.from c.start_of.result.0 c.start_of.ensures.0 holds

pub new-requires : goal.new-requires
new-requires c = lists-numbered c.args.net.now c.args.case (listed_from c.start_of.result.0 c.args.self.now) (listed (goal.at.new-requires c).After-start_of) c.graph-graph.ensures.accepted.graph

pub returns : goal.returns
returns c =
    let n = c.args.net.now in
    let case = c.args.case in
    let list = listed_from c.start_of.result.0 c.args.self.now in
    let source : c.edge.result.from.0 ≡ source_of n.graph case = c.edge.ensures.from ∙ ap (λ g. tail g case.link.0) c.graph-graph.ensures.value in
    let limit : c.limit_at.result ≡ limit_at n (source_of n.graph case) = c.limit_at.ensures ∙ ap (limit_at n) source in
    subst (λ list. AreAnswers n case list) (sym (c.new.ensures ∙ ap (λ k. limited_entries k list) limit)) (answers-limited n case list (listed (goal.at.returns c).After-start_of))
