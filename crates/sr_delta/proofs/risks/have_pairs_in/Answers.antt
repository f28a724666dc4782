use Rattle.std.proofs.Common.{◌≡◌, ℕ, subst}
use Rattle.sr_model.specs.Graph.{Graph, tail}
use Rattle.sr_graph.specs.Members.{IsInRange}
use Rattle.sr_graph.specs.Ranges.{HoldsLinks, EndAt}
use Rattle.sr_delta.specs.Pairs.{IsMatched}
use Rattle.sr_delta.proofs.FailureLemmas.{pairs-from_matched, range-matched, list-matched}
use Rattle.sr_delta.proofs.risks.have_pairs_in.Goals as goal

pub is_list_matched-requires-clause-within : goal.is_list_matched-requires-clause-within
is_list_matched-requires-clause-within c = λ i lt. (c.links_to.ensures.links.each i lt).0

pub returns-then-is_range_matched : goal.returns-then-is_range_matched
returns-then-is_range_matched c =
    let g : Graph = c.args.graph.now in
    let h : Graph = c.args.other.now in
    let at : c.edge.result.from.0 ≡ tail g c.args.case.link.0 = c.edge.ensures.from in
    let holds : HoldsLinks g (tail g c.args.case.link.0) c.links_from.result.first c.links_from.result.end = subst (λ v. HoldsLinks g v c.links_from.result.first c.links_from.result.end) at c.links_from.ensures.links in
    let ending : EndAt g (tail g c.args.case.link.0) c.links_to.result.now = subst (λ v. EndAt g v c.links_to.result.now) at c.links_to.ensures.links in
    let ranged : (l : ℕ) → IsInRange c.links_from.result.first c.links_from.result.end l → IsMatched g c.args.case h c.args.there l = c.is_range_matched.ensures.0 (let one = c.if-is_range_matched.true in cc) in (
      λ is. pairs-from_matched g c.args.case h c.args.there c.requires.kinds.0 c.requires.kinds.1 c.requires.name c.links_from.result.first c.links_from.result.end c.links_to.result.now holds ending ranged (c.is_list_matched.ensures.0 is),
      λ pairs. c.is_list_matched.ensures.1 (list-matched g c.args.case h c.args.there (tail g c.args.case.link.0) c.links_to.result.now ending pairs),
    )

pub returns-else-is_range_matched : goal.returns-else-is_range_matched
returns-else-is_range_matched c = (
  λ is. absurd (let not = c.if-is_range_matched.false in cc),
  λ pairs. absurd (
      let this = c.is_range_matched.ensures.1 (range-matched c.args.graph.now c.args.case c.args.other.now c.args.there c.edge.result.from.0 c.links_from.result.first c.links_from.result.end c.links_from.ensures.links pairs) in
      let not = c.if-is_range_matched.false in
      cc),
)
