use Rattle.std.proofs.Common.{◌≡◌, ℕ, refl, ap, ◌∙◌}
use Rattle.sr_model.specs.declared.link.Link.{Link}
use Rattle.sr_model.specs.Graph.{tail}
use Rattle.sr_model.specs.Case.{source_of}
use Rattle.sr_laws.specs.Steady.{pivot_of}
use Rattle.sr_encode.specs.Answered.{AreListed, AreLists}
use Rattle.sr_encode.specs.Kept.{entries}
use Rattle.sr_encode.specs.Placed.{listed_from, Listing}
use Rattle.sr_graph.specs.Ranges.{HoldsLinks}
use Rattle.sr_encode.proofs.AnswerLemmas.{affected-within, lists-over}
use Rattle.sr_encode.proofs.PlacedLemmas.{ascend-kept, holds-one}
use Rattle.sr_encode.proofs.PivotLemmas.{case-pivot}
use Rattle.sr_encode.proofs.repairs.lists_for.Goals.{In_ok-kept}
use Rattle.sr_encode.proofs.repairs.lists_for.Goals as goal

pub new-scene-requires-clause-pivot : goal.new-scene-requires-clause-pivot
new-scene-requires-clause-pivot c =
    let source : c.link.result.from.0 ≡ source_of c.args.net.now.graph c.args.case = ap (λ (k : Link). k.from.0) c.link.ensures.link ∙ ap (λ g. tail g c.args.case.link.0) c.graph.ensures.value in
    let pivot : c.pivot_of-pivot.result.0 ≡ pivot_of c.args.net.now.graph c.args.case = c.pivot_of-pivot.ensures.pivot ∙ ap (λ g. pivot_of g c.args.case) c.graph-2.ensures.value in
    rw (c.requires.spaces, source, pivot) (case-pivot c.args.net.now.graph c.graph.ensures.accepted.graph c.graph.ensures.accepted.named c.args.case c.args.post.now.failed c.requires.case c.requires.post.failed)

pub kept_lists-requires-clause-wanted : goal.kept_lists-requires-clause-wanted
kept_lists-requires-clause-wanted c v is = affected-within c.args.net.now c.args.case v c.graph.ensures.accepted.nodes ((c.requires.wanted v).0 is)

-- the source
source : (c : In_ok-kept) → c.link.result.from.0 ≡ source_of c.args.net.now.graph c.args.case
source c = ap (λ (k : Link). k.from.0) c.link.ensures.link ∙ ap (λ g. tail g c.args.case.link.0) c.graph.ensures.value

-- what the pass keeps is what is listed in the case
listed : (c : In_ok-kept) → AreLists c.args.net.now c.args.case (entries c.in_ok-kept.field-0.segments.items c.in_ok-kept.field-0.outcomes.items c.in_ok-kept.field-0.kept.items c.in_ok-kept.ensures.first)
listed c =
    let list = entries c.in_ok-kept.field-0.segments.items c.in_ok-kept.field-0.outcomes.items c.in_ok-kept.field-0.kept.items c.in_ok-kept.ensures.first in
    let all : AreListed c.args.net.now c.args.spaces.now.failed (source_of c.args.net.now.graph c.args.case) c.args.wanted list = rw (c.failed.ensures, source c) at c.in_ok-kept.ensures.listed in
    lists-over c.args.net.now c.args.case c.args.spaces.now.failed c.args.wanted list (rw c.requires.spaces c.requires.post.failed) c.requires.wanted all

pub new-requires-clause-ascending : goal.new-requires-clause-ascending
new-requires-clause-ascending c start =
    let kept = c.in_ok-kept.field-0 in
    ascend-kept c.in_ok-kept.ensures.first start kept.segments.items kept.segments.items kept.outcomes.items kept.outcomes.items kept.kept.items (listed (goal.at.new-requires-clause-ascending c).In_ok-kept).ascending

-- wherever the links of the source begin
placed : (c : In_ok-kept) (listing : Listing) → listing ≡ record { segments = c.in_ok-kept.field-0.segments.items; outcomes = c.in_ok-kept.field-0.outcomes.items; kept = c.in_ok-kept.field-0.kept.items } → (first end : ℕ) → HoldsLinks c.args.net.now.graph (source_of c.args.net.now.graph c.args.case) first end → AreLists c.args.net.now c.args.case (listed_from first listing)
placed c listing is first end holds =
    let there : HoldsLinks c.args.net.now.graph (source_of c.args.net.now.graph c.args.case) c.in_ok-kept.ensures.first c.in_ok-kept.ensures.end = rw (source c) at c.in_ok-kept.ensures.holds in
    let same : c.in_ok-kept.ensures.first ≡ first = holds-one c.args.net.now.graph (source_of c.args.net.now.graph c.args.case) c.in_ok-kept.ensures.first c.in_ok-kept.ensures.end first end c.args.case.link.0 there holds c.requires.case refl in
    rw (is, ← same) (listed c)

pub returns : goal.returns
returns c = record { from = placed (goal.at.returns c).In_ok-kept c.new.result c.new.ensures }
