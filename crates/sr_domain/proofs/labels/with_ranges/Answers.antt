use Rattle.std.proofs.Common.{◌≡◌, ◌∷◌, List, arith, ◌∙◌, subst, ap, length, get_or}
use Rattle.sr_model.specs.declared.label.Range.{Range}
use Rattle.sr_domain.proofs.LabelsLemmas.{labels-bad, labels-more, labels-kept, LabelsMade}
use Rattle.sr_domain.proofs.labels.with_ranges.Goals as goal

pub returns-in-Err-clause-fault : goal.returns-in-Err-clause-fault
returns-in-Err-clause-fault c =
    let e : c.loop-ranges.ranges-iterator.rest.items ≡ c.in-Some.ranges ∷ c.next.new.self.rest.items = c.in-Some.ensures.steps.0 in
    let n : c.len.result ≡ length c.loop-ranges.out.items = omega (arith, c.len.ensures, c.loop-ranges.out.ok) in
    labels-bad c.args.facts.now c.args.nodes.now c.requires.nodes c.requires.kept c.loop-ranges.out.items c.index-nodes-len.result c.in-Some.ranges c.next.new.self.rest.items c.in-Err.field-0 c.requires.ascending
    (subst (λ (l : List (List Range)). LabelsMade c.args.facts.now c.args.nodes.now c.loop-ranges.out.items l) e c.loop-ranges.invariant)
    (c.index-nodes-len.is ∙ ap (λ k. get_or c.args.nodes.now k c.index-nodes-len.result) n)
    (rw c.into_vec.ensures at c.in-Err.ensures.bad)

pub loop-ranges-preserved : goal.loop-ranges-preserved
loop-ranges-preserved c =
    let e : c.loop-ranges.ranges-iterator.rest.items ≡ c.in-Some.ranges ∷ c.next.new.self.rest.items = c.in-Some.ensures.steps.0 in
    let n : c.len.result ≡ length c.loop-ranges.out.items = omega (arith, c.len.ensures, c.loop-ranges.out.ok) in
    labels-more c.args.facts.now c.args.nodes.now c.requires.nodes c.requires.kept c.loop-ranges.out.items c.push.new.self.items c.index-nodes-len.result c.in-Some.ranges c.in-Ok.srgb c.next.new.self.rest.items
    (subst (λ (l : List (List Range)). LabelsMade c.args.facts.now c.args.nodes.now c.loop-ranges.out.items l) e c.loop-ranges.invariant)
    (c.index-nodes-len.is ∙ ap (λ k. get_or c.args.nodes.now k c.index-nodes-len.result) n)
    (c.in-Ok.ensures.value ∙ c.into_vec.ensures)
    c.in-Ok.ensures.good
    (rw c.announced_labels.ensures at c.in-Ok-push.ensures.items)

pub returns-clause-kept : goal.returns-clause-kept
returns-clause-kept c =
    (labels-kept c.args.facts.now c.args.nodes.now c.requires.nodes c.requires.kept c.loop-ranges.out.items c.loop-ranges.ranges-iterator.rest.items c.loop-ranges.invariant (omega (arith, c.loop-ranges.ranges-iterator.rest.ok.0, c.in-None.ensures.steps.0))).1
