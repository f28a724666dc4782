use Rattle.std.proofs.Common.{List, [], map, Some, ap, sym, ◌∙◌, subst}
use Rattle.sr_model.specs.Label.{Labels}
use Rattle.sr_model.specs.Rule.{IsFirstBroken}
use Rattle.sr_domain.specs.Nodes.{labels_of}
use Rattle.sr_rules.specs.Indices.{HaveSameIndices}
use Rattle.sr_rules.proofs.DuplicateLemmas.{duplicate-none, duplicate-some}
use Rattle.sr_rules.proofs.indices.duplicate_index.Goals as goal

pub returns-in-Some-DuplicateIndex : goal.returns-in-Some-DuplicateIndex
returns-in-Some-DuplicateIndex c =
    let labels = c.deref.result.now in
    let same = subst (λ (l : List Labels). HaveSameIndices l (map (labels_of c.args.facts.now) c.args.nodes.now)) (sym c.deref.ensures.value) c.in_ok-labels.ensures in
    duplicate-some c.args.facts.now c.args.nodes.now labels c.requires same c.in-Some-DuplicateIndex.index c.in-Some-DuplicateIndex.low c.in-Some-DuplicateIndex.high c.index-nodes-low.result c.index-nodes-high.result
    (subst (λ o. IsFirstBroken labels [] o) (c.in-Some-DuplicateIndex.is ∙ ap Some c.in-Some-DuplicateIndex.field-0-is) c.in_ok-index.ensures.first)
    c.index-nodes-low.is c.index-nodes-high.is

pub returns-in-Some-IndexOutside : goal.returns-in-Some-IndexOutside
returns-in-Some-IndexOutside c =
    let labels = c.deref.result.now in
    let same = subst (λ (l : List Labels). HaveSameIndices l (map (labels_of c.args.facts.now) c.args.nodes.now)) (sym c.deref.ensures.value) c.in_ok-labels.ensures in
    duplicate-none c.args.facts.now c.args.nodes.now labels c.requires same
    (subst (λ o. IsFirstBroken labels [] o) (c.in-Some-IndexOutside.is ∙ ap Some c.in-Some-IndexOutside.field-0-is) c.in_ok-index.ensures.first).0

pub returns-in-Some-AdjLabelClash : goal.returns-in-Some-AdjLabelClash
returns-in-Some-AdjLabelClash c =
    let labels = c.deref.result.now in
    let same = subst (λ (l : List Labels). HaveSameIndices l (map (labels_of c.args.facts.now) c.args.nodes.now)) (sym c.deref.ensures.value) c.in_ok-labels.ensures in
    duplicate-none c.args.facts.now c.args.nodes.now labels c.requires same
    (subst (λ o. IsFirstBroken labels [] o) (c.in-Some-AdjLabelClash.is ∙ ap Some c.in-Some-AdjLabelClash.field-0-is) c.in_ok-index.ensures.first).0

pub returns : goal.returns
returns c =
    let labels = c.deref.result.now in
    let same = subst (λ (l : List Labels). HaveSameIndices l (map (labels_of c.args.facts.now) c.args.nodes.now)) (sym c.deref.ensures.value) c.in_ok-labels.ensures in
    duplicate-none c.args.facts.now c.args.nodes.now labels c.requires same
    (subst (λ o. IsFirstBroken labels [] o) c.in-None.is c.in_ok-index.ensures.first).0
