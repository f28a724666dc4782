use Rattle.std.proofs.Common.{ap, map, sym, ◌∙◌, subst}
use Rattle.std.specs.Prelude.{All}
use Rattle.sr_encode.specs.Kept.{entries}
use Rattle.sr_encode.specs.Placed.{HaveLinkNumbers, AreNotBefore}
use Rattle.sr_encode.specs.Renumbered.{moved_segment, moved_outcome, moved_entries, CanMove}
use Rattle.sr_encode.proofs.MovedLemmas.{can-move, entries-as, kept-as}
use Rattle.sr_encode.proofs.case_lists.CaseLists.renumbered.Goals as goal

pub moved_outcomes-requires : goal.moved_outcomes-requires
moved_outcomes-requires c =
    let old = c.self.inside in
    let r = c.args.numbers.now in
    let numbers : HaveLinkNumbers (entries old.segments.items old.outcomes.items old.kept.items r.before.0) = rw (← c.self.view_is) at c.requires.numbers in
    let stand : AreNotBefore r.after.0 (moved_entries r.links.now (entries old.segments.items old.outcomes.items old.kept.items r.before.0)) = rw (← c.self.view_is) at c.requires.begin in
    subst (λ list. All (CanMove r) list) (sym c.deref-2.ensures.value) (can-move r old.segments.items old.outcomes.items old.kept.items c.self.invariant.0 numbers stand)

pub invariant_of-result : goal.invariant_of-result
invariant_of-result c =
    let old = c.self.inside in
    let r = c.args.numbers.now in
    kept-as r old.segments.items c.in_ok-moved_segments.field-0.items old.outcomes.items c.in_ok-moved_outcomes.field-0.items old.kept.items c.in_ok-copied_answers.field-0.items old.counts
    c.self.invariant.0 c.self.invariant.1 c.self.invariant.2 c.self.invariant.3
    (c.in_ok-moved_segments.ensures ∙ ap (map (moved_segment r.links.now)) c.deref-3.ensures.value)
    (c.in_ok-moved_outcomes.ensures ∙ ap (map (moved_outcome r)) c.deref-2.ensures.value)
    (c.in_ok-copied_answers.ensures ∙ c.deref.ensures.value)

pub returns : goal.returns
returns c =
    let old = c.self.inside in
    let r = c.args.numbers.now in
    let numbers : HaveLinkNumbers (entries old.segments.items old.outcomes.items old.kept.items r.before.0) = rw (← c.self.view_is) at c.requires.numbers in
    let stand : AreNotBefore r.after.0 (moved_entries r.links.now (entries old.segments.items old.outcomes.items old.kept.items r.before.0)) = rw (← c.self.view_is) at c.requires.begin in
    let is = entries-as r old.segments.items c.in_ok-moved_segments.field-0.items old.outcomes.items c.in_ok-moved_outcomes.field-0.items old.kept.items c.in_ok-copied_answers.field-0.items
    c.self.invariant.0
    (can-move r old.segments.items old.outcomes.items old.kept.items c.self.invariant.0 numbers stand)
    (c.in_ok-moved_segments.ensures ∙ ap (map (moved_segment r.links.now)) c.deref-3.ensures.value)
    (c.in_ok-moved_outcomes.ensures ∙ ap (map (moved_outcome r)) c.deref-2.ensures.value)
    (c.in_ok-copied_answers.ensures ∙ c.deref.ensures.value) in
    rw (← c.self.view_is) is
