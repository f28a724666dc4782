use Rattle.std.proofs.Common.{◌≡◌, sym, subst}
use Rattle.std.specs.Prelude.{All}
use Rattle.sr_model.specs.declared.repair.Segment.{Segment}
use Rattle.sr_encode.specs.Kept.{entries}
use Rattle.sr_encode.specs.Placed.{HaveLinkNumbers}
use Rattle.sr_encode.specs.Renumbered.{moved_segment, HasLinkPlace, KeepsPlace}
use Rattle.sr_encode.proofs.MovedLemmas.{entries-keep, have-places, segments-same}
use Rattle.sr_encode.proofs.case_lists.CaseLists.keeps_numbers.Goals as goal

pub keep_places-requires : goal.keep_places-requires
keep_places-requires c =
    let old = c.self.inside in
    let r = c.args.numbers.now in
    let numbers : HaveLinkNumbers (entries old.segments.items old.outcomes.items old.kept.items r.before.0) = rw (← c.self.view_is) at c.requires.numbers in
    subst (λ list. All (HasLinkPlace r.before.0) list) (sym c.deref.ensures.value) (have-places r old.segments.items old.outcomes.items old.kept.items c.self.invariant.0 numbers)

pub returns-then-keep_places : goal.returns-then-keep_places
returns-then-keep_places c stay =
    let old = c.self.inside in
    let r = c.args.numbers.now in
    let keep : All (KeepsPlace r) old.outcomes.items = subst (λ list. All (KeepsPlace r) list) c.deref.ensures.value (c.keep_places.ensures.0 c.if-keep_places.true) in
    let same : All (λ (s : Segment). moved_segment r.links.now s ≡ s) old.segments.items = subst (λ list. All (λ (s : Segment). moved_segment r.links.now s ≡ s) list) c.deref-then-keep_places.ensures.value (c.keep_numbers.ensures.0 stay) in
    rw (← c.self.view_is) (entries-keep r old.segments.items old.outcomes.items old.kept.items (segments-same r.links.now old.segments.items same) keep c.self.invariant.0.each)
