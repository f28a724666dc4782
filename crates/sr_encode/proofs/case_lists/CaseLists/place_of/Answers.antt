use Rattle.std.proofs.Common.{ℕ, ◌≡◌, ◌<◌, length, arith, ap, subst, rules, Ok, Err}
use Rattle.std.specs.List.Sorted.{IsBinarySearchResult}
use Rattle.std.specs.Ordering.{nat_cmp}
use Rattle.std.proofs.lemmas.List.{length-map}
use Rattle.std.proofs.lemmas.List.Sorted.{answers_always}
use Rattle.sr_encode.specs.Placed.{listed_from, Listing}
use Rattle.sr_encode.specs.declared.kept.Kept.{Kept}
use Rattle.sr_encode.specs.Answered.{destination_at, NoAnswer}
use Rattle.sr_encode.specs.Kept.{entry_from}
use Rattle.sr_encode.proofs.AnswerLemmas.{found-at, missed-at}
use Rattle.sr_encode.proofs.case_lists.CaseLists.place_of.Goals as goal

abbrev key : Kept → ℕ
key kept = kept.destination.0

pub returns-in-Ok : goal.returns-in-Ok
returns-in-Ok c start =
    let bound : c.in-Ok.place < length c.self.inside.kept.items = omega (arith, c.in-Ok.ensures.bound, ap length c.deref.ensures.value) in
    let found : IsBinarySearchResult (λ (y : Kept). nat_cmp (key y) c.args.destination.0) c.self.inside.kept.items (Ok c.in-Ok.place) =
    subst (λ l. IsBinarySearchResult (λ (y : Kept). nat_cmp (key y) c.args.destination.0) l (Ok c.in-Ok.place)) c.deref.ensures.value (c.in-Ok.ensures.position key (answers_always _ _ _ (λ f a r f' k. search rules))) in
    let node : destination_at (listed_from start c.args.self.now) c.in-Ok.place ≡ c.args.destination.0 =
    rw (← c.self.view_is) (found-at start c.self.inside.segments.items c.self.inside.outcomes.items c.self.inside.kept.items (c.self.invariant.1 start) c.args.destination.0 c.in-Ok.place bound found) in
    (omega (arith, bound, ap (λ (l : Listing). length (listed_from start l)) c.self.view_is, length-map c.self.inside.kept.items (entry_from start c.self.inside.segments.items c.self.inside.outcomes.items)), node)

pub returns-in-Err : goal.returns-in-Err
returns-in-Err c start =
    let missed : IsBinarySearchResult (λ (y : Kept). nat_cmp (key y) c.args.destination.0) c.self.inside.kept.items (Err c.in-Err.field-0) =
    subst (λ l. IsBinarySearchResult (λ (y : Kept). nat_cmp (key y) c.args.destination.0) l (Err c.in-Err.field-0)) c.deref.ensures.value (c.in-Err.ensures.position key (answers_always _ _ _ (λ f a r f' k. search rules))) in
    subst (λ (l : Listing). NoAnswer (listed_from start l) c.args.destination.0) c.self.view_is
    (missed-at start c.self.inside.segments.items c.self.inside.outcomes.items c.self.inside.kept.items (c.self.invariant.1 start) c.args.destination.0 c.in-Err.field-0 missed)
