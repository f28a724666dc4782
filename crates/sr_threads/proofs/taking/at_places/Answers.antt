use Rattle.std.proofs.Common.{◌≡◌, ℕ, ◌<◌, ◌∷◌, List, length, Ok, subst, sym, arith}
use Rattle.std.proofs.lemmas.List.Elements.{All-head, All-tail}
use Rattle.sr_threads.specs.declared.taking.Done.{Done}
use Rattle.sr_threads.specs.Taking.{IsDone, AreDone, AreSilentOn}
use Rattle.sr_threads.proofs.TakingLemmas.{filled-more}
use Rattle.sr_threads.proofs.taking.at_places.Goals as goal

pub loop-one-preserved : goal.loop-one-preserved
loop-one-preserved g c =
    let Belongs : ℕ → g.row.T.Denot → Type 0 = λ i made. g.F.Fn.post c.args.f.now (i, tt) (Ok made) in
    let n = c.args.count in
    let one = c.in-Some.one in
    let rest = c.next.new.self.rest.items in
    let next : c.loop-one.one-iterator.rest.items ≡ one ∷ rest = c.in-Some.ensures.steps.0 in
    let done : AreDone Belongs n (one ∷ rest) = subst (AreDone Belongs n) next c.loop-one.invariant.1 in
    let head : IsDone Belongs n one = All-head (IsDone Belongs n) one rest done in
    let lt : one.number < length c.loop-one.places.items = omega (arith, head.0, c.loop-one.invariant.0.long) in (
      c.put_at_place.ensures.places,
      All-tail (IsDone Belongs n) one rest done,
      λ i nothing silent.
          let more = filled-more rest c.loop-one.places.items _ one i lt c.put_at_place.ensures.put nothing silent in
          c.loop-one.invariant.2 i more.0 (subst (λ (all : List (Done g.row.T.Denot)). AreSilentOn i all) (sym next) more.1),
    )
