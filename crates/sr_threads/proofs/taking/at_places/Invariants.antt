use Rattle.std.proofs.Common.{◌≡◌, ℕ, Ok, None, slice_index_or}
use Rattle.sr_threads.specs.Taking.{AreDone, AreAt, AreSilentOn}
use Rattle.sr_threads.proofs.taking.at_places.Given as goal

-- what is at its place so far, what is still to be put there, and that there is nothing only where all is still to be put
abbrev pub invariant-loop-one : goal.invariant-loop-one
invariant-loop-one g l =
    AreAt (λ i made. g.F.Fn.post l.fn.f (i, tt) (Ok made)) l.fn.count l.places.items
    × AreDone (λ i made. g.F.Fn.post l.fn.f (i, tt) (Ok made)) l.fn.count l.one-iterator.rest.items
    × ((i : ℕ) → slice_index_or l.places.items i None ≡ None → AreSilentOn i l.one-iterator.rest.items → AreSilentOn i l.fn.all.items)
