use Rattle.std.proofs.Common.{◌≡◌, ℕ, ◌≤◌, None, Ok, slice_index_or, length}
use Rattle.std.specs.List.{AllZip, range_with_len}
use Rattle.sr_threads.specs.Taking.{AreAt, AreTakenFrom}
use Rattle.sr_threads.proofs.taking.by_number.Given as goal

-- what is in order so far, what is at the places, that the places to come are as they were, and that what was at the others is in order
abbrev pub invariant-loop-number : goal.invariant-loop-number
invariant-loop-number g l =
    AllZip (λ i made. g.F.Fn.post l.fn.f (i, tt) (Ok made)) (range_with_len 0 l.number) l.all.items
    × (length l.all.items ≡ l.number)
    × AreAt (λ i made. g.F.Fn.post l.fn.f (i, tt) (Ok made)) l.fn.count l.places.items
    × ((i : ℕ) → l.number ≤ i → slice_index_or l.places.items i None ≡ slice_index_or l.fn.places.items i None)
    × AreTakenFrom l.fn.places.items l.all.items
