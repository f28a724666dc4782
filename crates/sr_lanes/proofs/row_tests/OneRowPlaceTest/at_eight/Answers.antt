use Rattle.std.proofs.Common.{ℕ, ◌+◌, ◌≤◌, ◌^◌, length, get_or, replicate, refl}
use Rattle.std.proofs.lemmas.Simd.{get_or-replicate}
use lib.Dec.{ltb}
use Rattle.sr_lanes.proofs.LaneLemmas.{bits-lanes, lanes_at, length-lanes_at, get_or-lanes_at}
use Rattle.sr_lanes.proofs.row_tests.OneRowPlaceTest.at_eight.Goals as goal

pub returns : goal.returns
returns c =
    let row = c.args.self.now.row.now in
    let at = c.args.at in
    let top : ℕ = 2 ^ 62 in
    let inside : at + 8 ≤ length row = c.requires in
    bits-lanes ltb (lanes_at at row) (replicate 8 top) (length-lanes_at at row inside) refl (λ v. ltb (get_or row v 0) top) at (λ i lt.
    rw (get_or-lanes_at at row inside i lt, get_or-replicate 8 i top 0 lt) refl)
