use Rattle.std.proofs.Common.{◌≡◌, ◌+◌, ◌≤◌, length, get_or, arith, not, refl}
use lib.Dec.{eqb}
use Rattle.sr_lanes.proofs.LaneLemmas.{bits-lanes, lanes_at, length-lanes_at, get_or-lanes_at}
use Rattle.sr_lanes.proofs.row_tests.TwoRowsPlaceTest.at_eight.Goals as goal

pub returns : goal.returns
returns c =
    let a = c.args.self.now.a.now in
    let b = c.args.self.now.b.now in
    let at = c.args.at in
    let long : length b ≡ length a = c.args.self.now.lengths in
    let inside : at + 8 ≤ length a = c.requires in
    let room : at + 8 ≤ length b = omega (arith, long, inside) in
    bits-lanes (λ x y. not (eqb x y)) (lanes_at at a) (lanes_at at b) (length-lanes_at at a inside) (length-lanes_at at b room) (λ v. not (eqb (get_or a v 0) (get_or b v 0))) at (λ i lt.
    rw (get_or-lanes_at at a inside i lt, get_or-lanes_at at b room i lt) refl)
