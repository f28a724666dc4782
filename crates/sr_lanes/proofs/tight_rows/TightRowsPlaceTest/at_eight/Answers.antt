use Rattle.std.proofs.Common.{◌≡◌, ◌+◌, ◌≤◌, length, get_or, arith}
use lib.Dec.{eqb}
use Rattle.sr_lanes.proofs.LaneLemmas.{bits-lanes, sums_of, length-sums_of, get_or-sums_of, lanes_at, length-lanes_at, get_or-lanes_at}
use Rattle.sr_lanes.proofs.tight_rows.TightRowsPlaceTest.at_eight.Goals as goal

pub returns : goal.returns
returns c =
    let row = c.args.self.now.row.now in
    let base = c.args.self.now.base.now in
    let cost = c.args.self.now.cost in
    let at = c.args.at in
    let long : length base ≡ length row = c.args.self.now.lengths in
    let inside : at + 8 ≤ length row = c.requires in
    let room : at + 8 ≤ length base = omega (arith, long, inside) in
    let bases = lanes_at at base in
    let b8 = length-lanes_at at base room in
    bits-lanes eqb (sums_of cost bases) (lanes_at at row) (length-sums_of cost bases b8) (length-lanes_at at row inside) (λ v. eqb (cost + get_or base v 0) (get_or row v 0)) at (λ i lt.
    let cell : get_or bases i 0 ≡ get_or base (at + i) 0 = get_or-lanes_at at base room i lt in
    let small = c.args.self.now.cells (at + i) in
    let low = c.args.self.now.small in
    let sum = get_or-sums_of cost bases i b8 lt (omega (arith, cell, small, low)) in
    rw (sum, cell, get_or-lanes_at at row inside i lt) Rattle.std.proofs.Common.refl)
