use Rattle.std.proofs.Common.{◌≡◌, ◌≢◌, ℕ, ◌+◌, ◌<◌, ◌&&◌, ◌==◌, false, length, slice_index, ap, arith, ◌∙◌}
use Rattle.std.specs.Int.{bit_at, trailing_zeros}
use Rattle.std.proofs.lemmas.Bool.{eq-eqb, and_from, lt-ltb}
use Rattle.std.proofs.lemmas.Nat.{and_le_l}
use Rattle.std.proofs.lemmas.Nat.Bits.{bit_at-trailing_zeros}
use Rattle.std.specs.Prelude.{nat_lt}
use mir.Syntax.{w64}
use Rattle.sr_lanes.specs.Passes.{is_tight}
use Rattle.sr_lanes.proofs.AmongLemmas.{bits-yes, bits-no, bits-fewer}
use Rattle.sr_lanes.proofs.SizeLemmas.{apart_test}
use Rattle.sr_lanes.proofs.passes.tight_in_word.Goals as goal

-- the lowest bit of what is left is one of the word's
lowest : (left : ℕ) → left ≢ 0 → left < 18446744073709551616 → (trailing_zeros w64 left < 64) × (bit_at left (trailing_zeros w64 left) ≡ 1)
lowest left ne fits = let first = bit_at-trailing_zeros w64 left (omega (arith, ne)) fits in (first.0, first.1)

pub bounds-base-from : goal.bounds-base-from
bounds-base-from c =
    let at = lowest c.left.left c.left-test.true (omega arith) in
    let bit : ℕ = trailing_zeros w64 c.left.left in
    let lt : c.args.from + bit < length c.args.row.now = c.requires.among bit at.0 (c.left.invariant.inside bit at.0 at.1) in
    omega (arith, lt, c.requires.lengths)

pub bounds-row-from : goal.bounds-row-from
bounds-row-from c =
    let at = lowest c.left.left c.left-test.true (omega arith) in
    let bit : ℕ = trailing_zeros w64 c.left.left in
    c.requires.among bit at.0 (c.left.invariant.inside bit at.0 at.1)

pub left-smaller-then-cost-base : goal.left-smaller-then-cost-base
left-smaller-then-cost-base c =
    let at = lowest c.left.left c.left-test.true (omega arith) in
    bits-fewer _ _ c.left.left c.left.found (trailing_zeros w64 c.left.left) c.left.invariant at.0 at.1 (and_le_l c.left.left _)

pub left-preserved-then-cost-base : goal.left-preserved-then-cost-base
left-preserved-then-cost-base c =
    let at = lowest c.left.left c.left-test.true (omega arith) in
    let bit : ℕ = trailing_zeros w64 c.left.left in
    let lt : c.args.from + bit < length c.args.row.now = c.requires.among bit at.0 (c.left.invariant.inside bit at.0 at.1) in
    bits-yes (λ (i : ℕ). is_tight c.args.row.now c.args.cost c.args.base.now (c.args.from + i)) c.args.among c.left.left c.left.found bit c.left.invariant at.0 at.1
    (and_from (nat_lt (c.args.from + bit) (length c.args.row.now)) (c.args.cost + slice_index c.args.base.now (c.args.from + bit) == slice_index c.args.row.now (c.args.from + bit))
    (lt-ltb (c.args.from + bit) (length c.args.row.now) lt)
    (eq-eqb (c.args.cost + slice_index c.args.base.now (c.args.from + bit)) (slice_index c.args.row.now (c.args.from + bit)) c.if-cost-base.true))

pub left-smaller : goal.left-smaller
left-smaller c =
    let at = lowest c.left.left c.left-test.true (omega arith) in
    bits-fewer _ _ c.left.left c.left.found (trailing_zeros w64 c.left.left) c.left.invariant at.0 at.1 (and_le_l c.left.left _)

pub left-preserved : goal.left-preserved
left-preserved c =
    let at = lowest c.left.left c.left-test.true (omega arith) in
    let bit : ℕ = trailing_zeros w64 c.left.left in
    let lt : c.args.from + bit < length c.args.row.now = c.requires.among bit at.0 (c.left.invariant.inside bit at.0 at.1) in
    let apart : (c.args.cost + slice_index c.args.base.now (c.args.from + bit) == slice_index c.args.row.now (c.args.from + bit)) ≡ false = apart_test (c.args.cost + slice_index c.args.base.now (c.args.from + bit)) (slice_index c.args.row.now (c.args.from + bit)) c.if-cost-base.false in
    bits-no (λ (i : ℕ). is_tight c.args.row.now c.args.cost c.args.base.now (c.args.from + i)) c.args.among c.left.left c.left.found bit c.left.invariant at.0 at.1
    (ap (λ t. t && (c.args.cost + slice_index c.args.base.now (c.args.from + bit) == slice_index c.args.row.now (c.args.from + bit))) (lt-ltb (c.args.from + bit) (length c.args.row.now) lt) ∙ apart)
