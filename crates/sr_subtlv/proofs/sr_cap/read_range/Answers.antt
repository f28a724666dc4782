use Rattle.std.proofs.Common.{◌≡◌, ℕ, ◌+◌, ◌%◌, ◌^◌, ◌≤◌, length, drop, take, bit_and, sym, ap, ◌∙◌, subst, arith, length-drop}
use Rattle.std.proofs.lemmas.Nat.{and_mask}
use Rattle.sr_wire.specs.Octets.{number}
use Rattle.sr_subtlv.specs.SrCap.{IsRange}
use Rattle.sr_subtlv.proofs.SrCapLaws.{range_at, range_of, no_short_range}
use Rattle.sr_subtlv.proofs.sr_cap.read_range.Goals as goal

pub returns-then-octets-at-lt-RANGE-clause-range : goal.returns-then-octets-at-lt-RANGE-clause-range
returns-then-octets-at-lt-RANGE-clause-range c = λ range is.
    let long : 8 ≤ length (drop c.args.at c.args.octets.now) = no_short_range (drop c.args.at c.args.octets.now) range is in
    omega (arith, length-drop c.args.at c.args.octets.now)

pub returns-clause-range : goal.returns-clause-range
returns-clause-range c =
    let octets = c.args.octets.now in
    let at = c.args.at in
    let found : IsRange (take 8 (drop at octets)) (range_of (number octets (at + 5) 3 % 2 ^ 20) (number octets at 3)) =
    range_at octets at (omega arith) c.if-octets-at-ne-SID_LABEL.false c.if-octets-at-ne-LABEL_OCTETS.false in
    let first : bit_and c.u24_at.result 1048575 ≡ number octets (at + 5) 3 % 2 ^ 20 = and_mask c.u24_at.result 20 ∙ ap (λ (n : ℕ). n % 2 ^ 20) c.u24_at.ensures in
    let size : c.u24_at-2.result ≡ number octets at 3 = c.u24_at-2.ensures in
    let P : ℕ → Type 0 = λ f. IsRange (take 8 (drop at octets)) (range_of f (number octets at 3)) in
    let Q : ℕ → Type 0 = λ s. IsRange (take 8 (drop at octets)) (range_of (bit_and c.u24_at.result 1048575) s) in
    subst Q (sym size) (subst P (sym first) found)
