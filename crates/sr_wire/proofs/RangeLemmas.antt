-- Octets of ranges.
use Rattle.std.proofs.Common.{◌≡◌, ℕ, ◌+◌, ◌-◌, ◌<◌, List, drop, slice_index, arith}
use Rattle.std.specs.List.{slice_range}
use Rattle.std.proofs.lemmas.List.{get_or-drop, get_or-take}
use Rattle.std.proofs.Common.{◌∙◌, ◌≤◌, length, ap, sym}
use Rattle.sr_wire.proofs.TlvLemmas.{length_range}

-- an octet of a range, by its place in the whole
pub index_in_range : (value : List ℕ) (at end k : ℕ) → k < end - at → slice_index (slice_range value at end) k ≡ slice_index value (at + k)
index_in_range value at end k h = get_or-take (end - at) (drop at value) k 0 h ∙ get_or-drop at value k 0

-- a range has as many octets as its ends are apart
pub range_long : (value : List ℕ) (at end : ℕ) → at ≤ end → end ≤ length value → length (slice_range value at end) ≡ end - at
range_long value at end room within =
    let apart : at + (end - at) ≡ end = omega arith in
    ap (λ (k : ℕ). length (slice_range value at k)) (sym apart) ∙ length_range value at (end - at) (omega arith)
