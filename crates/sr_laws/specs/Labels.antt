-- Laws of labels.
use Rattle.std.specs.Prelude.{◌≡◌, ◌↔◌, ℕ, ◌+◌, ◌<◌, ◌≤◌, List, length, Option, Some}
use Rattle.sr_model.specs.declared.label.Range.{Range}
use Rattle.sr_model.specs.Label.{label_of, IsIndexOf, sizes, range_at, IsSrgb, Net}
use Rattle.sr_model.specs.Rule.{IsAccepted, IsNet}

-- the label lies in one of the ranges
abbrev pub IsInRanges : List Range → ℕ → Type 0
IsInRanges rs t =
    (k : ℕ) × (k < length rs) × ((range_at rs k).first ≤ t) × (t < (range_at rs k).first + (range_at rs k).size)

-- the indices below the sum of the sizes have labels, and no others
abbrev pub IndicesHaveLabels : Type 0
IndicesHaveLabels = (rs : List Range) (i : ℕ) → (i < sizes rs) ↔ ((t : ℕ) × (label_of rs i ≡ Some t))

-- the labels in the ranges have indices, and no others
abbrev pub LabelsHaveIndices : Type 0
LabelsHaveIndices = (rs : List Range) (t : ℕ) → IsInRanges rs t ↔ ((i : ℕ) × (label_of rs i ≡ Some t))

-- in an SRGB a label has at most one index
abbrev pub IndicesAreUnique : Type 0
IndicesAreUnique =
    (rs : List Range) → IsSrgb rs → (t : ℕ) (a b : Option ℕ) → IsIndexOf rs t a → IsIndexOf rs t b → a ≡ b

-- an SRGB has at most 2^20 labels, none of them reserved
abbrev pub LabelsAreFree : Type 0
LabelsAreFree =
    (rs : List Range) → IsSrgb rs
    → (sizes rs ≤ 1048576) × ((i t : ℕ) → label_of rs i ≡ Some t → (16 ≤ t) × (t < 1048576))

-- where no rule is broken, labels tell each node what to do
abbrev pub AcceptedNetsAreNets : Type 0
AcceptedNetsAreNets = (n : Net) → IsAccepted n → IsNet n
