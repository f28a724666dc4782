-- How the parts of a PDU are kept: an array for each kind, and their order beside them. This project's rule.
use Rattle.std.specs.Prelude.{◌<◌, List, [], Option, Some, None, length, map, slice_get}
use Rattle.sr_lsp.specs.declared.table.Part.{Part}
use Rattle.sr_lsp.specs.declared.table.Part.TheVariants.{Reach as ReachPart, Prefix as PrefixPart, Name as NamePart, Risk as RiskPart, Capability as CapabilityPart}
use Rattle.sr_lsp.specs.declared.parts.Arrays.{Arrays}
use Rattle.sr_lsp.specs.declared.parts.Spot.{Spot}
use Rattle.sr_lsp.specs.declared.parts.Spot.TheVariants.{Reach, Prefix, Name, Risk, Capability}

-- the part, where there is one; an empty name stands for none
abbrev pub part_there : {A : Type 0} → (A → Part) → Option A → Part
part_there part None = NamePart (record { octets = [] })
part_there part (Some value) = part value

-- the part that is kept there
abbrev pub part_in : Arrays → Spot → Part
part_in arrays (Reach at) = part_there ReachPart (slice_get arrays.reaches.items at)
part_in arrays (Prefix at) = part_there PrefixPart (slice_get arrays.prefixes.items at)
part_in arrays (Name at) = part_there NamePart (slice_get arrays.names.items at)
part_in arrays (Risk at) = part_there RiskPart (slice_get arrays.risks.items at)
part_in arrays (Capability at) = part_there CapabilityPart (slice_get arrays.capabilities.items at)

-- the parts that are kept, in their order
abbrev pub parts_by : Arrays → List Spot → List Part
parts_by arrays order = map (part_in arrays) order

-- something is kept there
abbrev pub IsInside : Arrays → Spot → Type 0
IsInside arrays (Reach at) = at < length arrays.reaches.items
IsInside arrays (Prefix at) = at < length arrays.prefixes.items
IsInside arrays (Name at) = at < length arrays.names.items
IsInside arrays (Risk at) = at < length arrays.risks.items
IsInside arrays (Capability at) = at < length arrays.capabilities.items
