-- The parts of a PDU as they are kept and lent.
use Rattle.std.specs.Prelude.{◌≡◌, []}
use Rattle.sr_lsp.specs.declared.table.Part.{Part}
use Rattle.sr_lsp.specs.declared.table.Part.TheVariants.{Reach as ReachPart, Prefix as PrefixPart, Name as NamePart, Risk as RiskPart, Capability as CapabilityPart}
use Rattle.sr_lsp.specs.declared.parts.Arrays.{Arrays}
use Rattle.sr_lsp.specs.declared.parts.PartRef.{PartRef}
use Rattle.sr_lsp.specs.declared.parts.PartRef.TheVariants.{Reach, Prefix, Name, Risk, Capability}
use Rattle.sr_lsp.specs.declared.parts.Spot.{Spot}
use Rattle.sr_lsp.specs.Spots.{IsInside, part_in}

-- the part that is lent
abbrev pub part_of : PartRef → Part
part_of (Reach reach) = ReachPart reach.now
part_of (Prefix prefix) = PrefixPart prefix.now
part_of (Name name) = NamePart name.now
part_of (Risk risk) = RiskPart risk.now
part_of (Capability capability) = CapabilityPart capability.now

-- nothing is kept
pub record AreEmpty (arrays : Arrays) : Type 0 where
  pub reaches : arrays.reaches.items ≡ []
  pub prefixes : arrays.prefixes.items ≡ []
  pub names : arrays.names.items ≡ []
  pub risks : arrays.risks.items ≡ []
  pub capabilities : arrays.capabilities.items ≡ []

-- what was kept still is, where it was
pub record AreUnmoved (old new : Arrays) : Type 0 where
  pub inside : (spot : Spot) → IsInside old spot → IsInside new spot
  pub same : (spot : Spot) → IsInside old spot → part_in new spot ≡ part_in old spot

-- the part is kept there, and what was kept still is
pub record IsPutAway (old new : Arrays) (part : Part) (spot : Spot) : Type 0 where
  pub others : AreUnmoved old new
  pub inside : IsInside new spot
  pub is : part_in new spot ≡ part
