-- The kinds of TLVs that are read and written: a row each.
use Rattle.std.specs.Prelude.{List, [], ◌∷◌}
use Rattle.sr_wire.specs.Format.{Row, Spelling, row_of, spelling_of}
use Rattle.sr_lsp.specs.declared.table.Part.{Part}
use Rattle.sr_lsp.specs.declared.table.Part.TheVariants.{Reach as ReachPart, Prefix as PrefixPart, Name as NamePart, Risk as RiskPart, Capability as CapabilityPart}
use Rattle.sr_lsp.specs.Capability.{capability_kind}
use Rattle.sr_lsp.specs.Name.{name_kind}
use Rattle.sr_lsp.specs.Prefix.{prefix_kind}
use Rattle.sr_lsp.specs.Reach.{reach_kind}
use Rattle.sr_lsp.specs.Risk.{risk_kind}

-- by which a TLV is read
abbrev pub rows : List (Row Part)
rows = row_of reach_kind ∷ row_of prefix_kind ∷ row_of name_kind ∷ row_of risk_kind ∷ row_of capability_kind ∷ []

-- by which a part is written
abbrev pub spelling : Part → Spelling
spelling (ReachPart reach) = spelling_of reach_kind reach
spelling (PrefixPart prefix) = spelling_of prefix_kind prefix
spelling (NamePart name) = spelling_of name_kind name
spelling (RiskPart risk) = spelling_of risk_kind risk
spelling (CapabilityPart capability) = spelling_of capability_kind capability
