-- The laws of the table: a row each, twice.
use Rattle.std.proofs.Common.{[], ◌∷◌}
use Rattle.sr_wire.specs.Format.{TlvSays}
use Rattle.sr_wire.specs.Parts.{tlv_of}
use Rattle.sr_wire.proofs.FormatLaws.{PartsLaws, TableLaws, row_laws}
use Rattle.sr_lsp.specs.declared.table.Part.{Part}
use Rattle.sr_lsp.specs.declared.table.Part.TheVariants.{Reach, Prefix, Name, Risk, Capability}
use Rattle.sr_lsp.specs.Capability.{capability_kind}
use Rattle.sr_lsp.specs.InRange.{FitsPart, HasPartWidths}
use Rattle.sr_lsp.specs.Name.{name_kind}
use Rattle.sr_lsp.specs.Prefix.{prefix_kind}
use Rattle.sr_lsp.specs.Reach.{reach_kind}
use Rattle.sr_lsp.specs.Risk.{risk_kind}
use Rattle.sr_lsp.specs.Table.{rows, spelling}
use Rattle.sr_lsp.proofs.CapabilityLaws.{capability_laws}
use Rattle.sr_lsp.proofs.NameLaws.{name_laws}
use Rattle.sr_lsp.proofs.PrefixLaws.{prefix_laws}
use Rattle.sr_lsp.proofs.ReachLaws.{reach_laws}
use Rattle.sr_lsp.proofs.RiskLaws.{risk_laws}

pub table_laws : TableLaws FitsPart rows
table_laws = (
  row_laws FitsPart reach_kind reach_laws (λ x fits. fits),
  (
    row_laws FitsPart prefix_kind prefix_laws (λ x fits. fits),
    (
      row_laws FitsPart name_kind name_laws (λ x fits. fits),
      (row_laws FitsPart risk_kind risk_laws (λ x fits. fits), (row_laws FitsPart capability_kind capability_laws (λ x fits. fits), tt)),
    ),
  ),
)

part_again : (part : Part) → FitsPart part → HasPartWidths part → TlvSays rows (tlv_of spelling part) (part ∷ [])
part_again (Reach reach) fits widths = reach_laws.again reach fits widths
part_again (Prefix prefix) fits widths = prefix_laws.again prefix fits widths
part_again (Name name) fits widths = name_laws.again name fits widths
part_again (Risk risk) fits widths = risk_laws.again risk fits widths
part_again (Capability capability) fits widths = capability_laws.again capability fits widths

pub parts_laws : PartsLaws rows spelling
parts_laws = record { table = table_laws; again = part_again }
