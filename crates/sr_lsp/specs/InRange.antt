-- Values of a link-state PDU that its layouts can hold, and values whose numbers fit the octets in which they are
-- written.
use Rattle.std.specs.Prelude.{◌<◌, ◌^◌, All}
use Rattle.sr_wire.specs.Numbers.{FitsFourOctets, FitsSixOctets}
use Rattle.sr_lsp.specs.declared.lsp.Lsp.{Lsp}
use Rattle.sr_lsp.specs.declared.table.Part.{Part}
use Rattle.sr_lsp.specs.Table.{spelling}

-- the fields fit the layout of their part
abbrev pub FitsPart : Part → Type 0
FitsPart part = (spelling part).fits

-- in range: every field fits its layout
abbrev pub FitsLsp : Lsp → Type 0
FitsLsp lsp = All FitsPart lsp.parts

-- the numbers of a part fit their octets, where they have more than one and being in range doesn't bound them already
abbrev pub HasPartWidths : Part → Type 0
HasPartWidths part = (spelling part).widths

-- the numbers of the header and of every part fit their octets, as those of every value in memory do. This project's
-- rule.
pub record HasWidths (lsp : Lsp) : Type 0 where
  pub lifetime : lsp.lifetime < 2 ^ 16
  pub system : FitsSixOctets lsp.id.system
  pub sequence : FitsFourOctets lsp.sequence
  pub checksum : lsp.checksum < 2 ^ 16
  pub parts : All HasPartWidths lsp.parts
