-- Faults of writing.
use Rattle.sr_wire.specs.Parts.{IsFirstTooLong}
use Rattle.sr_lsp.specs.declared.lsp.Lsp.{Lsp}
use Rattle.sr_lsp.specs.declared.write_fault.WriteFault.{WriteFault}
use Rattle.sr_lsp.specs.declared.write_fault.WriteFault.TheVariants.{PartTooLong, PduTooLong, Memory}
use Rattle.sr_lsp.specs.Table.{spelling}
use Rattle.sr_lsp.specs.Text.{IsTooLong}

-- the fault is the PDU's own: its first part that is too long, or else its own length; memory may run out at any PDU
abbrev pub IsWriteFault : Lsp → WriteFault → Type 0
IsWriteFault lsp (PartTooLong part) = IsFirstTooLong spelling lsp.parts part
IsWriteFault lsp (PduTooLong length) = IsTooLong lsp length
IsWriteFault lsp (Memory error) = Unit {0}
