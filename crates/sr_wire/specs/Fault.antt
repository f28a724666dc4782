-- Checks of a PDU, and faults of reading.
use Rattle.std.specs.Prelude.{ℕ, ◌+◌}
use Rattle.sr_wire.specs.declared.fault.Check.{Check}
use Rattle.sr_wire.specs.declared.fault.Check.TheVariants.{HeaderOctets, Discriminator, HeaderLength, Version, IdLength, PduType, PduLength, TlvExtent, FieldExtent}
use Rattle.sr_wire.specs.declared.fault.Malformed.{Malformed as IsMalformed}
use Rattle.sr_wire.specs.declared.read_fault.ReadFault.{ReadFault}
use Rattle.sr_wire.specs.declared.read_fault.ReadFault.TheVariants.{Malformed, Memory}

-- memory ran out, or P holds of what is malformed
abbrev pub IfMalformed : ReadFault → (IsMalformed → Type 0) → Type 0
IfMalformed (Malformed malformed) P = P malformed
IfMalformed (Memory error) P = Unit {0}

-- the same fault, as its place is counted with `octets` more octets before it
abbrev pub fault_behind : ReadFault → ℕ → ReadFault
fault_behind (Malformed malformed) octets =
    Malformed (record { offset = malformed.offset + octets; check = malformed.check })
fault_behind (Memory error) octets = Memory error

-- the number by which a check is known
abbrev pub check_number : Check → ℕ
check_number HeaderOctets = 1
check_number Discriminator = 2
check_number HeaderLength = 3
check_number Version = 4
check_number IdLength = 5
check_number PduType = 6
check_number PduLength = 7
check_number TlvExtent = 8
check_number FieldExtent = 9
