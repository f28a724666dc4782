-- What the first octets of an encoding fail, where others behind them are missing.
use Rattle.std.specs.Prelude.{ℕ, nat_lt, if◌then◌else◌}
use Rattle.sr_wire.specs.declared.fault.Check.TheVariants.{HeaderOctets, PduLength}
use Rattle.sr_wire.specs.declared.fault.Malformed.{Malformed}

-- the fault of a PDU of which only the first `count` octets are given: at their end where they hold no whole header,
-- else at the PDU length, which they don't reach
abbrev pub truncation_fault : ℕ → Malformed
truncation_fault count =
    if nat_lt count 27 then record { offset = count; check = HeaderOctets }
    else record { offset = 8; check = PduLength }
