-- Faults of reading.
use Rattle.std.proofs.Common.{◌≡◌, ℕ, ◌+◌, sym, subst}
use Rattle.sr_wire.specs.declared.fault.Malformed.{Malformed as IsMalformed}
use Rattle.sr_wire.specs.declared.read_fault.ReadFault.{ReadFault}
use Rattle.sr_wire.specs.declared.read_fault.ReadFault.TheVariants.{Malformed, Memory}
use Rattle.sr_wire.specs.Fault.{IfMalformed, fault_behind}

-- a fault behind other octets
pub moved_fault : (P Q : IsMalformed → Type 0) (fault moved : ReadFault) (at : ℕ) → moved ≡ fault_behind fault at → ((m : IsMalformed) → P m → Q (record { offset = m.offset + at; check = m.check }))
    → IfMalformed fault P → IfMalformed moved Q
moved_fault P Q (Malformed m) moved at same step is = let R : ReadFault → Type 0 = λ f. IfMalformed f Q in subst R (sym same) (step m is)
moved_fault P Q (Memory e) moved at same step is = let R : ReadFault → Type 0 = λ f. IfMalformed f Q in subst R (sym same) tt
