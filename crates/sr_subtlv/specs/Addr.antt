-- Interface addresses (RFC 5305, 3.2 and 3.3).
use Rattle.std.specs.Prelude.{◌≡◌, ℕ, List, length}
use Rattle.byteorder.specs.Endian.{big_number, big_bytes}
use Rattle.sr_wire.specs.declared.registry.TheConstants.{NEIGHBOUR_ADDR, OWN_ADDR}
use Rattle.sr_wire.specs.Fields.{Sub}
use Rattle.sr_wire.specs.Numbers.{FitsFourOctets}

-- an IPv4 address in four octets
abbrev pub IsAddr : List ℕ → ℕ → Type 0
IsAddr value addr = (length value ≡ 4) × (addr ≡ big_number 4 value)

-- a kind of sub-TLV that holds an address, by its type
abbrev pub addr_sub : ℕ → Sub ℕ
addr_sub kind = record {
  kind = kind;
  means = IsAddr;
  value = big_bytes 4;
  fits = λ addr. Unit {0};
  widths = FitsFourOctets;
}

-- the kind of sub-TLV of the own interface's address
abbrev pub own_addr_sub : Sub ℕ
own_addr_sub = addr_sub OWN_ADDR

-- the kind of sub-TLV of the neighbour's address
abbrev pub neighbour_addr_sub : Sub ℕ
neighbour_addr_sub = addr_sub NEIGHBOUR_ADDR
