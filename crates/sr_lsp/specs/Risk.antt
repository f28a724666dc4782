-- Shared-risk link groups, TLV 138 (RFC 5307, 1.4).
use Rattle.std.specs.Prelude.{◌≡◌, ◌≢◌, ℕ, ◌+◌, ◌*◌, ◌%◌, ◌≤◌, ◌==◌, ◌⊎◌, List, ◌∷◌, ◌++◌, All, drop, length}
use Rattle.byteorder.specs.Endian.{big_bytes}
use Rattle.sr_wire.specs.declared.fault.Check.TheVariants.{FieldExtent}
use Rattle.sr_wire.specs.declared.registry.TheConstants.{RISK_NUMBERED, SHARED_RISK}
use Rattle.sr_wire.specs.Format.{Kind, one_part}
use Rattle.sr_wire.specs.Numbers.{AreNumbers, FitsFourOctets, FitsSixOctets, PassesEnd, bit_if, numbers_text}
use Rattle.sr_wire.specs.Octets.{number, octet}
use Rattle.sr_lsp.specs.declared.risk.Risk.{Risk}
use Rattle.sr_lsp.specs.declared.table.Part.{Part}
use Rattle.sr_lsp.specs.declared.table.Part.TheVariants.{Risk as RiskPart}

-- the neighbour's system id and pseudonode, flags whose lowest bit says that the link is numbered, two fields that
-- name the link, and the groups, four octets each
pub record SaysRisk (value : List ℕ) (risk : Risk) : Type 0 where
  pub whole : 16 ≤ length value
  pub neighbour : risk.neighbour ≡ number value 0 6
  pub pseudonode : risk.pseudonode ≡ octet value 6
  pub numbered : risk.numbered ≡ (octet value 7 % 2 == RISK_NUMBERED)
  pub local : risk.local ≡ number value 8 4
  pub remote : risk.remote ≡ number value 12 4
  pub groups : AreNumbers (drop 16 value) risk.groups

-- the first field that passes the end: one of the five, or a group of which some octets stand
abbrev pub CutField : ℕ → ℕ → Type 0
CutField long at =
    ((at ≡ 0) × PassesEnd long 0 6)
    ⊎ ((at ≡ 6) × PassesEnd long 6 1)
    ⊎ ((at ≡ 7) × PassesEnd long 7 1)
    ⊎ ((at ≡ 8) × PassesEnd long 8 4)
    ⊎ ((at ≡ 12) × PassesEnd long 12 4)
    ⊎ ((k : ℕ) × (at ≡ 16 + 4 * k) × (long ≢ at) × PassesEnd long at 4)

-- its one spelling: unused flags are 0
abbrev pub risk_value : Risk → List ℕ
risk_value risk =
    big_bytes 6 risk.neighbour ++ risk.pseudonode ∷ bit_if risk.numbered RISK_NUMBERED ∷ big_bytes 4 risk.local
    ++ big_bytes 4 risk.remote ++ numbers_text risk.groups

-- the neighbour fits six octets, and the ends of its link and its groups four each
pub record HasRiskWidths (risk : Risk) : Type 0 where
  pub neighbour : FitsSixOctets risk.neighbour
  pub local : FitsFourOctets risk.local
  pub remote : FitsFourOctets risk.remote
  pub groups : All FitsFourOctets risk.groups

-- the kind: one part a value; its fields always fit
abbrev pub risk_kind : Kind Part Risk
risk_kind = record {
  kind = SHARED_RISK;
  part = RiskPart;
  format = one_part RiskPart SaysRisk (λ value at check. CutField (length value) at × (check ≡ FieldExtent));
  value = risk_value;
  fits = λ risk. Unit {0};
  widths = HasRiskWidths;
}
