-- Maximum SID depths of a node (RFC 8491, 2).
use Rattle.std.specs.Prelude.{◌≡◌, ℕ, List, [], ◌∷◌}
use Rattle.std.specs.List.{flat_map}
use Rattle.sr_wire.specs.declared.registry.TheConstants.{NODE_MSD}
use Rattle.sr_wire.specs.Fields.{Sub}
use Rattle.sr_subtlv.specs.declared.msd.Msd.{Msd}

-- one octet of the depth's type, and one of the depth
abbrev pub msd_value : Msd → List ℕ
msd_value msd = msd.kind ∷ msd.value ∷ []

-- the depths, one after another
abbrev pub msds_value : List Msd → List ℕ
msds_value msds = flat_map msd_value msds

-- the octets are these pairs of a type and a value
abbrev pub AreMsds : List ℕ → List Msd → Type 0
AreMsds value msds = value ≡ msds_value msds

-- the kind of sub-TLV of maximum SID depths
abbrev pub msds_sub : Sub (List Msd)
msds_sub = record {
  kind = NODE_MSD;
  means = AreMsds;
  value = msds_value;
  fits = λ msds. Unit {0};
  widths = λ msds. Unit {0};
}
