-- Link identifiers (RFC 5307, 1.1).
use Rattle.std.specs.Prelude.{◌≡◌, ℕ, ◌++◌, List, length}
use Rattle.byteorder.specs.Endian.{big_bytes}
use Rattle.sr_wire.specs.declared.registry.TheConstants.{LINK_IDS}
use Rattle.sr_wire.specs.Fields.{Sub}
use Rattle.sr_wire.specs.Numbers.{FitsFourOctets}
use Rattle.sr_wire.specs.Octets.{number}
use Rattle.sr_subtlv.specs.declared.link_ids.LinkIds.{LinkIds}

-- a value holds the local identifier, then the remote one, in four octets each
pub record AreIds (value : List ℕ) (ids : LinkIds) : Type 0 where
  pub long : length value ≡ 8
  pub local : ids.local ≡ number value 0 4
  pub remote : ids.remote ≡ number value 4 4

-- the one spelling of link identifiers as a value
abbrev pub ids_value : LinkIds → List ℕ
ids_value ids = big_bytes 4 ids.local ++ big_bytes 4 ids.remote

-- both identifiers fit four octets each
pub record HasIdsWidths (ids : LinkIds) : Type 0 where
  pub local : FitsFourOctets ids.local
  pub remote : FitsFourOctets ids.remote

-- the kind of sub-TLV of link identifiers
abbrev pub ids_sub : Sub LinkIds
ids_sub = record { kind = LINK_IDS; means = AreIds; value = ids_value; fits = λ ids. Unit {0}; widths = HasIdsWidths }
