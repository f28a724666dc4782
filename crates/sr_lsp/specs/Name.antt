-- The name of a router, TLV 137 (RFC 5301, 3).
use Rattle.std.specs.Prelude.{◌≡◌, ℕ, List}
use Rattle.sr_wire.specs.declared.registry.TheConstants.{HOST_NAME}
use Rattle.sr_wire.specs.Format.{Kind, one_part}
use Rattle.sr_lsp.specs.declared.name.Name.{Name}
use Rattle.sr_lsp.specs.declared.table.Part.{Part}
use Rattle.sr_lsp.specs.declared.table.Part.TheVariants.{Name as NamePart}

-- the octets are the name
abbrev pub SaysName : List ℕ → Name → Type 0
SaysName value name = name.octets ≡ value

-- the kind: one part a value, and never a fault
abbrev pub name_kind : Kind Part Name
name_kind = record {
  kind = HOST_NAME;
  part = NamePart;
  format = one_part NamePart SaysName (λ value at check. ⊥);
  value = λ name. name.octets;
  fits = λ name. Unit {0};
  widths = λ name. Unit {0};
}
