-- What a link-state PDU says of a domain, apart from how it is flooded (this project's rule).
use Rattle.std.specs.Prelude.{ℕ, List}
use Rattle.sr_lsp.specs.declared.lsp.Lsp.{Lsp}
use Rattle.sr_lsp.specs.declared.table.Part.{Part}

-- flags, among them the overload bit, and parts
pub record Said : Type 0 where
  pub flags : ℕ
  pub parts : List Part

-- what a PDU says: neither its sequence number, nor its lifetime, nor its checksum belongs to that
abbrev pub said_by : Lsp → Said
said_by lsp = record { flags = lsp.flags; parts = lsp.parts }
