-- the parts so far are short, and have that many octets
use Rattle.std.proofs.Common.{◌≡◌, ◌≤◌, ℕ, ◌+◌, ◌*◌, ◌<◌, length, take, slice_index_or}
use Rattle.sr_wire.specs.Parts.{HasShortValue, body_text}
use Rattle.sr_lsp.specs.declared.table.Part.{Part}
use Rattle.sr_lsp.specs.Table.{spelling}
use Rattle.sr_lsp.proofs.writing.lsp_length.Given as goal

abbrev pub invariant-loop-place : goal.invariant-loop-place
invariant-loop-place l = record {
  octets : l.octets ≡ 27 + length (body_text spelling (take l.place l.lsp.parts));
  small : l.octets ≤ 27 + 257 * l.place;
  short : (k : ℕ) (d : Part) → k < l.place → HasShortValue spelling (slice_index_or l.lsp.parts k d);
}
