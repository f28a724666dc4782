-- the sub-TLVs of the values so far have that many octets
use Rattle.std.proofs.Common.{◌≡◌, ◌≤◌, ◌*◌, length, take}
use Rattle.std.specs.List.{flat_map}
use Rattle.sr_wire.specs.Fields.{sub_text}
use Rattle.sr_wire.proofs.sub_fields.all_length.Given as goal

abbrev pub invariant-loop-x : goal.invariant-loop-x
invariant-loop-x g l = record {
  octets : l.octets ≡ length (flat_map (sub_text g.K.SubKind.sub) (take l.x-index l.field));
  small : l.octets ≤ 257 * l.x-index;
}
