-- the sub-TLVs of the values so far were appended
use Rattle.std.proofs.Common.{◌≡◌, ◌++◌, take}
use Rattle.std.specs.List.{flat_map}
use Rattle.sr_wire.specs.Fields.{sub_text}
use Rattle.sr_wire.proofs.sub_fields.write_all_subs.Given as goal

abbrev pub invariant-loop-x : goal.invariant-loop-x
invariant-loop-x g l = l.out.items ≡ l.fn.out.items ++ flat_map (sub_text g.K.SubKind.sub) (take l.x-index l.field)
