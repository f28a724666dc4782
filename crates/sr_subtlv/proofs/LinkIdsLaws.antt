-- The laws of link identifiers.
use Rattle.std.proofs.Common.{◌≡◌, ℕ, List, [], refl, sym, ◌∙◌}
use Rattle.byteorder.specs.Endian.{big_bytes}
use Rattle.byteorder.specs.Numbers.{big_number-reads_back}
use Rattle.sr_wire.proofs.FieldLaws.{SubLaws}
use Rattle.sr_subtlv.specs.declared.link_ids.LinkIds.{LinkIds}
use Rattle.sr_subtlv.specs.LinkIds.{AreIds, HasIdsWidths, ids_sub, ids_value}

-- link identifiers by their fields
abbrev link_ids_of : ℕ → ℕ → LinkIds
link_ids_of local remote = record { local = local; remote = remote }

-- a value is one pair of link identifiers
same_ids : (octets : List ℕ) (x y : LinkIds) → AreIds octets x → AreIds octets y → x ≡ y
same_ids octets x y a b =
    let locals : x.local ≡ y.local = a.local ∙ sym b.local in
    let remotes : x.remote ≡ y.remote = a.remote ∙ sym b.remote in
    let same : link_ids_of x.local x.remote ≡ link_ids_of y.local y.remote = cc in
    same

-- what is written of link identifiers is those
ids_again : (ids : LinkIds) → HasIdsWidths ids → AreIds (ids_value ids) ids
ids_again ids widths = record {
  long = refl;
  local = sym (big_number-reads_back 4 ids.local (big_bytes 4 ids.remote) widths.local);
  remote = sym (big_number-reads_back 4 ids.remote [] widths.remote);
}

-- the laws of the kind
pub ids_laws : SubLaws ids_sub
ids_laws = record { one = same_ids; again = λ ids fits widths. ids_again ids widths; fit = λ octets ids small are. tt }
