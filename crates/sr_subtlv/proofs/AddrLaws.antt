-- The laws of interface addresses.
use Rattle.std.proofs.Common.{◌≡◌, ℕ, List, [], refl, sym, ◌∙◌}
use Rattle.byteorder.specs.Numbers.{big_number-reads_back}
use Rattle.sr_wire.proofs.FieldLaws.{SubLaws}
use Rattle.sr_subtlv.specs.Addr.{IsAddr, addr_sub}

-- octets are one address
same_addr : (octets : List ℕ) (x y : ℕ) → IsAddr octets x → IsAddr octets y → x ≡ y
same_addr octets x y a b = a.1 ∙ sym b.1

-- the laws of both kinds of address
pub addr_laws : (kind : ℕ) → SubLaws (addr_sub kind)
addr_laws kind = record {
  one = same_addr;
  again = λ addr fits widths. (refl, sym (big_number-reads_back 4 addr [] widths));
  fit = λ octets addr small is. tt;
}
