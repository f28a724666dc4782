-- The laws of the name of a router.
use Rattle.std.proofs.Common.{◌≡◌, ℕ, List, refl, sym, ap, ◌∙◌}
use Rattle.sr_wire.proofs.FormatLaws.{KindLaws, one_part_fit, one_part_laws}
use Rattle.sr_lsp.specs.declared.name.Name.{Name}
use Rattle.sr_lsp.specs.declared.table.Part.TheVariants.{Name as NamePart}
use Rattle.sr_lsp.specs.Name.{SaysName, name_kind}

same_name : (value : List ℕ) (x y : Name) → SaysName value x → SaysName value y → x ≡ y
same_name value x y a b = ap (λ (xs : List ℕ). record { octets = xs }) (a ∙ sym b)

pub name_laws : KindLaws name_kind
name_laws = record {
  format = one_part_laws NamePart SaysName (λ value at check. ⊥) same_name (λ value name at check says never. never) (λ value at other check check' a b. absurd a);
  again = λ name fits widths. (name, refl, refl);
  fit = one_part_fit name_kind SaysName (λ value name small says. tt);
}
