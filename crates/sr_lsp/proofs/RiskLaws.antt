-- The laws of shared-risk link groups.
use Rattle.std.proofs.Common.{◌≡◌, ◌≢◌, ◌==◌, ℕ, ◌-◌, ◌*◌, ◌/◌, ◌%◌, ◌≤◌, Bool, true, false, inl, inr, List, ◌∷◌, ◌++◌, length, drop, refl, sym, ◌∙◌, arith, length-append, length-drop}
use Rattle.std.proofs.lemmas.List.Elements.{recursion_from_All}
use Rattle.byteorder.specs.Endian.{big_bytes}
use Rattle.byteorder.specs.Numbers.{big_number-reads_back}
use Rattle.sr_wire.specs.declared.fault.Check.TheVariants.{FieldExtent}
use Rattle.sr_wire.specs.declared.registry.TheConstants.{RISK_NUMBERED}
use Rattle.sr_wire.specs.Numbers.{FitsFourOctets, bit_if, numbers_text}
use Rattle.sr_wire.proofs.FormatLaws.{KindLaws, one_part_fit, one_part_laws}
use Rattle.sr_wire.proofs.NumberLemmas.{are_long, numbers_again, same_numbers}
use Rattle.sr_lsp.specs.declared.risk.Risk.{Risk}
use Rattle.sr_lsp.specs.declared.table.Part.TheVariants.{Risk as RiskPart}
use Rattle.sr_lsp.specs.Risk.{CutField, HasRiskWidths, SaysRisk, risk_kind, risk_value}

abbrev risk_of : ℕ → ℕ → Bool → ℕ → ℕ → List ℕ → Risk
risk_of neighbour pseudonode numbered local remote groups =
    record { neighbour = neighbour; pseudonode = pseudonode; numbered = numbered; local = local; remote = remote; groups = groups }

-- a value says one shared-risk group
same_risk : (value : List ℕ) (x y : Risk) → SaysRisk value x → SaysRisk value y → x ≡ y
same_risk value x y a b =
    let neighbours : x.neighbour ≡ y.neighbour = a.neighbour ∙ sym b.neighbour in
    let pseudonodes : x.pseudonode ≡ y.pseudonode = a.pseudonode ∙ sym b.pseudonode in
    let flags : x.numbered ≡ y.numbered = a.numbered ∙ sym b.numbered in
    let locals : x.local ≡ y.local = a.local ∙ sym b.local in
    let remotes : x.remote ≡ y.remote = a.remote ∙ sym b.remote in
    let groups : x.groups ≡ y.groups = same_numbers (drop 16 value) x.groups y.groups a.groups b.groups in
    let same : risk_of x.neighbour x.pseudonode x.numbered x.local x.remote x.groups ≡ risk_of y.neighbour y.pseudonode y.numbered y.local y.remote y.groups = cc in
    same

-- a value that says groups cuts no field
sound_risk : (value : List ℕ) (risk : Risk) → SaysRisk value risk → (at : ℕ) → CutField (length value) at → ⊥
sound_risk value risk says at fault =
    let whole : 16 ≤ length value = says.whole in
    let groups : length (drop 16 value) ≡ 4 * length risk.groups = are_long (drop 16 value) risk.groups says.groups in
    let long : length (drop 16 value) ≡ length value - 16 = length-drop 16 value in
    elim fault [
      | inl a ↦ omega (arith, a.0, a.1.1)
      | inr b ↦ elim b [
        | inl a ↦ omega (arith, a.0, a.1.1)
        | inr d ↦ elim d [
          | inl a ↦ omega (arith, a.0, a.1.1)
          | inr e ↦ elim e [
            | inl a ↦ omega (arith, a.0, a.1.1)
            | inr f ↦ elim f [ inl a ↦ omega (arith, a.0, a.1.1) | inr g ↦ absurd (g.2 (omega (arith, g.1, g.3.0, g.3.1))) ]
          ]
        ]
      ]
    ]

-- one field is the first that a value of that length cuts
same_cut : (long at other : ℕ) → CutField long at → CutField long other → at ≡ other
same_cut long at other a b = grind arith

lowest_bit : (numbered : Bool) → numbered ≡ (bit_if numbered RISK_NUMBERED % 2 == RISK_NUMBERED)
lowest_bit true = refl
lowest_bit false = refl

-- a value that is written is read again
risk_again : (risk : Risk) → HasRiskWidths risk → SaysRisk (risk_value risk) risk
risk_again risk widths =
    let value = risk_value risk in
    let groups = numbers_text risk.groups in
    let front = big_bytes 6 risk.neighbour ++ risk.pseudonode ∷ bit_if risk.numbered RISK_NUMBERED ∷ big_bytes 4 risk.local ++ big_bytes 4 risk.remote in
    record {
      whole = omega (arith, length-append front groups);
      neighbour = sym (big_number-reads_back 6 risk.neighbour (drop 6 value) widths.neighbour);
      pseudonode = refl;
      numbered = lowest_bit risk.numbered;
      local = sym (big_number-reads_back 4 risk.local (drop 12 value) widths.local);
      remote = sym (big_number-reads_back 4 risk.remote groups widths.remote);
      groups = numbers_again risk.groups (recursion_from_All FitsFourOctets risk.groups widths.groups);
    }

pub risk_laws : KindLaws risk_kind
risk_laws = record {
  format = one_part_laws RiskPart SaysRisk (λ value at check. CutField (length value) at × (check ≡ FieldExtent)) same_risk
      (λ value risk at check says fault. sound_risk value risk says at fault.0)
      (λ value at other check check' a b. record { places = same_cut (length value) at other a.0 b.0; checks = a.1 ∙ sym b.1 });
  again = λ risk fits widths. (risk, risk_again risk widths, refl);
  fit = one_part_fit risk_kind SaysRisk (λ value risk small says. tt);
}

-- for the functions: a group of which some octets stand
pub cut_group : (long : ℕ) → 16 ≤ long → long % 4 ≢ 0 → CutField long (long - long % 4)
cut_group long some cut = inr (inr (inr (inr (inr (long / 4 - 4, omega arith, omega arith, (omega arith, omega arith))))))
