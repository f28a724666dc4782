use Rattle.std.proofs.Common.{◌↔◌, ℕ, List, subst, sym}
use Rattle.sr_wire.specs.Format.{TlvSays}
use Rattle.sr_wire.proofs.FormatLaws.{unknown_only, unknown_says}
use Rattle.sr_lsp.specs.Layouts.{SaysAllPrefixes, SaysAllReaches, SaysOneRisk, SaysOneRouter}
use Rattle.sr_lsp.specs.Table.{rows}
use Rattle.sr_lsp.specs.declared.table.Part.{Part}
use Rattle.sr_lsp.proofs.LayoutLemmas.{prefixes_from, prefixes_to, reaches_from, reaches_to, router_from, router_to}
use Rattle.sr_lsp.proofs.laws.each_type_says_its_layout.Goals as goal

-- a value under a type says what a layout says
abbrev Says : (List ℕ → List Part → Type 0) → List ℕ → List Part → ℕ → Type 0
Says layout value parts kind = TlvSays rows (record { kind = kind; value = value }) parts ↔ layout value parts

pub returns-clause-reach : goal.returns-clause-reach
returns-clause-reach c = λ tlv parts is. subst (Says SaysAllReaches tlv.value parts) (sym is) (reaches_from tlv.value parts, reaches_to tlv.value parts)

pub returns-clause-prefix : goal.returns-clause-prefix
returns-clause-prefix c = λ tlv parts is. subst (Says SaysAllPrefixes tlv.value parts) (sym is) (prefixes_from tlv.value parts, prefixes_to tlv.value parts)

pub returns-clause-risk : goal.returns-clause-risk
returns-clause-risk c = λ tlv parts is. subst (Says SaysOneRisk tlv.value parts) (sym is) (λ h. h, λ h. h)

pub returns-clause-capability : goal.returns-clause-capability
returns-clause-capability c = λ tlv parts is.
    subst (Says SaysOneRouter tlv.value parts) (sym is) (λ h. (h.0, router_from tlv.value h.0 h.1, h.2), λ h. (h.0, router_to tlv.value h.0 h.1, h.2))

pub returns-clause-unknown : goal.returns-clause-unknown
returns-clause-unknown c = λ tlv parts none. (
  unknown_only rows tlv parts none,
  λ same. subst (λ (ps : List Part). TlvSays rows tlv ps) (sym same) (unknown_says rows tlv none),
)
