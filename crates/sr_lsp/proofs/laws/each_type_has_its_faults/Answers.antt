use Rattle.std.proofs.Common.{◌≡◌, ◌↔◌, ℕ, List, length, subst, sym}
use Rattle.sr_wire.specs.declared.fault.Check.{Check}
use Rattle.sr_wire.specs.declared.fault.Check.TheVariants.{FieldExtent}
use Rattle.sr_wire.specs.Format.{ValueFault}
use Rattle.sr_wire.specs.Run.{RunFault}
use Rattle.sr_wire.proofs.FormatLaws.{unknown_sound}
use Rattle.sr_lsp.specs.Capability.{CapabilityFault}
use Rattle.sr_lsp.specs.Prefix.{prefix_layout}
use Rattle.sr_lsp.specs.Reach.{entry_layout}
use Rattle.sr_lsp.specs.Risk.{CutField}
use Rattle.sr_lsp.specs.Table.{rows}
use Rattle.sr_lsp.proofs.laws.each_type_has_its_faults.Goals as goal

-- a value under a type has the faults of a layout
abbrev Has : Type 0 → List ℕ → ℕ → Check → ℕ → Type 0
Has fault value at check kind = ValueFault rows (record { kind = kind; value = value }) at check ↔ fault

pub returns-clause-reach : goal.returns-clause-reach
returns-clause-reach c = λ tlv at check is. subst (Has (RunFault entry_layout FieldExtent tlv.value at check) tlv.value at check) (sym is) (λ h. h, λ h. h)

pub returns-clause-prefix : goal.returns-clause-prefix
returns-clause-prefix c = λ tlv at check is. subst (Has (RunFault prefix_layout FieldExtent tlv.value at check) tlv.value at check) (sym is) (λ h. h, λ h. h)

pub returns-clause-risk : goal.returns-clause-risk
returns-clause-risk c = λ tlv at check is. subst (Has (CutField (length tlv.value) at × (check ≡ FieldExtent)) tlv.value at check) (sym is) (λ h. h, λ h. h)

pub returns-clause-capability : goal.returns-clause-capability
returns-clause-capability c = λ tlv at check is. subst (Has (CapabilityFault tlv.value at check) tlv.value at check) (sym is) (λ h. h, λ h. h)

pub returns-clause-unknown : goal.returns-clause-unknown
returns-clause-unknown c = λ tlv at check none bad. unknown_sound rows tlv at check none bad
