-- Why a router capability tells nothing that counts, by what its node chose.
use Rattle.std.proofs.Common.{◌≡◌, ℕ, ◌<◌, ◌⊎◌, inl, inr, ⊎_elim, true, Some, arith}
use Rattle.sr_lsp.specs.declared.capability.Capability.{Capability}
use Rattle.sr_lsp.specs.declared.table.Part.TheVariants as part
use Rattle.sr_lsdb.specs.declared.facts.Facts.{Facts}
use Rattle.sr_account.specs.declared.aside.Reason.TheVariants.{Silent, NotFirst}
use Rattle.sr_account.specs.declared.choice.Choice.{Choice}
use Rattle.sr_account.specs.declared.choice.Saying.TheVariants.{Ranges, Imposition}
use Rattle.sr_account.specs.Items.{PartPlace}
use Rattle.sr_account.specs.Reasons.{CapabilityFails, IsSaidBefore, SaysImposition}
use Rattle.sr_account.specs.Steps.{IsFirstOf, IsOwnPart, NoReason, own_part, says}
use Rattle.sr_account.proofs.ChosenLemmas.{IsSaidThere, chosen-imposition, chosen-ranges, imposition-says, said-before, said-first, says-imposition}
use Rattle.sr_account.proofs.ReasonLemmas.{NoneBelow, none-at-all}

capability-below : (facts : Facts) (place : PartPlace) (capability : Capability) (n : ℕ) → (11 < n → CapabilityFails facts place capability Silent → ⊥) → (17 < n → CapabilityFails facts place capability NotFirst → ⊥) → NoneBelow (CapabilityFails facts place capability) n
capability-below facts place capability n p q Silent lt h = p lt h
capability-below facts place capability n p q NotFirst lt h = q lt h
capability-below facts place capability n p q _ lt h = absurd h

-- the two ways to say that an earlier part says how many labels can be imposed
imposition-there : (facts : Facts) (place : PartPlace) → IsSaidBefore SaysImposition facts place → IsSaidThere Imposition facts place
imposition-there facts place b = (b.0, b.1, b.2, b.3, b.4, imposition-says b.1 b.5, b.6)

there-imposition : (facts : Facts) (place : PartPlace) → IsSaidThere Imposition facts place → IsSaidBefore SaysImposition facts place
there-imposition facts place b = (b.0, b.1, b.2, b.3, b.4, says-imposition b.1 b.5, b.6)

-- what was chosen counts
pub capability-chosen : (facts : Facts) (choice : Choice) (place : PartPlace) (capability : Capability) → IsOwnPart facts choice place (part.Capability capability) → (choice.ranges ≡ Some (own_part place.id place.part)) ⊎ (choice.imposition ≡ Some (own_part place.id place.part)) → NoReason (CapabilityFails facts place capability)
capability-chosen facts choice place capability own (inl e) =
    let s = said-first facts choice place (part.Capability capability) Ranges choice.ranges own (chosen-ranges facts choice place (part.Capability capability) own) e in
    none-at-all (CapabilityFails facts place capability) (capability-below facts place capability 23 (λ _ h. h.0 s.0) (λ _ h. s.1 (h.0 s.0)))
capability-chosen facts choice place capability own (inr e) =
    let s = said-first facts choice place (part.Capability capability) Imposition choice.imposition own (chosen-imposition facts choice place (part.Capability capability) own) e in
    let says_so : SaysImposition (part.Capability capability) = says-imposition (part.Capability capability) s.0 in
    none-at-all (CapabilityFails facts place capability) (capability-below facts place capability 23 (λ _ h. h.1 says_so) (λ _ h. s.1 (imposition-there facts place (h.1 says_so))))

-- what wasn't chosen comes after what was
pub capability-other : (facts : Facts) (choice : Choice) (place : PartPlace) (capability : Capability) → IsOwnPart facts choice place (part.Capability capability) → (choice.ranges ≡ Some (own_part place.id place.part) → ⊥) → (choice.imposition ≡ Some (own_part place.id place.part) → ⊥) → (says Ranges (part.Capability capability) ≡ true) ⊎ (says Imposition (part.Capability capability) ≡ true) → IsFirstOf (CapabilityFails facts place capability) NotFirst
capability-other facts choice place capability own ranges imposition some = record {
  holds = (
    λ r. said-before facts choice place (part.Capability capability) Ranges choice.ranges own (chosen-ranges facts choice place (part.Capability capability) own) ranges r,
    λ m. there-imposition facts place (said-before facts choice place (part.Capability capability) Imposition choice.imposition own (chosen-imposition facts choice place (part.Capability capability) own) imposition (imposition-says (part.Capability capability) m)),
  );
  first = capability-below facts place capability 17
      (λ _ h. ⊎_elim (λ (r : says Ranges (part.Capability capability) ≡ true). h.0 r) (λ (m : says Imposition (part.Capability capability) ≡ true). h.1 (says-imposition (part.Capability capability) m)) some)
      (λ lt h. absurd (omega arith));
}
