-- A part that is lent is of the kind that it is lent as.
use Rattle.std.proofs.Common.{◌≡◌, refl}
use Rattle.sr_lsp.specs.declared.prefix.Prefix.{Prefix}
use Rattle.sr_lsp.specs.declared.reach.Reach.{Reach}
use Rattle.sr_lsp.specs.declared.table.Part.TheVariants as part
use Rattle.sr_lsp.specs.declared.parts.PartRef.{PartRef}
use Rattle.sr_lsp.specs.declared.parts.PartRef.TheVariants as lent
use Rattle.sr_lsp.specs.Parts.{part_of}

-- one that isn't lent as an entry isn't one
pub not-reach : (said : PartRef) → ((reach : _) → said ≡ lent.Reach reach → ⊥) → (reach : Reach) → part_of said ≡ part.Reach reach → ⊥
not-reach (lent.Reach own) not reach same = not own refl
not-reach (lent.Prefix own) not reach same = cc
not-reach (lent.Name own) not reach same = cc
not-reach (lent.Risk own) not reach same = cc
not-reach (lent.Capability own) not reach same = cc

-- one that isn't lent as a prefix isn't one
pub not-prefix : (said : PartRef) → ((prefix : _) → said ≡ lent.Prefix prefix → ⊥) → (prefix : Prefix) → part_of said ≡ part.Prefix prefix → ⊥
not-prefix (lent.Reach own) not prefix same = cc
not-prefix (lent.Prefix own) not prefix same = not own refl
not-prefix (lent.Name own) not prefix same = cc
not-prefix (lent.Risk own) not prefix same = cc
not-prefix (lent.Capability own) not prefix same = cc
