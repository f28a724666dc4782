-- The names of links, and their order.
use Rattle.std.specs.Prelude.{◌≡◌, ℕ, ◌<◌, ◌⊎◌, nat_le, if◌then◌else◌}
use Rattle.sr_model.specs.declared.name.Ident.{Ident}
use Rattle.sr_model.specs.declared.name.Ident.TheVariants.{None, Addr, Link}
use Rattle.sr_model.specs.declared.name.LinkKey.{LinkKey}
use Rattle.sr_model.specs.declared.name.PairKey.{PairKey}

-- an identity as the other end announces it
abbrev pub turned : Ident → Ident
turned None = None
turned (Addr local remote) = Addr remote local
turned (Link local remote) = Link remote local

-- the name of the opposite link
abbrev pub mirror : LinkKey → LinkKey
mirror key = record { from = key.to; to = key.from; ident = turned key.ident }

-- the pair that a link belongs to, with the identity as the lower end announces it
abbrev pub pair_of : LinkKey → PairKey
pair_of key =
    if nat_le key.from key.to
    then record { low = key.from; high = key.to; ident = key.ident }
    else record { low = key.to; high = key.from; ident = turned key.ident }

-- the two names are those of one link or of two opposite links
abbrev pub IsSamePair : LinkKey → LinkKey → Type 0
IsSamePair a b = (a ≡ b) ⊎ (a ≡ mirror b)

-- by the first number, then by the second
abbrev pub PairLt : ℕ → ℕ → ℕ → ℕ → Type 0
PairLt a b c d = (a < c) ⊎ ((a ≡ c) × (b < d))

-- none, then addresses, then link identifiers, each by their numbers
abbrev pub IdentLt : Ident → Ident → Type 0
IdentLt None None = ⊥
IdentLt None (Addr c d) = Unit {0}
IdentLt None (Link c d) = Unit {0}
IdentLt (Addr a b) None = ⊥
IdentLt (Addr a b) (Addr c d) = PairLt a b c d
IdentLt (Addr a b) (Link c d) = Unit {0}
IdentLt (Link a b) None = ⊥
IdentLt (Link a b) (Addr c d) = ⊥
IdentLt (Link a b) (Link c d) = PairLt a b c d

-- by the beginning, then the end, then the identity
abbrev pub KeyLt : LinkKey → LinkKey → Type 0
KeyLt a b = (a.from < b.from) ⊎ ((a.from ≡ b.from) × ((a.to < b.to) ⊎ ((a.to ≡ b.to) × IdentLt a.ident b.ident)))
