-- What the tests for the same lists tell.
use Rattle.std.proofs.Common.{◌≡◌, ◌↔◌, ℕ, ◌==◌, Bool, true, false, Option, Some, None, IsTrue, refl, ap, sym}
use Rattle.std.specs.Bool.{Decides}
use Rattle.std.specs.Option.{option_eq}
use Rattle.std.proofs.lemmas.Bool.Decides.{Decides-eqb, Decides-like}
use Rattle.sr_model.specs.Label.{Net}
use Rattle.sr_model.specs.Rule.{node_at}
use Rattle.sr_laws.specs.Listed.{HaveSameLists}

-- `==` of two labels, of which each may be missing
pub labels-decide : (a b : Option ℕ) → Decides (option_eq ◌==◌ a b) (a ≡ b)
labels-decide None None = (λ h. refl, λ h. refl)
labels-decide None (Some b) = (λ h. absurd (cc), λ h. absurd (cc))
labels-decide (Some a) None = (λ h. absurd (cc), λ h. absurd (cc))
labels-decide (Some a) (Some b) = Decides-like _ (λ same. ap Some same) (λ same. cc) (Decides-eqb a b)

-- the nets have the same graph and adjacency labels
abbrev pub AreSameUpToIndices : Net → Net → Type 0
AreSameUpToIndices n m = (n.graph ≡ m.graph) × (n.adj ≡ m.adj)

-- the last test, where those before it are met; x and y are what the nets hold
pub lists-told : (x y n m : Net) (v r : Bool) → x ≡ n → y ≡ m → Decides v (AreSameUpToIndices x y) → v ≡ true → IsTrue r ↔ ((k : ℕ) → (node_at y.labels k).index ≡ (node_at x.labels k).index) → IsTrue r ↔ HaveSameLists n m
lists-told x y n m v r one other tests met indices =
    let same : AreSameUpToIndices x y = tests.0 met in
    rw (sym one, sym other) (
      λ yes. record { graph = sym same.0; index = indices.0 yes; adj = sym same.1 },
      λ lists. indices.1 lists.index,
    )

-- where one before it isn't
pub lists-differ : (x y n m : Net) (v : Bool) → x ≡ n → y ≡ m → Decides v (AreSameUpToIndices x y) → v ≡ false → IsTrue v ↔ HaveSameLists n m
lists-differ x y n m v one other tests missed =
    rw (sym one, sym other) (
      λ yes. absurd (cc),
      λ lists. tests.1 (sym lists.graph, sym lists.adj),
    )
