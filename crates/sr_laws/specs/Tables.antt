-- Laws of label tables: entries are the steps that they stand for.
use Rattle.std.specs.Prelude.{◌≡◌, ◌↔◌, ℕ, List, [], ◌∷◌, Option, Some, None, slice_get}
use Rattle.sr_model.specs.declared.link.LinkNo.{LinkNo}
use Rattle.sr_model.specs.declared.entry.Move.{Move}
use Rattle.sr_model.specs.declared.entry.Move.TheVariants.{Popped, Crossed}
use Rattle.sr_model.specs.declared.entry.Out.{Out}
use Rattle.sr_model.specs.declared.entry.Entry.{Entry}
use Rattle.sr_model.specs.declared.entry.Entry.TheVariants.{Own, Null, Adj, Node}
use Rattle.sr_model.specs.Graph.{head}
use Rattle.sr_model.specs.Label.{Net}
use Rattle.sr_model.specs.Rule.{IsNet}
use Rattle.sr_model.specs.Forward.{Step}
use Rattle.sr_model.specs.Table.{leaves, IsLookup}

-- the moves that an entry stands for at u over the rest: own labels and explicit null are popped, an adjacency's link
-- is crossed, and so is any hop of a node, which leaves the label as the hop says
abbrev pub Allows : Net → ℕ → Entry → List ℕ → Move → ℕ → List ℕ → Type 0
Allows n u Own rest Popped v after = (v ≡ u) × (after ≡ rest)
Allows n u Own rest (Crossed l) v after = ⊥
Allows n u Null rest Popped v after = (v ≡ u) × (after ≡ rest)
Allows n u Null rest (Crossed l) v after = ⊥
Allows n u (Adj k) rest Popped v after = ⊥
Allows n u (Adj k) rest (Crossed l) v after = (l.0 ≡ k.0) × (v ≡ head n.graph k.0) × (after ≡ rest)
Allows n u (Node b hops) rest Popped v after = ⊥
Allows n u (Node b hops) rest (Crossed l) v after =
    (i : ℕ) × (h : LinkNo × Out) × (slice_get hops i ≡ Some h) × (h.0.0 ≡ l.0) × (v ≡ head n.graph l.0)
    × (after ≡ leaves h.1 rest)

-- no entry stands for no move
abbrev pub AllowsAt : Net → ℕ → Option Entry → List ℕ → Move → ℕ → List ℕ → Type 0
AllowsAt n u None rest m v after = ⊥
AllowsAt n u (Some e) rest m v after = Allows n u e rest m v after

-- what the table says of a label are just the steps on it
abbrev pub LookupsAreSteps : Type 0
LookupsAreSteps =
    (n : Net) → IsNet n → (u t : ℕ) (o : Option Entry) → IsLookup n u t o
    → (rest : List ℕ) (m : Move) (v : ℕ) (after : List ℕ)
    → Step n [] u (t ∷ rest) m v after ↔ AllowsAt n u o rest m v after

-- and the table says at most one thing of a label
abbrev pub LookupsAreUnique : Type 0
LookupsAreUnique = (n : Net) → IsNet n → (u t : ℕ) (a b : Option Entry) → IsLookup n u t a → IsLookup n u t b → a ≡ b
