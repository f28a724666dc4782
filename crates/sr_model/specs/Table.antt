-- The label table of a node: what each label does there, no link closed.
use Rattle.std.specs.Prelude.{◌≡◌, ◌≢◌, ℕ, ◌<◌, ◌⊎◌, true, false, List, [], ◌∷◌, length, Option, Some, None, slice_get}
use Rattle.sr_model.specs.declared.link.LinkNo.{LinkNo}
use Rattle.sr_model.specs.declared.entry.Move.{Move}
use Rattle.sr_model.specs.declared.entry.Out.{Out}
use Rattle.sr_model.specs.declared.entry.Out.TheVariants.{Pop, Swap, Null as NullOut}
use Rattle.sr_model.specs.declared.entry.Entry.{Entry}
use Rattle.sr_model.specs.declared.entry.Entry.TheVariants.{Own, Null, Adj, Node}
use Rattle.sr_model.specs.Graph.{link_count, tail, head}
use Rattle.sr_model.specs.Walk.{IsNextHop}
use Rattle.sr_model.specs.Label.{Net, labels_at, adj_at, IsLabel}
use Rattle.sr_model.specs.Forward.{Step}

-- what becomes of b's label when a link into m is crossed
abbrev pub IsOut : Net → ℕ → ℕ → Out → Type 0
IsOut n b m Pop = (m ≡ b) × ((labels_at n b).keep ≡ false)
IsOut n b m NullOut = (m ≡ b) × ((labels_at n b).keep ≡ true) × ((labels_at n b).explicit ≡ true)
IsOut n b m (Swap t) =
    IsLabel n m b t × ((m ≢ b) ⊎ (((labels_at n b).keep ≡ true) × ((labels_at n b).explicit ≡ false)))

-- the stack that it leaves over the rest
abbrev pub leaves : Out → List ℕ → List ℕ
leaves Pop rest = rest
leaves NullOut rest = 0 ∷ rest
leaves (Swap t) rest = t ∷ rest

-- the next hops of u towards b, ascending, each with what becomes of b's label on it
pub record AreHops (n : Net) (u b : ℕ) (hops : List (LinkNo × Out)) : Type 0 where
  pub each : (i : ℕ) (h : LinkNo × Out) → slice_get hops i ≡ Some h
      → IsNextHop n.graph [] u b h.0.0 × IsOut n b (head n.graph h.0.0) h.1
  pub ascending : (i j : ℕ) (h k : LinkNo × Out) → i < j → slice_get hops i ≡ Some h → slice_get hops j ≡ Some k
      → h.0.0 < k.0.0
  pub all : (l : ℕ) → IsNextHop n.graph [] u b l
      → (i : ℕ) × (h : LinkNo × Out) × (slice_get hops i ≡ Some h) × (h.0.0 ≡ l)

-- what label t does at node u: one triple of the table
abbrev pub IsEntry : Net → ℕ → ℕ → Entry → Type 0
IsEntry n u t Own = IsLabel n u u t
IsEntry n u t Null = t ≡ 0
IsEntry n u t (Adj l) = (l.0 < link_count n.graph) × (tail n.graph l.0 ≡ u) × (adj_at n l.0 ≡ Some t)
IsEntry n u t (Node b hops) = IsLabel n u b.0 t × (b.0 ≢ u) × AreHops n u b.0 hops × (0 < length hops)

-- the label does nothing there
abbrev pub HasNoStep : Net → ℕ → ℕ → Type 0
HasNoStep n u t = (rest : List ℕ) (m : Move) (v : ℕ) (after : List ℕ) → Step n [] u (t ∷ rest) m v after → ⊥

-- what the table says of label t at node u: its entry, or none where no step is lawful on it
abbrev pub IsLookup : Net → ℕ → ℕ → Option Entry → Type 0
IsLookup n u t None = HasNoStep n u t
IsLookup n u t (Some e) = IsEntry n u t e
