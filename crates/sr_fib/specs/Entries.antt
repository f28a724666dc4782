-- Entries as the table gives them, and those of the model.
use Rattle.std.specs.Prelude.{◌≡◌, ℕ, List, Option, Some, None, map}
use Rattle.sr_model.specs.declared.link.LinkNo.{LinkNo}
use Rattle.sr_model.specs.declared.entry.Entry.{Entry as Meaning}
use Rattle.sr_model.specs.declared.entry.Entry.TheVariants as meaning
use Rattle.sr_model.specs.Label.{Net, labels_at, label_of, IsLabel}
use Rattle.sr_fib.specs.declared.entry.FibEntry.{FibEntry}
use Rattle.sr_fib.specs.declared.entry.FibEntry.TheVariants.{Own, Null, Adj, Node}
use Rattle.sr_fib.specs.declared.sorted.IndexedNode.{IndexedNode}
use Rattle.sr_fib.specs.Outs.{IsIndexed}

-- the entry that is meant
abbrev pub entry_of : FibEntry → Meaning
entry_of Own = meaning.Own
entry_of Null = meaning.Null
entry_of (Adj l) = meaning.Adj l
entry_of (Node b hops) = meaning.Node b hops

-- the entry that is meant, where there is one
abbrev pub found_of : Option FibEntry → Option Meaning
found_of None = None
found_of (Some e) = Some (entry_of e)

-- t is the label of this node at node u, or of no node
abbrev pub IsNodeOf : Net → ℕ → ℕ → Option IndexedNode → Type 0
IsNodeOf n u t None = (b : ℕ) → IsLabel n u b t → ⊥
IsNodeOf n u t (Some e) = IsIndexed n e × (label_of (labels_at n u).srgb e.index ≡ Some t)

-- the numbers of the links
abbrev pub numbers : List LinkNo → List ℕ
numbers links = map (λ (l : LinkNo). l.0) links
