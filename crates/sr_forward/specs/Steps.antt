-- What a node does with a packet by the label on top of its stack.
use Rattle.std.specs.Prelude.{ℕ, Bool, List, ◌∷◌}
use Rattle.sr_model.specs.declared.entry.Move.{Move}
use Rattle.sr_model.specs.declared.entry.Move.TheVariants.{Popped, Crossed}
use Rattle.sr_model.specs.declared.entry.Out.{Out}
use Rattle.sr_model.specs.Graph.{head}
use Rattle.sr_model.specs.Label.{Net}
use Rattle.sr_model.specs.Forward.{Step, StepBy}
use Rattle.sr_model.specs.Table.{leaves}

-- the node after a move from u: u itself, or the end of the link that is crossed
abbrev pub node_after : Net → ℕ → Move → ℕ
node_after n u Popped = u
node_after n u (Crossed l) = head n.graph l.0

-- with this label on top, over any rest, the step of the choice number is this move, and it leaves the label so
abbrev pub IsAction : Net → List Bool → ℕ → ℕ → ℕ → Move × Out → Type 0
IsAction n closed choice u label a =
    (rest : List ℕ) → StepBy n closed choice u (label ∷ rest) a.0 (node_after n u a.0) (leaves a.1 rest)

-- with this label on top no step is lawful
abbrev pub HasNoAction : Net → List Bool → ℕ → ℕ → Type 0
HasNoAction n closed u label =
    (rest : List ℕ) (m : Move) (v : ℕ) (after : List ℕ) → Step n closed u (label ∷ rest) m v after → ⊥
