-- Sets of nodes as text.
use Rattle.std.specs.Prelude.{ℕ, Bool, List, ◌++◌, codes}
use Rattle.std.specs.List.{filter, flat_map, range_with_len}
use Rattle.sr_model.specs.Graph.{Graph, node_count, system_at, has}
use Rattle.sr_print.specs.Printed.{ended, node_word}

-- the nodes of a set, ascending
abbrev pub members : Graph → List Bool → List ℕ
members g set = filter (has set) (range_with_len 0 (node_count g))

-- the system ids of the nodes, each as one more word
abbrev pub node_words : Graph → List ℕ → List ℕ
node_words g nodes = flat_map (λ v. node_word (system_at g v)) nodes

-- a set by its name and its nodes
abbrev pub set_line : List ℕ → Graph → List Bool → List ℕ
set_line name g set = ended (name ++ node_words g (members g set))

-- the lines of P, extended P and Q
abbrev pub spaces_lines : Graph → List Bool → List Bool → List Bool → List ℕ
spaces_lines g p extended q =
    set_line (codes "p") g p ++ set_line (codes "extended") g extended ++ set_line (codes "q") g q
