-- The bidirectional links of a made net (this project's rule): a ring, and chords across it, with metrics and groups.
use Rattle.std.specs.Prelude.{ℕ, ◌+◌, ◌/◌, ◌%◌, ◌==◌, Bool, if◌then◌else◌, List, [], ◌∷◌, ◌++◌, filter, map, nat_le}
use Rattle.std.specs.List.{range_with_len}
use Rattle.sr_make.specs.declared.pairs.MadePair.{MadePair}
use Rattle.sr_make.specs.declared.pairs.Span.{Span}
use Rattle.sr_make.specs.declared.pairs.TheConstants.{CHORD_NODES}
use Rattle.sr_make.specs.Draws.{drawn_from, next_state}

-- a ring joins node i to the next one, which for the last node is the first
abbrev pub ring_span : ℕ → ℕ → Span
ring_span nodes i = record { first = i; second = i % nodes + 1 }

-- the ring joins each node to the next
abbrev pub ring_spans : ℕ → List Span
ring_spans nodes = map (ring_span nodes) (range_with_len 1 nodes)

-- a chord joins node i to the node that is half the ring further
abbrev pub chord_span : ℕ → ℕ → Span
chord_span nodes i = record { first = i; second = i + nodes / 2 }

-- a chord begins at each third node of the ring's first half: at nodes 1, 4, 7 and so on
abbrev pub begins_chord : ℕ → Bool
begins_chord i = i % 3 == 1

-- the chords stand in order of the nodes at which they begin
abbrev pub chord_spans : ℕ → List Span
chord_spans nodes = map (chord_span nodes) (filter begins_chord (range_with_len 1 (nodes / 2)))

-- the ring comes first, and then the chords, where the net has at least six nodes
abbrev pub made_spans : ℕ → List Span
made_spans nodes = ring_spans nodes ++ (if nat_le CHORD_NODES nodes then chord_spans nodes else [])

-- one draw gives the metric of the pair of this number, from 1 to 20, and the next its group, from 1 to 8
abbrev pub drawn_pair : ℕ → ℕ → Span → MadePair
drawn_pair x number span =
    record { number = number; span = span; metric = 1 + drawn_from x % 20; group = 1 + drawn_from (next_state x) % 8 }

-- the pairs are numbered from this number on, and each takes the two draws after those of the pair before
abbrev pub drawn_pairs : ℕ → ℕ → List Span → List MadePair
drawn_pairs x number [] = []
drawn_pairs x number (span ∷ spans) =
    drawn_pair x number span ∷ drawn_pairs (next_state (next_state x)) (number + 1) spans

-- the pairs of a net are numbered from 1, and their draws begin at this start
abbrev pub made_pairs : ℕ → ℕ → List MadePair
made_pairs nodes start = drawn_pairs start 1 (made_spans nodes)
