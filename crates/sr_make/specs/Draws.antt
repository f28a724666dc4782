-- The numbers of a made script, drawn one after the other from its start.
use Rattle.std.specs.Prelude.{ℕ, ◌+◌, ◌*◌, ◌/◌, ◌%◌, ◌^◌}

-- the state after x is given by a linear congruence (this project's rule)
abbrev pub next_state : ℕ → ℕ
next_state x = (1664525 * x + 1013904223) % 2 ^ 32

-- a draw from the state x gives the upper 16 bits of the next state
abbrev pub drawn_from : ℕ → ℕ
drawn_from x = next_state x / 65536
