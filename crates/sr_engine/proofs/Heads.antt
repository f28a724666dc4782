-- What a session that looks at a line's head alone needs: which lines are whole in it, and that the others show.
use Rattle.std.proofs.Common.{◌≡◌, ℕ, ◌<◌, ◌≤◌, List, length, arith, length-take}
use Rattle.std.proofs.lemmas.List.{take_all}
use Rattle.sr_engine.specs.Lines.{head_of}

-- a line that isn't too long is handed whole
pub head_of-short : (line : List ℕ) → length line ≤ 140000 → head_of line ≡ line
unfolding head_of
head_of-short line few = take_all 140001 line (omega arith)

-- a line that is too long shows as such
pub head_of-long : (line : List ℕ) → 140000 < length line → 140000 < length (head_of line)
unfolding head_of
head_of-long line many = omega (arith, length-take 140001 line)
