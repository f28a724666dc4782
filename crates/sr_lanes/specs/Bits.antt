-- Sets of nodes in words.
use Rattle.std.specs.Prelude.{◌≡◌, ℕ, zero, suc, ◌+◌, ◌/◌, ◌%◌, ◌<◌, ◌==◌, ◌&&◌, not, if◌then◌else◌, Bool, true, false, slice_index}
use Rattle.std.specs.Int.{bit_at}
use Rattle.sr_lanes.specs.declared.words.NodeBits.{NodeBits}
use Rattle.sr_lanes.specs.declared.limits.TheConstants.{A_WORD, NODES_AT_MOST}

-- the node is in the set
unfoldable pub is_in : NodeBits → ℕ → Bool
is_in set v = bit_at (slice_index set.words (v / A_WORD)) (v % A_WORD) == 1

-- the node is in the set, and none of a lesser number is
pub record IsFirstIn (set : NodeBits) (node : ℕ) : Type 0 where
  pub within : node < NODES_AT_MOST
  pub member : is_in set node ≡ true
  pub least : (v : ℕ) → v < node → is_in set v ≡ false

-- the set after is the set before without this node
abbrev pub IsWithout : NodeBits → NodeBits → ℕ → Type 0
IsWithout before after node = (v : ℕ) → is_in after v ≡ (not (v == node) && is_in before v)

-- how many numbers below n the test says yes to
unfoldable pub count_below : (ℕ → Bool) → ℕ → ℕ
count_below test zero = 0
count_below test (suc n) = count_below test n + (if test n then 1 else 0)

-- how many nodes are in the set
unfoldable pub member_count : NodeBits → ℕ
member_count set = count_below (is_in set) NODES_AT_MOST
