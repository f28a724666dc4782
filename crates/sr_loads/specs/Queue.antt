-- The queue of batches: what was pushed into it is what was taken and what it holds.
use Rattle.std.specs.Prelude.{◌≡◌, ℕ, ◌+◌, List, [], ◌++◌}
use Rattle.std.specs.List.{sum_by}
use mathlib.Core.Option.{some}
use lib.ListN.{get_elem?}
use Rattle.sr_loads.specs.declared.queue.Hand.{Hand}
use Rattle.sr_loads.specs.declared.counted.TheConstants.{MOST_FORWARDERS}

-- a part for each forwarder, and one for the caller
abbrev pub all_parts : ℕ
all_parts = MOST_FORWARDERS + 1

-- the hand of a pass with these parts, which pushed and took these batches
abbrev pub holding : ℕ → List ℕ → List ℕ → Hand
holding parts pushed taken = record { parts = parts; pushed = pushed; taken = taken }

-- two hands together
abbrev pub both : Hand → Hand → Hand
both v w = holding (v.parts + w.parts) (v.pushed ++ w.pushed) (v.taken ++ w.taken)

-- the parts are those that there are; however batches are weighed, those that were pushed weigh what those that were
-- taken and those in the queue weigh together; and a pass without a part pushed and took nothing
pub record IsBalanced (items : List ℕ) (hands : List Hand) : Type 0 where
  pub parts : sum_by (λ (v : Hand). v.parts) hands ≡ all_parts
  pub each_once : (h : ℕ → ℕ) → sum_by (λ (v : Hand). sum_by h v.pushed) hands
      ≡ sum_by (λ (v : Hand). sum_by h v.taken) hands + sum_by h items
  pub idle : (port : ℕ) (v : Hand) → get_elem? hands port ≡ some v → v.parts ≡ 0 → (v.pushed ≡ []) × (v.taken ≡ [])

-- the pass with all parts knows the whole: its batches are those that it took and those in the queue, each as often
abbrev pub KnowsAll : Hand → List ℕ → Type 0
KnowsAll v items = v.parts ≡ all_parts → (h : ℕ → ℕ) → sum_by h v.pushed ≡ sum_by h v.taken + sum_by h items
