-- The nodes to which a link leads in spite of the failed links.
use Rattle.std.proofs.Common.{◌≡◌, ℕ, ⊎_elim, ◌↔◌, IsTrue, true, false, not, ◌&&◌, ◌||◌, Bool, List, sym, ◌∙◌}
use Rattle.std.proofs.lemmas.Bool.{cases_Bool, and_parts, and_from, or_cases, or_left, or_right, not-true, not_from_false}
use Rattle.sr_lanes.specs.declared.words.NodeBits.{NodeBits}
use Rattle.sr_lanes.specs.Bits.{is_in}
use Rattle.sr_model.specs.Graph.{Graph, has, head, tail}
use Rattle.sr_model.specs.Space.{InP}
use Rattle.sr_spf.specs.Carried.{IsCarried}
use Rattle.sr_post.specs.Kept.{AreDoubtful, LeadsTo}

-- among these nodes, the link is a next hop towards those that are led; of some of them there is no doubt, and the
-- others are asked for: the far ones of those are in P of its end
pub record AreAsked (g : Graph) (x : List Bool) (l : ℕ) (doubtful among carried led sure asked far : NodeBits) : Type 0 where
  pub led_is : (v : ℕ) → is_in led v ≡ (is_in among v && is_in carried v)
  pub sure_is : (v : ℕ) → is_in sure v ≡ (is_in led v && not (is_in doubtful v))
  pub asked_is : (v : ℕ) → is_in asked v ≡ (is_in led v && is_in doubtful v)
  pub spaces : (v : ℕ) → IsTrue (is_in far v) ↔ ((is_in asked v ≡ true) × InP g x (head g l) v)

-- a link that hasn't failed leads to just the sure nodes and the far ones
pub led-sum : (g : Graph) (x : List Bool) (l : ℕ) (doubtful among carried led sure asked far all : NodeBits) → IsCarried g l carried → AreDoubtful g x (tail g l) doubtful → has x l ≡ false → AreAsked g x l doubtful among carried led sure asked far → ((v : ℕ) → is_in all v ≡ (is_in sure v || is_in far v)) → (v : ℕ) → IsTrue (is_in all v) ↔ ((is_in among v ≡ true) × LeadsTo g x (tail g l) v l)
led-sum g x l doubtful among carried led sure asked far all carries doubt outside are joined v = (
  λ is. ⊎_elim
      (λ (certain : is_in sure v ≡ true).
      let both = and_parts (is_in led v) (not (is_in doubtful v)) (sym (are.sure_is v) ∙ certain) in
      let parts = and_parts (is_in among v) (is_in carried v) (sym (are.led_is v) ∙ both.0) in
      (parts.0, doubt.sure v l (not-true (is_in doubtful v) both.1) ((carries.each v).0 parts.1) outside))
      (λ (away : is_in far v ≡ true).
      let told = (are.spaces v).0 away in
      let both = and_parts (is_in led v) (is_in doubtful v) (sym (are.asked_is v) ∙ told.0) in
      let parts = and_parts (is_in among v) (is_in carried v) (sym (are.led_is v) ∙ both.0) in
      (parts.0, record { outside = outside; hop = (carries.each v).0 parts.1; space = told.1 }))
      (or_cases (is_in sure v) (is_in far v) (sym (joined v) ∙ is)),
  λ is.
      let leads : LeadsTo g x (tail g l) v l = is.1 in
      let on : is_in led v ≡ true = are.led_is v ∙ and_from (is_in among v) (is_in carried v) is.0 ((carries.each v).1 leads.hop) in
      ⊎_elim
      (λ (doubted : is_in doubtful v ≡ true).
      let asks : is_in asked v ≡ true = are.asked_is v ∙ and_from (is_in led v) (is_in doubtful v) on doubted in
      joined v ∙ or_right (is_in sure v) (is_in far v) ((are.spaces v).1 (asks, leads.space)))
      (λ (clear : is_in doubtful v ≡ false).
      let certain : is_in sure v ≡ true = are.sure_is v ∙ and_from (is_in led v) (not (is_in doubtful v)) on (not_from_false (is_in doubtful v) clear) in
      joined v ∙ or_left (is_in sure v) (is_in far v) certain)
      (cases_Bool (is_in doubtful v)),
)
