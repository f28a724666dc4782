-- What forwarders did of the traffic.
use Rattle.std.specs.Prelude.{◌≡◌, ℕ, List, []}
use Rattle.crossbeam_queue.specs.Passes.{Pass, view}
use Rattle.sr_loads.specs.declared.queue.Hand.{Hand}
use Rattle.sr_loads.specs.Tally.{Traffic}

-- what a forwarder did: its pass, which knows the batches that it took, and the counts of their packets
pub record Tally : Type 0 where
  pub traffic : Traffic
  pub pass : Pass ℕ Hand
  pub counts : List ℕ

-- a forwarder went on from one tally to another: the traffic, the parts of its pass, and what that pushed, stayed
pub record GoesOn (old new : Tally) : Type 0 where
  pub traffic : new.traffic ≡ old.traffic
  pub parts : (view new.pass).parts ≡ (view old.pass).parts
  pub pushed : (view new.pass).pushed ≡ (view old.pass).pushed

-- a forwarder's tally of the traffic: its pass has one part, and pushed nothing
pub record IsOneOf (t : Traffic) (tally : Tally) : Type 0 where
  pub traffic : tally.traffic ≡ t
  pub part : (view tally.pass).parts ≡ 1
  pub pushed : (view tally.pass).pushed ≡ []
