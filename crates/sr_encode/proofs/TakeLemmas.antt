-- How the nodes that stand with a kept hop are served by the waypoint to which it leads.
use Rattle.std.proofs.Common.{◌≡◌, ℕ, true, not, ◌&&◌, List, refl, arith, sym, ◌∙◌}
use Rattle.std.proofs.lemmas.Bool.{and_parts}
use Rattle.sr_model.specs.Repair.{IsLeast}
use Rattle.sr_lanes.specs.declared.words.NodeBits.{NodeBits}
use Rattle.sr_lanes.specs.Bits.{is_in}
use Rattle.sr_post.specs.declared.kept.HopNodes.{HopNodes}
use Rattle.sr_encode.specs.declared.waypoint.Waypoint.{Waypoint}
use Rattle.sr_encode.specs.declared.served.Served.{Served}
use Rattle.sr_encode.specs.Waypoints.{path_to}
use Rattle.sr_encode.specs.Aftermath.{Aftermath}
use Rattle.sr_encode.specs.Serve.{IsHopOf, IsMetBy, AreOffered, ArePlaced}
use Rattle.sr_encode.proofs.KeptHops.{served-by_hop}
use Rattle.sr_encode.proofs.ServeLemmas.{offered-found}

-- the waypoint to which the hop leads has the least sound list to each node that stands with the hop
least-taken : (after : Aftermath) (queue : List Waypoint) (kept : HopNodes) (k d : ℕ) → IsHopOf after kept
    → IsMetBy queue kept.hop.0 k → is_in kept.nodes d ≡ true
    → IsLeast after.net after.failed after.source d (path_to queue k)
least-taken after queue kept k d hop met one =
    (served-by_hop after.net after.failed after.source d queue k kept.hop.0 met.0 met.1 met.2 (hop d one) k refl).1

-- those of the pending ones that stand with the hop are found
pub offered-taken : (after : Aftermath) (queue : List Waypoint) (kept : HopNodes) (k : ℕ) (before served : Served)
    (found : NodeBits) → IsHopOf after kept → IsMetBy queue kept.hop.0 k
    → ((d : ℕ) → is_in found d ≡ (is_in before.pending d && is_in kept.nodes d))
    → ((d : ℕ) → is_in served.pending d ≡ (is_in before.pending d && not (is_in found d)))
    → ArePlaced before.places.items found k served.places.items → AreOffered after queue 0 before
    → AreOffered after queue 0 served
offered-taken after queue kept k before served found hop met both rest marked r =
    offered-found k before served found rest marked after queue met.0
    (λ d yes. least-taken after queue kept k d hop met (and_parts (is_in before.pending d) (is_in kept.nodes d) (sym (both d) ∙ yes)).1)
    0 0 r (λ d is j lt. absurd (omega arith))
