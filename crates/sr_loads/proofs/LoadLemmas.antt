-- The loads, from the pairs and the tally of their packets.
use Rattle.std.proofs.Common.{◌≡◌, ℕ, ◌*◌, ◌<◌, ◌≤◌, ◌==◌, ◌⊎◌, ⊎_elim, inl, inr, Bool, true, false, cond, List, [], ◌∷◌, length, sym, ◌∙◌, arith}
use Rattle.std.proofs.Math.Nat.{mod-eq_of_lt}
use Rattle.std.proofs.lemmas.Bool.{cases_order}
use Rattle.std.specs.List.{AllZip}
use Rattle.std.proofs.lemmas.Nat.{mul-le}
use Rattle.sr_model.specs.declared.link.TheConstants.{MOST_NODES, FAR}
use Rattle.sr_model.specs.Walk.{IsCell}
use Rattle.sr_model.specs.Label.{Net}
use Rattle.sr_model.specs.Rule.{IsNet}
use Rattle.sr_spf.specs.Trees.{Forest, AreTrees, cell_at}
use Rattle.sr_loads.specs.declared.counted.TheConstants.{MOST_CHOICES}
use Rattle.sr_loads.specs.declared.packet.Packet.{Packet}
use Rattle.sr_loads.specs.declared.packet.Pair.{Pair}
use Rattle.sr_loads.specs.declared.pairs.TheConstants.{MOST_PAIRS}
use Rattle.sr_loads.specs.Packets.{ArePeers, ArePairs, IsPacketRun, packets_of}
use Rattle.sr_loads.specs.Loads.{IsLoads, crossings, all_crossings}
use Rattle.sr_loads.specs.Tally.{AreNear, GoBetweenPeers, IsShortRun, IsTally}
use Rattle.sr_loads.proofs.PairOrder.{pairs-few}
use Rattle.sr_loads.proofs.PacketOrder.{packets-long, packets-are}
use Rattle.sr_loads.proofs.TallyLemmas.{tally-long, tally-at}

-- nodes between which packets go have a distance
peers-near : (net : Net) (trees : Forest) (a d : ℕ) → AreTrees net.graph trees → ArePeers net a d → AreNear net a d
peers-near net trees a d are peers = record {
  peers = peers;
  far = ⊎_elim
      (λ (near : cell_at trees a d < FAR). (cell_at trees a d, cell.near near))
      (λ (far : FAR ≤ cell_at trees a d). absurd (cell.far far peers.walk.0 peers.walk.1))
      (below (cell_at trees a d) FAR);
} where
  cell : IsCell net.graph [] a d (cell_at trees a d)
  cell = (are.rows a peers.from).each d peers.to

  below : (m n : ℕ) → (m < n) ⊎ (n ≤ m)
  below m n = ⊎_elim (λ (e : m ≡ n). inr (omega arith)) (λ o. ⊎_elim (λ (lt : m < n). inl lt) (λ (gt : n < m). inr (omega arith)) o) (cases_order m n)

pub pairs-near : (net : Net) (trees : Forest) (pairs : List Pair) → AreTrees net.graph trees → ArePairs net pairs → GoBetweenPeers net pairs
pairs-near net trees pairs are all i p e = peers-near net trees p.from.0 p.to.0 are (all.each i p e)

runs-plain : (net : Net) (qs : List Packet) (runs : List (List ℕ)) → AllZip (IsShortRun net) qs runs → AllZip (IsPacketRun net) qs runs
runs-plain net [] [] zip = tt
runs-plain net [] (r ∷ runs) zip = absurd zip
runs-plain net (q ∷ qs) [] zip = absurd zip
runs-plain net (q ∷ qs) (r ∷ runs) zip = (zip.0.run, runs-plain net qs runs zip.1)

mark-few : (b : Bool) → cond b 1 0 ≤ 1
mark-few true = omega arith
mark-few false = omega arith

crossings-few : (l : ℕ) (links : List ℕ) → crossings l links ≤ length links
crossings-few l [] = omega arith
crossings-few l (k ∷ links) = let h = mark-few (k == l) in omega (arith, h, crossings-few l links)

runs-few : (net : Net) (l : ℕ) (qs : List Packet) (runs : List (List ℕ)) → AllZip (IsShortRun net) qs runs → all_crossings l runs ≤ length qs * MOST_NODES
runs-few net l [] [] zip = omega arith
runs-few net l [] (r ∷ runs) zip = absurd zip
runs-few net l (q ∷ qs) [] zip = absurd zip
runs-few net l (q ∷ qs) (r ∷ runs) zip =
    let here : crossings l r ≤ length r = crossings-few l r in
    let few : length r ≤ MOST_NODES = zip.0.few in
    let rest : all_crossings l runs ≤ length qs * MOST_NODES = runs-few net l qs runs zip.1 in
    omega (arith, here, few, rest)

-- the tally of the packets of all pairs is the loads
pub tally-loads : (net : Net) → IsNet net → (choices : ℕ) (pairs : List Pair) (counts : List ℕ) → choices ≤ MOST_CHOICES → ArePairs net pairs → IsTally net (packets_of choices pairs) counts → IsLoads net choices (record { packets = length pairs * choices; counts = counts })
tally-loads net r choices pairs counts few are tally =
    let packets : List Packet = packets_of choices pairs in
    let long : length packets ≡ length pairs * choices = packets-long choices pairs in
    let many : length pairs * choices ≤ MOST_PAIRS * MOST_CHOICES = mul-le (length pairs) choices MOST_PAIRS MOST_CHOICES (pairs-few net pairs r.graph are) few in
    record {
      packets = packets;
      are = packets-are net choices pairs are;
      runs = tally.runs;
      each = runs-plain net packets tally.runs tally.are;
      number = sym long;
      long = tally-long net packets counts tally;
      counts = λ l lt.
          let below : all_crossings l tally.runs ≤ length packets * MOST_NODES = runs-few net l packets tally.runs tally.are in
          tally-at net packets counts tally l lt ∙ mod-eq_of_lt (omega (arith, below, long, many));
    }
