-- A net has one answer.
use Rattle.std.proofs.Common.{◌≡◌, ℕ, zero, suc, ◌<◌, List, [], ◌∷◌, length, slice_index, refl, sym, ap, ◌∙◌, subst, arith}
use Rattle.std.specs.List.{AllZip}
use Rattle.sr_model.specs.declared.entry.Move.{Move}
use Rattle.sr_model.specs.Label.{Net}
use Rattle.sr_model.specs.Rule.{IsNet}
use Rattle.sr_model.specs.Graph.{link_count}
use Rattle.sr_model.specs.Forward.{StepBy, RunBy, crossed}
use Rattle.sr_laws.proofs.Ascending.{ascending-one}
use Rattle.sr_laws.proofs.Choices.{step-one}
use Rattle.sr_laws.proofs.Stacks.{label-same}
use Rattle.sr_loads.specs.declared.packet.Packet.{Packet}
use Rattle.sr_loads.specs.Packets.{IsBefore, ArePackets, IsPacketRun}
use Rattle.sr_loads.specs.Loads.{all_crossings}
use Rattle.sr_loads.specs.Laws.{LoadsAreUnique}
use Rattle.sr_loads.proofs.PacketOrder.{before-irreflexive, before-transitive}

-- there is one list of packets
packets-one : (net : Net) (choices : ℕ) (ps qs : List Packet) → ArePackets net choices ps → ArePackets net choices qs → ps ≡ qs
packets-one net choices ps qs a b =
    ascending-one IsBefore before-irreflexive before-transitive ps qs a.ascending b.ascending (λ k p e. b.all p (a.each k p e)) (λ k p e. a.all p (b.each k p e))

-- at an empty stack there is no step
no-step : (net : Net) (choice u : ℕ) (stack : List ℕ) (m : Move) (v : ℕ) (after : List ℕ) → [] ≡ stack → StepBy net [] choice u stack m v after → ⊥
no-step net choice u stack m v after e step = (subst (λ (st : List ℕ). StepBy net [] choice u st m v after) (sym e) step).0

-- so a choice number has one run to the empty stack
emptied-one : (net : Net) → IsNet net → (choice u : ℕ) (stack : List ℕ) (ms os : List Move) (v w : ℕ) → RunBy net [] choice u stack ms v [] → RunBy net [] choice u stack os w [] → ms ≡ os
emptied-one net r choice u stack [] [] v w p q = refl
emptied-one net r choice u stack [] (o ∷ os) v w p q = absurd (no-step net choice u stack o q.0 q.1 p.1 q.2)
emptied-one net r choice u stack (m ∷ ms) [] v w p q = absurd (no-step net choice u stack m p.0 p.1 q.1 p.2)
emptied-one net r choice u stack (m ∷ ms) (o ∷ os) v w p q =
    let s = step-one net r [] choice u stack m o p.0 q.0 p.1 q.1 p.2 q.2 in
    let here : m ≡ o = s.0 in
    let there : RunBy net [] choice p.0 p.1 os w [] =
    subst (λ (k : ℕ). RunBy net [] choice k p.1 os w []) (sym s.1) (subst (λ (st : List ℕ). RunBy net [] choice q.0 st os w []) (sym s.2) q.3) in
    let rest : ms ≡ os = emptied-one net r choice p.0 p.1 ms os v w p.3 there in
    cc

-- a packet has one run
run-one : (net : Net) → IsNet net → (p : Packet) (links more : List ℕ) → IsPacketRun net p links → IsPacketRun net p more → links ≡ more
run-one net r p links more a b =
    let label : b.label ≡ a.label = label-same net p.from.0 p.to.0 b.label a.label b.is_label a.is_label in
    let run : RunBy net [] p.choice p.from.0 (a.label ∷ []) b.moves p.to.0 [] = subst (λ (t : ℕ). RunBy net [] p.choice p.from.0 (t ∷ []) b.moves p.to.0 []) label b.run in
    let moves : a.moves ≡ b.moves = emptied-one net r p.choice p.from.0 (a.label ∷ []) a.moves b.moves p.to.0 p.to.0 a.run run in
    sym a.crosses ∙ ap crossed moves ∙ b.crosses

runs-one : (net : Net) → IsNet net → (ps : List Packet) (rs ss : List (List ℕ)) → AllZip (IsPacketRun net) ps rs → AllZip (IsPacketRun net) ps ss → rs ≡ ss
runs-one net r [] [] [] a b = refl
runs-one net r [] [] (s ∷ ss) a b = absurd b
runs-one net r [] (x ∷ rs) ss a b = absurd a
runs-one net r (p ∷ ps) [] ss a b = absurd a
runs-one net r (p ∷ ps) (x ∷ rs) [] a b = absurd b
runs-one net r (p ∷ ps) (x ∷ rs) (s ∷ ss) a b =
    let here : x ≡ s = run-one net r p x s a.0 b.0 in
    let rest : rs ≡ ss = runs-one net r ps rs ss a.1 b.1 in
    cc

lists-one : (n : ℕ) (xs ys : List ℕ) → length xs ≡ n → length ys ≡ n → ((l : ℕ) → l < n → slice_index xs l ≡ slice_index ys l) → xs ≡ ys
lists-one n [] [] a b same = refl
lists-one n [] (y ∷ ys) a b same = absurd (omega arith)
lists-one n (x ∷ xs) [] a b same = absurd (omega arith)
lists-one zero (x ∷ xs) (y ∷ ys) a b same = absurd (omega arith)
lists-one (suc n) (x ∷ xs) (y ∷ ys) a b same =
    let here : x ≡ y = same 0 (omega arith) in
    let rest : xs ≡ ys = lists-one n xs ys (omega arith) (omega arith) (λ l lt. same (suc l) (omega arith)) in
    cc

-- two answers to a net are equal
pub loads-one : LoadsAreUnique
loads-one net r choices one two a b =
    let packets : a.packets ≡ b.packets = packets-one net choices a.packets b.packets a.are b.are in
    let runs : a.runs ≡ b.runs = runs-one net r a.packets a.runs b.runs a.each (subst (λ (ps : List Packet). AllZip (IsPacketRun net) ps b.runs) (sym packets) b.each) in
    let number : one.packets ≡ two.packets = a.number ∙ ap length packets ∙ sym b.number in
    let counts : one.counts ≡ two.counts = lists-one (link_count net.graph) one.counts two.counts a.long b.long (λ l lt. a.counts l lt ∙ ap (all_crossings l) runs ∙ sym (b.counts l lt)) in
    λ i. record { packets = number i; counts = counts i }
