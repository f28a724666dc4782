-- Runs of steps by a choice number, one step longer.
use Rattle.std.proofs.Common.{◌≡◌, ℕ, ◌+◌, ◌*◌, ◌<◌, ◌≤◌, ◌⊎◌, ⊎_elim, inl, inr, Bool, false, List, [], ◌∷◌, ◌++◌, length, refl, arith, ap, sym, ◌∙◌, subst, get_or}
use Rattle.std.specs.Prelude.{All, ◌↔◌}
use Rattle.std.proofs.lemmas.List.{length-append, length-map, get_or-map}
use Rattle.std.proofs.lemmas.List.Elements.{All-nil, All-cons}
use Rattle.sr_model.specs.declared.link.LinkNo.{LinkNo}
use Rattle.sr_model.specs.declared.entry.Move.{Move}
use Rattle.sr_model.specs.declared.entry.Move.TheVariants.{Popped, Crossed}
use Rattle.sr_model.specs.Graph.{node_count, link_count, has}
use Rattle.sr_model.specs.Label.{Net}
use Rattle.sr_model.specs.Rule.{IsNet}
use Rattle.sr_model.specs.Forward.{Step, StepBy, RunBy, AreLawful, IsChosen, IsWalked, crossed}
use Rattle.sr_laws.proofs.Arrivals.{packet-arrives, sound-arrives}
use Rattle.sr_fib.specs.Entries.{numbers}
use Rattle.sr_laws.proofs.Arrivals.{crossed_push}
use Rattle.sr_forward.specs.Runs.{IsMove, PacketArrives, RepairArrives}

-- the packet took `turn` steps by the choice number, crossed these links, and is at node v with the stack `after`
pub record IsUnderWay (n : Net) (closed : List Bool) (choice u : ℕ) (stack : List ℕ) (turn : ℕ) (links : List ℕ) (v : ℕ) (after : List ℕ) : Type 0 where
  pub moves : List Move
  pub run : RunBy n closed choice u stack moves v after
  pub long : length moves ≡ turn
  pub crosses : crossed moves ≡ links
  pub within : v < node_count n.graph

run-push : (n : Net) (closed : List Bool) (choice u : ℕ) (stack : List ℕ) (ms : List Move) (v : ℕ) (after : List ℕ) (m : Move) (w : ℕ) (next : List ℕ) → RunBy n closed choice u stack ms v after → StepBy n closed choice v after m w next → RunBy n closed choice u stack (ms ++ m ∷ []) w next
run-push n closed choice u stack [] v after m w next run step =
    (w, next, subst (λ (k : ℕ). StepBy n closed choice k stack m w next) run.0 (subst (λ (st : List ℕ). StepBy n closed choice v st m w next) run.1 step), (refl, refl))
run-push n closed choice u stack (p ∷ ms) v after m w next run step =
    (run.0, run.1, run.2, run-push n closed choice run.0 run.1 ms v after m w next run.3 step)

-- one step more
pub under-way-more : (n : Net) (closed : List Bool) (choice u : ℕ) (stack : List ℕ) (turn : ℕ) (links : List ℕ) (v : ℕ) (after : List ℕ) (m : Move) (w : ℕ) (next : List ℕ) (more : List ℕ) → IsUnderWay n closed choice u stack turn links v after → StepBy n closed choice v after m w next → w < node_count n.graph → more ≡ links ++ crossed (m ∷ []) → IsUnderWay n closed choice u stack (turn + 1) more w next
under-way-more n closed choice u stack turn links v after m w next more way step within is = record {
  moves = way.moves ++ m ∷ [];
  run = run-push n closed choice u stack way.moves v after m w next way.run step;
  long = length-append way.moves (m ∷ []) ∙ ap (λ k. k + 1) way.long;
  crosses = crossed_push way.moves m ∙ ap (λ xs. xs ++ crossed (m ∷ [])) way.crosses ∙ sym is;
  within = within;
}

-- a link that a step crosses is one of the graph
step-move : (n : Net) (closed : List Bool) (u : ℕ) (stack : List ℕ) (m : Move) (v : ℕ) (after : List ℕ) → Step n closed u stack m v after → IsMove n m
step-move n closed u [] m v after s = absurd s
step-move n closed u (t ∷ rest) Popped v after s = tt
step-move n closed u (t ∷ rest) (Crossed l) v after s = s.0

-- the links that a run crosses are links of the graph
run-links : (n : Net) (closed : List Bool) (choice u : ℕ) (stack : List ℕ) (ms : List Move) (v : ℕ) (after : List ℕ) → RunBy n closed choice u stack ms v after → All (λ k. k < link_count n.graph) (crossed ms)
run-links n closed choice u stack [] v after run = All-nil (λ k. k < link_count n.graph)
run-links n closed choice u stack (Popped ∷ ms) v after run = run-links n closed choice run.0 run.1 ms v after run.3
run-links n closed choice u stack (Crossed l ∷ ms) v after run =
    All-cons (λ k. k < link_count n.graph) l.0 (crossed ms) (step-move n closed u stack (Crossed l) run.0 run.1 run.2.0) (run-links n closed choice run.0 run.1 ms v after run.3)

abbrev number : LinkNo → ℕ
number l = l.0

pub under-way-links : (n : Net) (closed : List Bool) (choice u : ℕ) (stack : List ℕ) (turn : ℕ) (links : List LinkNo) (v : ℕ) (after : List ℕ) → IsUnderWay n closed choice u stack turn (numbers links) v after → All (λ (l : LinkNo). l.0 < link_count n.graph) links
under-way-links n closed choice u stack turn links v after way =
    let all : All (λ k. k < link_count n.graph) (numbers links) = subst (λ (ls : List ℕ). All (λ k. k < link_count n.graph) ls) way.crosses (run-links n closed choice u stack way.moves v after way.run) in
    λ k d lt.
    let at : get_or (numbers links) k d.0 ≡ (get_or links k d).0 = get_or-map number links k d d.0 lt in
    let few : k < length (numbers links) = omega (arith, length-map links number) in
    subst (λ (l : ℕ). l < link_count n.graph) at (all k d.0 few)

-- ---- with no link closed
opens-step : (n : Net) (closed : List Bool) → ((l : ℕ) → has closed l ≡ false) → (u : ℕ) (stack : List ℕ) (m : Move) (v : ℕ) (after : List ℕ) → Step n closed u stack m v after ↔ Step n [] u stack m v after
opens-step n closed none u [] m v after = (λ s. s, λ s. s)
opens-step n closed none u (t ∷ rest) Popped v after = (λ s. s, λ s. s)
opens-step n closed none u (t ∷ rest) (Crossed l) v after = (λ s. (s.0, refl, s.2, s.3, s.4), λ s. (s.0, none l.0, s.2, s.3, s.4))

opens-lawful : (n : Net) (closed : List Bool) → ((l : ℕ) → has closed l ≡ false) → (u b : ℕ) (ls : List ℕ) → AreLawful n closed u b ls → AreLawful n [] u b ls
opens-lawful n closed none u b ls are = record {
  each = λ i l e. ((are.each i l e).0, refl);
  ascending = are.ascending;
  all = λ l hop out. are.all l hop (none l);
}

opens-chosen : (n : Net) (closed : List Bool) → ((l : ℕ) → has closed l ≡ false) → (choice u : ℕ) (stack : List ℕ) (m : Move) → IsChosen n closed choice u stack m → IsChosen n [] choice u stack m
opens-chosen n closed none choice u stack Popped is = tt
opens-chosen n closed none choice u [] (Crossed l) is = absurd is
opens-chosen n closed none choice u (t ∷ rest) (Crossed l) is =
    λ b label ne. let p = is b label ne in (p.0, opens-lawful n closed none u b p.0 p.1, p.2, p.3)

opens-run : (n : Net) (closed : List Bool) → ((l : ℕ) → has closed l ≡ false) → (choice u : ℕ) (stack : List ℕ) (ms : List Move) (v : ℕ) (after : List ℕ) → RunBy n closed choice u stack ms v after → RunBy n [] choice u stack ms v after
opens-run n closed none choice u stack [] v after run = run
opens-run n closed none choice u stack (m ∷ ms) v after run =
    (run.0, run.1, ((opens-step n closed none u stack m run.0 run.1).0 run.2.0, opens-chosen n closed none choice u stack m run.2.1), opens-run n closed none choice run.0 run.1 ms v after run.3)

-- a walk where no link is closed is one by the empty set
opens-walked : (n : Net) (closed : List Bool) → ((l : ℕ) → has closed l ≡ false) → (choice u : ℕ) (stack : List ℕ) (turns : ℕ) (links : List ℕ) (v : ℕ) (after : List ℕ) → IsWalked n closed choice u stack turns links v after → IsWalked n [] choice u stack turns links v after
opens-walked n closed none choice u stack turns links v after walked = record {
  moves = walked.moves;
  run = opens-run n closed none choice u stack walked.moves v after walked.run;
  crosses = walked.crosses;
  within = walked.within;
  ends = ⊎_elim
      (λ over. inl (λ m w next s. over m w next ((opens-step n closed none v after m w next).1 s)))
      (λ last. inr last)
      walked.ends;
}

walked-arrives : (n : Net) → IsNet n → (closed : List Bool) (choice u : ℕ) (stack : List ℕ) (links : List ℕ) (v : ℕ) (after : List ℕ) → u < node_count n.graph → IsWalked n closed choice u stack (node_count n.graph * (length stack + 2)) links v after → PacketArrives n closed u stack links v after
walked-arrives n r closed choice u stack links v after source walked = λ none d label c one is far.
    packet-arrives n r u d label c source far is choice links v after
    (opens-walked n closed none choice u (label ∷ []) (node_count n.graph * (1 + 2)) links v after
    (subst (λ (st : List ℕ). IsWalked n closed choice u st (node_count n.graph * (length st + 2)) links v after) one walked))

-- ---- with the failed links closed
repaired-arrives : (n : Net) → IsNet n → (closed : List Bool) (choice u : ℕ) (stack : List ℕ) (links : List ℕ) (v : ℕ) (after : List ℕ) → IsWalked n closed choice u stack (node_count n.graph * (length stack + 2)) links v after → RepairArrives n closed u stack links v after
repaired-arrives n r closed choice u stack links v after walked = λ s d a source within sound at labels.
    sound-arrives n r closed s d a stack source within sound labels choice links v after
    (subst (λ (k : ℕ). IsWalked n closed choice k stack (node_count n.graph * (length stack + 2)) links v after) at walked)

-- the walk is over where no step is lawful, and after the last turn
under-way-ends : (n : Net) (closed : List Bool) (choice u : ℕ) (stack : List ℕ) (turn turns : ℕ) (links : List ℕ) (v : ℕ) (after : List ℕ) → IsUnderWay n closed choice u stack turn links v after → ((m : Move) (w : ℕ) (next : List ℕ) → Step n closed v after m w next → ⊥) ⊎ (turn ≡ turns) → turn ≤ turns → IsWalked n closed choice u stack turns links v after
under-way-ends n closed choice u stack turn turns links v after way ends few = record {
  moves = way.moves;
  run = way.run;
  crosses = way.crosses;
  within = omega (arith, way.long);
  ends = ⊎_elim (λ over. inl over) (λ at. inr (way.long ∙ at)) ends;
}

-- a packet, and that of a repair, arrives when its walk is over
pub under-way-arrives : {n : Net} {closed : List Bool} {choice u : ℕ} {stack : List ℕ} {turn : ℕ} {links : List ℕ} {v : ℕ} {after : List ℕ} → IsNet n → u < node_count n.graph → IsUnderWay n closed choice u stack turn links v after → ((m : Move) (w : ℕ) (next : List ℕ) → Step n closed v after m w next → ⊥) ⊎ (turn ≡ node_count n.graph * (length stack + 2)) → turn ≤ node_count n.graph * (length stack + 2) → PacketArrives n closed u stack links v after × RepairArrives n closed u stack links v after
under-way-arrives {n} {closed} {choice} {u} {stack} {turn} {links} {v} {after} r source way ends few =
    let walked : IsWalked n closed choice u stack (node_count n.graph * (length stack + 2)) links v after = under-way-ends n closed choice u stack turn (node_count n.graph * (length stack + 2)) links v after way ends few in
    (walked-arrives n r closed choice u stack links v after source walked, repaired-arrives n r closed choice u stack links v after walked)
