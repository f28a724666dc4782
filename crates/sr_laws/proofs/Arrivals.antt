-- A walk by a choice number over a delivered stack arrives, the failed links being closed.
use Rattle.std.proofs.Common.{◌≡◌, ◌≢◌, ℕ, ◌+◌, ◌*◌, ◌<◌, ◌≤◌, ◌⊎◌, ⊎_elim, inl, inr, Bool, false, List, [], ◌∷◌, ◌++◌, length, refl, arith, ap, sym, ◌∙◌, subst, append_assoc, append-nil}
use Rattle.std.proofs.lemmas.List.{length-append}
use Rattle.std.proofs.lemmas.List.Elements.{All-nil, All-cons}
use Rattle.sr_model.specs.declared.entry.Move.{Move}
use Rattle.sr_model.specs.declared.entry.Move.TheVariants.{Popped, Crossed}
use Rattle.sr_model.specs.Graph.{Graph, node_count, head, has}
use Rattle.sr_model.specs.Walk.{IsWalk, IsShortest, IsDistance, cost}
use Rattle.sr_model.specs.Space.{Avoids, InP}
use Rattle.sr_model.specs.Label.{Net, IsLabel}
use Rattle.sr_model.specs.Rule.{IsNet}
use Rattle.sr_model.specs.Repair.{Path, IsSound}
use Rattle.sr_model.specs.Forward.{Step, Run, RunsWell, crossed, RunBy, IsStack, IsWalked}
use Rattle.sr_laws.specs.Delivery.{Arrives}
use Rattle.sr_walks.proofs.Walks.{cost-append}
use Rattle.sr_laws.proofs.Delivery.{sound-delivers, sound-counts}
use Rattle.sr_laws.proofs.Packets.{PacketGoes, packet-goes}

no_empty : (n : Net) (x : List Bool) (u : ℕ) (stack : List ℕ) (m : Move) (v : ℕ) (after : List ℕ) → Step n x u stack m v after → stack ≢ []
no_empty n x u stack m v after s e = subst (λ (st : List ℕ). Step n x u st m v after) e s

-- what is lawful with links closed is lawful
pub step_opens : (n : Net) (x : List Bool) (u : ℕ) (stack : List ℕ) (m : Move) (v : ℕ) (after : List ℕ) → Step n x u stack m v after → Step n [] u stack m v after
step_opens n x u [] m v after s = absurd s
step_opens n x u (t ∷ rest) Popped v after s = s
step_opens n x u (t ∷ rest) (Crossed l) v after s = (s.0, refl, s.2, s.3, s.4)

-- a run by choice is a run
by_run : (n : Net) (x : List Bool) (choice u : ℕ) (stack : List ℕ) (ms : List Move) (v : ℕ) (after : List ℕ) → RunBy n x choice u stack ms v after → Run n [] [] u stack ms v after
by_run n x choice u stack [] v after r = r
by_run n x choice u stack (m ∷ ms) v after r =
    (r.0, r.1, no_empty n x u stack m r.0 r.1 r.2.0, step_opens n x u stack m r.0 r.1 r.2.0, by_run n x choice r.0 r.1 ms v after r.3)

-- a run with one step more
run_more : (n : Net) (u : ℕ) (stack : List ℕ) (ms : List Move) (v : ℕ) (after : List ℕ) (m : Move) (w : ℕ) (next : List ℕ) → Run n [] [] u stack ms v after → Step n [] v after m w next → Run n [] [] u stack (ms ++ m ∷ []) w next
run_more n u stack [] v after m w next r s =
    let s' : Step n [] u stack m w next = subst (λ k. Step n [] k stack m w next) r.0 (subst (λ (st : List ℕ). Step n [] v st m w next) r.1 s) in
    (w, next, no_empty n [] u stack m w next s', s', (refl, refl))
run_more n u stack (p ∷ ms) v after m w next r s = (r.0, r.1, r.2, r.3, run_more n r.0 r.1 ms v after m w next r.4 s)

-- the links that are crossed by one move more
pub crossed_push : (ms : List Move) (m : Move) → crossed (ms ++ m ∷ []) ≡ crossed ms ++ crossed (m ∷ [])
crossed_push [] m = refl
crossed_push (Popped ∷ ms) m = crossed_push ms m
crossed_push (Crossed l ∷ ms) m = ap (λ xs. l.0 ∷ xs) (crossed_push ms m)

-- a link of a walk without x is outside x
walk_outside : (g : Graph) (x : List Bool) (u : ℕ) (p : List ℕ) (l : ℕ) (q : List ℕ) (v : ℕ) → IsWalk g x u (p ++ l ∷ q) v → has x l ≡ false
walk_outside g x u [] l q v a = a.1
walk_outside g x u (k ∷ p) l q v a = walk_outside g x (head g k) p l q v a.3

-- what is known of every run, over no rest, of a delivered packet that reached u over the links before
pub record GoesWell (n : Net) (x : List Bool) (s d : ℕ) (before : List ℕ) (turns : ℕ) (ms : List Move) (v : ℕ) (after : List ℕ) : Type 0 where
  pub ends : ((v ≡ d) × (after ≡ [])) ⊎ ((m : Move) × (w : ℕ) × (next : List ℕ) × Step n [] v after m w next)
  pub along : (more : List ℕ) × IsShortest n.graph x s (before ++ (crossed ms ++ more)) d
  pub few : length ms ≤ turns
  pub walk : IsWalk n.graph x s (before ++ crossed ms) v

-- every run of the packet under these labels goes well
abbrev pub AllGoWell : Net → List Bool → ℕ → ℕ → List ℕ → ℕ → List ℕ → ℕ → Type 0
AllGoWell n x s d before u labels turns = (ms : List Move) (v : ℕ) (after : List ℕ) → Run n [] [] u labels ms v after → GoesWell n x s d before turns ms v after

-- a step that such a run may take crosses no closed link
step_lawful : (n : Net) (x : List Bool) (s d : ℕ) (before : List ℕ) (ms : List Move) (v : ℕ) (after : List ℕ) (m : Move) (w : ℕ) (next : List ℕ) (more : List ℕ) → IsWalk n.graph x s (before ++ (crossed (ms ++ m ∷ []) ++ more)) d → Step n [] v after m w next → Step n x v after m w next
step_lawful n x s d before ms v [] m w next more walk step = absurd step
step_lawful n x s d before ms v (t ∷ rest) Popped w next more walk step = step
step_lawful n x s d before ms v (t ∷ rest) (Crossed l) w next more walk step =
    let e : before ++ (crossed (ms ++ Crossed l ∷ []) ++ more) ≡ (before ++ crossed ms) ++ l.0 ∷ more =
    ap (λ p. before ++ p) (ap (λ p. p ++ more) (crossed_push ms (Crossed l)) ∙ append_assoc (crossed ms) (l.0 ∷ []) more) ∙ sym (append_assoc before (crossed ms) (l.0 ∷ more)) in
    (step.0, walk_outside n.graph x s (before ++ crossed ms) l.0 more d (subst (λ p. IsWalk n.graph x s p d) e walk), step.2, step.3, step.4)

-- at the end of the run nothing is left to walk
at_end : (n : Net) (x : List Bool) (s d : ℕ) (before : List ℕ) (turns : ℕ) (ms : List Move) (v : ℕ) (after : List ℕ) → GoesWell n x s d before turns ms v after → (p : List ℕ) → IsWalk n.graph x s (before ++ crossed ms) d → p ≡ crossed ms → IsShortest n.graph x s (before ++ p) d
at_end n x s d before turns ms v after well p walk is =
    subst (λ (q : List ℕ). IsShortest n.graph x s (before ++ q) d) (sym is) (
      walk,
      λ q w.
          let le : cost n.graph (before ++ (crossed ms ++ well.along.0)) ≤ cost n.graph q = well.along.1.1 q w in
          omega (arith, cost-append n.graph (crossed ms) well.along.0, cost-append n.graph before (crossed ms ++ well.along.0), cost-append n.graph before (crossed ms)),
    )

walked_arrives : (n : Net) (x : List Bool) (s d u : ℕ) (before labels : List ℕ) (turns choice : ℕ) (links : List ℕ) (v : ℕ) (after : List ℕ) → AllGoWell n x s d before u labels turns → IsWalked n x choice u labels turns links v after → Arrives n x s d before links v after
walked_arrives n x s d u before labels turns choice links v after all walked =
    let run : Run n [] [] u labels walked.moves v after = by_run n x choice u labels walked.moves v after walked.run in
    let well : GoesWell n x s d before turns walked.moves v after = all walked.moves v after run in
    let ends : (v ≡ d) × (after ≡ []) =
    ⊎_elim
    (λ a. a)
    (λ (more : (m : Move) × (w : ℕ) × (next : List ℕ) × Step n [] v after m w next).
    let well' : GoesWell n x s d before turns (walked.moves ++ more.0 ∷ []) more.1 more.2 =
    all (walked.moves ++ more.0 ∷ []) more.1 more.2 (run_more n u labels walked.moves v after more.0 more.1 more.2 run more.3) in
    let step : Step n x v after more.0 more.1 more.2 = step_lawful n x s d before walked.moves v after more.0 more.1 more.2 well'.along.0 well'.along.1.0 more.3 in
    ⊎_elim
    (λ none. absurd (none more.0 more.1 more.2 step))
    (λ (last : length walked.moves ≡ turns).
    let few : length (walked.moves ++ more.0 ∷ []) ≤ turns = well'.few in
    absurd (omega (arith, length-append walked.moves (more.0 ∷ []))))
    walked.ends)
    well.ends in
    record {
      there = ends.0;
      spent = ends.1;
      shortest = at_end n x s d before turns walked.moves v after well links (subst (λ k. IsWalk n.graph x s (before ++ crossed walked.moves) k) ends.0 well.walk) (sym walked.crosses);
    }

avoids_none : (p : List ℕ) → Avoids [] p
avoids_none [] = All-nil (λ l. has [] l ≡ false)
avoids_none (l ∷ p) = All-cons (λ k. has [] k ≡ false) l p refl (avoids_none p)

pub sound-arrives : (n : Net) → IsNet n → (x : List Bool) (s d : ℕ) (a : Path) (labels : List ℕ) → s < node_count n.graph → d < node_count n.graph → IsSound n x s d a → IsStack n d a.first a.segments labels → (choice : ℕ) (links : List ℕ) (v : ℕ) (after : List ℕ) → IsWalked n x choice (head n.graph a.first) labels (node_count n.graph * (length labels + 2)) links v after → Arrives n x s d (a.first ∷ []) links v after
sound-arrives n r x s d a labels source within sound stack choice links v after walked =
    walked_arrives n x s d (head n.graph a.first) (a.first ∷ []) labels (node_count n.graph * (length labels + 2)) choice links v after
    (λ ms v' after' run.
    let run' : Run n [] [] (head n.graph a.first) (labels ++ []) ms v' after' = subst (λ (st : List ℕ). Run n [] [] (head n.graph a.first) st ms v' after') (sym (append-nil labels)) run in
    let well : RunsWell n x s d a.first labels [] ms v' after' = sound-delivers n r x s d a labels source within sound stack [] ms v' after' run' in
    record {
      ends = ⊎_elim (λ over. inl over) (λ more. inr (more.1, more.2, more.3, more.4)) well.ends;
      along = well.along;
      few = well.few;
      walk = (sound-counts n r x s d a labels within sound stack [] ms v' after' run').walk;
    })
    walked

pub packet-arrives : (n : Net) → IsNet n → (u d label c : ℕ) → u < node_count n.graph → IsDistance n.graph [] u d c → IsLabel n u d label → (choice : ℕ) (links : List ℕ) (v : ℕ) (after : List ℕ) → IsWalked n [] choice u (label ∷ []) (node_count n.graph * (1 + 2)) links v after → Arrives n [] u d [] links v after
packet-arrives n r u d label c source far is choice links v after walked =
    let inside : InP n.graph [] u d = record { reached = (far.reached.0, far.reached.1); avoids = λ p s. avoids_none p } in
    walked_arrives n [] u d u [] (label ∷ []) (node_count n.graph * (1 + 2)) choice links v after
    (λ ms v' after' run.
    let goes : PacketGoes n [] u d [] ms v' after' = packet-goes n r [] u d label c source inside far is [] ms v' after' run in
    record {
      ends = ⊎_elim (λ over. inl over) (λ more. inr (more.1, more.2, more.3, more.4)) goes.well.ends;
      along = goes.well.along;
      few = goes.well.few;
      walk = goes.walk;
    })
    walked
