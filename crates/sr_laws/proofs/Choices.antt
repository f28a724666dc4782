-- A choice number has one step and one walk.
use Rattle.std.proofs.Common.{◌≡◌, ℕ, ◌%◌, ◌<◌, ◌≤◌, ⊎_elim, Bool, List, [], ◌∷◌, length, refl, arith, ap, sym, ◌∙◌, subst, Some}
use Rattle.std.proofs.lemmas.Option.{same_Some}
use Rattle.std.specs.Prelude.{slice_get}
use Rattle.std.proofs.lemmas.Bool.{cases_order}
use Rattle.sr_model.specs.declared.link.LinkNo.{LinkNo}
use Rattle.sr_model.specs.declared.entry.Move.{Move}
use Rattle.sr_model.specs.declared.entry.Move.TheVariants.{Popped, Crossed}
use Rattle.sr_model.specs.Graph.{head}
use Rattle.sr_model.specs.Label.{Net}
use Rattle.sr_model.specs.Rule.{IsNet}
use Rattle.sr_model.specs.Forward.{Crossing, Step, crossed, AreLawful, StepBy, RunBy, IsWalked}
use Rattle.sr_laws.proofs.Delivery.{same_node, not_null, not_adj}
use Rattle.sr_laws.proofs.Stacks.{crossing-same}
use Rattle.sr_laws.proofs.Ascending.{ascending-one}
use Rattle.sr_laws.proofs.Parts.{link_is}

lawful_among : (n : Net) (x : List Bool) (u b : ℕ) (ls ks : List ℕ) → AreLawful n x u b ls → AreLawful n x u b ks → (i l : ℕ) → slice_get ls i ≡ Some l → (j : ℕ) × (slice_get ks j ≡ Some l)
lawful_among n x u b ls ks p q i l is = let h = p.each i l is in q.all l h.0 h.1

-- there is one list of lawful crossings
pub lawful-one : (n : Net) (x : List Bool) (u b : ℕ) (ls ks : List ℕ) → AreLawful n x u b ls → AreLawful n x u b ks → ls ≡ ks
lawful-one n x u b ls ks p q =
    ascending-one (λ k l. k < l) (λ k lt. omega (arith, lt)) (λ j k l lt lt'. omega (arith, lt, lt')) ls ks p.ascending q.ascending
    (lawful_among n x u b ls ks p q) (lawful_among n x u b ks ls q p)

-- nothing is popped where a link is crossed
pop_or_cross : (n : Net) (r : IsNet n) (x : List Bool) (u t : ℕ) (rest : List ℕ) (l : LinkNo) (v w : ℕ) (after next : List ℕ) → Step n x u (t ∷ rest) Popped v after → Step n x u (t ∷ rest) (Crossed l) w next → ⊥
pop_or_cross n r x u t rest l v w after next pop cross =
    ⊎_elim
    (λ (null : t ≡ 0). ⊎_elim
    (λ adj. let h : 0 < t = r.adj_high l.0 t adj.0 in omega arith)
    (λ node. not_null n r u node.0 t node.1 null)
    cross.4)
    (λ own. ⊎_elim
    (λ adj. not_adj n r u u t l.0 own cross.2 adj.0)
    (λ node. node.2 (same_node n r u node.0 u t node.1 own))
    cross.4)
    pop.0

-- the link that a choice number crosses
cross_one : (n : Net) (r : IsNet n) (x : List Bool) (choice u t : ℕ) (rest : List ℕ) (l k : LinkNo) (v w : ℕ) (after next : List ℕ) → StepBy n x choice u (t ∷ rest) (Crossed l) v after → StepBy n x choice u (t ∷ rest) (Crossed k) w next → (l.0 ≡ k.0) × (after ≡ next)
cross_one n r x choice u t rest l k v w after next p q =
    ⊎_elim
    (λ adj. ⊎_elim
    (λ adj'. (r.adj_one l.0 k.0 t p.0.0 q.0.0 (p.0.2 ∙ sym q.0.2) adj.0 adj'.0, adj.1 ∙ sym adj'.1))
    (λ node. absurd (not_adj n r u node.0 t l.0 node.1 p.0.2 adj.0))
    q.0.4)
    (λ node. ⊎_elim
    (λ adj. absurd (not_adj n r u node.0 t k.0 node.1 q.0.2 adj.0))
    (λ node'.
    let e : node.0 ≡ node'.0 = same_node n r u node.0 node'.0 t node.1 node'.1 in
    let one = p.1 node.0 node.1 node.2 in
    let two = q.1 node.0 node.1 node.2 in
    let same : one.0 ≡ two.0 = lawful-one n x u node.0 one.0 two.0 one.1 two.1 in
    let pick : slice_get one.0 (choice % length one.0) ≡ Some k.0 = subst (λ (ls : List ℕ). slice_get ls (choice % length ls) ≡ Some k.0) (sym same) two.3 in
    let link : l.0 ≡ k.0 = same_Some _ _ (sym one.3 ∙ pick) in
    let cross : Crossing n node.0 (head n.graph l.0) rest next = subst (λ b. Crossing n b (head n.graph l.0) rest next) (sym e) (subst (λ j. Crossing n node'.0 (head n.graph j) rest next) (sym link) node'.4) in
    (link, crossing-same n node.0 (head n.graph l.0) rest after next node.4 cross))
    q.0.4)
    p.0.4

pub step-one : (n : Net) (r : IsNet n) (x : List Bool) (choice u : ℕ) (stack : List ℕ) (m o : Move) (v w : ℕ) (after next : List ℕ) → StepBy n x choice u stack m v after → StepBy n x choice u stack o w next → (m ≡ o) × (v ≡ w) × (after ≡ next)
step-one n r x choice u [] m o v w after next p q = absurd p.0
step-one n r x choice u (t ∷ rest) Popped Popped v w after next p q = (refl, p.0.1 ∙ sym q.0.1, p.0.2 ∙ sym q.0.2)
step-one n r x choice u (t ∷ rest) Popped (Crossed k) v w after next p q = absurd (pop_or_cross n r x u t rest k v w after next p.0 q.0)
step-one n r x choice u (t ∷ rest) (Crossed l) Popped v w after next p q = absurd (pop_or_cross n r x u t rest l w v next after q.0 p.0)
step-one n r x choice u (t ∷ rest) (Crossed l) (Crossed k) v w after next p q =
    let e = cross_one n r x choice u t rest l k v w after next p q in
    (ap Crossed (link_is l k e.0), p.0.3 ∙ ap (head n.graph) e.0 ∙ sym q.0.3, e.1)

-- the later steps of two runs begin at one state
same_from : (n : Net) (x : List Bool) (choice : ℕ) (u w : ℕ) (one two : List ℕ) (ms : List Move) (v : ℕ) (after : List ℕ) → u ≡ w → one ≡ two → RunBy n x choice w two ms v after → RunBy n x choice u one ms v after
same_from n x choice u w one two ms v after e f run =
    subst (λ k. RunBy n x choice k one ms v after) (sym e) (subst (λ (st : List ℕ). RunBy n x choice w st ms v after) (sym f) run)

pub run-one : (n : Net) (r : IsNet n) (x : List Bool) (choice u : ℕ) (stack : List ℕ) (ms os : List Move) (v w : ℕ) (after next : List ℕ) → length ms ≡ length os → RunBy n x choice u stack ms v after → RunBy n x choice u stack os w next → (ms ≡ os) × (v ≡ w) × (after ≡ next)
run-one n r x choice u stack [] [] v w after next e p q = (refl, p.0 ∙ sym q.0, p.1 ∙ sym q.1)
run-one n r x choice u stack [] (o ∷ os) v w after next e p q = absurd (omega (arith, e))
run-one n r x choice u stack (m ∷ ms) [] v w after next e p q = absurd (omega (arith, e))
run-one n r x choice u stack (m ∷ ms) (o ∷ os) v w after next e p q =
    let s : (m ≡ o) × (p.0 ≡ q.0) × (p.1 ≡ q.1) = step-one n r x choice u stack m o p.0 q.0 p.1 q.1 p.2 q.2 in
    let t : (ms ≡ os) × (v ≡ w) × (after ≡ next) = run-one n r x choice p.0 p.1 ms os v w after next (omega (arith, e)) p.3 (same_from n x choice p.0 q.0 p.1 q.1 os w next s.1 s.2 q.3) in
    let a : m ≡ o = s.0 in
    let b : ms ≡ os = t.0 in
    ((let c : m ∷ ms ≡ o ∷ os = cc in c), t.1, t.2)

-- a longer run goes on where the shorter one ends
run_longer : (n : Net) (r : IsNet n) (x : List Bool) (choice u : ℕ) (stack : List ℕ) (ms os : List Move) (v w : ℕ) (after next : List ℕ) → length ms < length os → RunBy n x choice u stack ms v after → RunBy n x choice u stack os w next → (m : Move) × (y : ℕ) × (mid : List ℕ) × Step n x v after m y mid
run_longer n r x choice u stack ms [] v w after next lt p q = absurd (omega (arith, lt))
run_longer n r x choice u stack [] (o ∷ os) v w after next lt p q =
    (o, q.0, q.1, subst (λ k. Step n x k after o q.0 q.1) (sym p.0) (subst (λ (st : List ℕ). Step n x u st o q.0 q.1) (sym p.1) q.2.0))
run_longer n r x choice u stack (m ∷ ms) (o ∷ os) v w after next lt p q =
    let s : (m ≡ o) × (p.0 ≡ q.0) × (p.1 ≡ q.1) = step-one n r x choice u stack m o p.0 q.0 p.1 q.1 p.2 q.2 in
    run_longer n r x choice p.0 p.1 ms os v w after next (omega (arith, lt)) p.3 (same_from n x choice p.0 q.0 p.1 q.1 os w next s.1 s.2 q.3)

no_longer : (n : Net) (r : IsNet n) (x : List Bool) (choice u : ℕ) (stack : List ℕ) (turns : ℕ) (links more : List ℕ) (v w : ℕ) (after next : List ℕ) → (p : IsWalked n x choice u stack turns links v after) → (q : IsWalked n x choice u stack turns more w next) → length p.moves < length q.moves → ⊥
no_longer n r x choice u stack turns links more v w after next p q lt =
    ⊎_elim
    (λ none. let s = run_longer n r x choice u stack p.moves q.moves v w after next lt p.run q.run in none s.0 s.1 s.2 s.3)
    (λ (over : length p.moves ≡ turns). let few : length q.moves ≤ turns = q.within in omega arith)
    p.ends

pub walked-one : (n : Net) (r : IsNet n) (x : List Bool) (choice u : ℕ) (stack : List ℕ) (turns : ℕ) (links more : List ℕ) (v w : ℕ) (after next : List ℕ) → IsWalked n x choice u stack turns links v after → IsWalked n x choice u stack turns more w next → (links ≡ more) × (v ≡ w) × (after ≡ next)
walked-one n r x choice u stack turns links more v w after next p q =
    ⊎_elim
    (λ (same : length p.moves ≡ length q.moves).
    let t : (p.moves ≡ q.moves) × (v ≡ w) × (after ≡ next) = run-one n r x choice u stack p.moves q.moves v w after next same p.run q.run in
    (sym p.crosses ∙ ap crossed t.0 ∙ q.crosses, t.1, t.2))
    (⊎_elim
    (λ (lt : length p.moves < length q.moves). absurd (no_longer n r x choice u stack turns links more v w after next p q lt))
    (λ (gt : length q.moves < length p.moves). absurd (no_longer n r x choice u stack turns more links w v next after q p gt)))
    (cases_order (length p.moves) (length q.moves))
