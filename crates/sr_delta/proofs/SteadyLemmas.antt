-- A case is steady exactly where all that is asked of it holds.
use Rattle.std.proofs.Common.{◌≡◌, ◌≢◌, ℕ, ◌<◌, ◌⊎◌, ◌↔◌, ⊎_elim, inl, inr, Bool, List, true, false, Some, length, arith, refl, ap, sym, ◌∙◌, subst, eq-eqb}
use Rattle.std.specs.Prelude.{◌&&◌, ◌||◌, ◌==◌, not, slice_get}
use Rattle.std.proofs.lemmas.Bool.{and_from, and_left, and_parts, and_right, cases_Bool, cases_eq, eqb-true, true≢false}
use Rattle.std.proofs.lemmas.Option.{same_Some}
use Rattle.sr_model.specs.declared.case.Case.{Case}
use Rattle.sr_model.specs.declared.link.LinkNo.{LinkNo}
use Rattle.sr_model.specs.Case.{IsAffected, IsFailedSet, IsOnRepairWay, source_of}
use Rattle.sr_model.specs.Walk.{IsRow}
use Rattle.sr_model.specs.Rule.{IsNet}
use Rattle.sr_model.specs.Graph.{IsLink, IsNamed, link_at, node_count}
use Rattle.sr_walks.proofs.Walks.{walk-within}
use Rattle.sr_model.specs.Label.{Net}
use Rattle.sr_model.specs.Stay.{HaveSameName, IsIdle, IsOfFailedPair, case_with}
use Rattle.sr_laws.specs.Steady.{HasSameSegments, IsSameFar, IsSteadyCase, pivot_of}
use Rattle.sr_laws.proofs.Failures.{failed-one}
use Rattle.sr_post.proofs.MarkLemmas.{affected-within}
use Rattle.sr_lanes.specs.declared.words.NodeBits.{NodeBits}
use Rattle.sr_lanes.specs.Bits.{is_in, IsWithout}
use Rattle.sr_lanes.proofs.SizeLemmas.{without-inside, without-other}
use Rattle.sr_delta.specs.declared.change.Change.{Change}
use Rattle.sr_delta.specs.declared.staying.Staying.{Staying}
use Rattle.sr_delta.specs.Alike.{IsSetOf}
use Rattle.sr_delta.specs.Idle.{AreIdleOrFailed}
use Rattle.sr_delta.specs.Cases.{Computed, IsComputed}
use Rattle.sr_delta.specs.Changed.{change_at}
use Rattle.sr_delta.specs.Changes.{AreChanges, Differences}
use Rattle.sr_delta.specs.Moved.{AreMoved}
use Rattle.sr_delta.specs.Pairs.{HaveSameFailures}
use Rattle.sr_delta.specs.Stayers.{AreStaying}
use Rattle.sr_delta.specs.Steady.{AreAffectedAlike, AreSegmentsKept, AreStepsKept, IsSteadyHere}
use Rattle.sr_delta.proofs.FailureLemmas.{failed-exists, failed-from_failing, same-from_failures}
use Rattle.sr_delta.proofs.IdleLemmas.{idle-from_change}
use Rattle.sr_delta.proofs.CaseLemmas.{failures-from_pairs, idle-from_row, partner-one}

-- where none of one set is missing from another, each of it is in that
pub each-there : (a b rest : NodeBits) (v : ℕ) → is_in rest v ≡ (is_in a v && not (is_in b v)) → is_in rest v ≡ false → is_in a v ≡ true → is_in b v ≡ true
each-there a b rest v is none there = ⊎_elim
    (λ yes'. yes')
    (λ (out : is_in b v ≡ false). absurd (true≢false (sym (is ∙ and_from (is_in a v) (not (is_in b v)) there (ap not out)) ∙ none)))
    (cases_Bool (is_in b v))

-- neither holds where not one of them does
pub or_parts : (a b : Bool) → (a || b) ≡ false → (a ≡ false) × (b ≡ false)
or_parts true b e = absurd {0} (cc)
or_parts false b e = (refl, e)

-- none is missing where each is there
pub none-missing : (a b rest : NodeBits) (v : ℕ) → is_in rest v ≡ (is_in a v && not (is_in b v)) → (is_in a v ≡ true → is_in b v ≡ true) → is_in rest v ≡ false
none-missing a b rest v is there = ⊎_elim
    (λ yes'. is ∙ and_right (is_in a v) (not (is_in b v)) (ap not (there yes')))
    (λ (out : is_in a v ≡ false). is ∙ and_left (is_in a v) (not (is_in b v)) out)
    (cases_Bool (is_in a v))

-- and the other way round
pub or_from : (a b : Bool) → a ≡ false → b ≡ false → (a || b) ≡ false
or_from a b p q = rw p q

-- where no node on the walks has other segments, each has the same
pub segments-from_none : (c : Computed) (m : Net) (alike rest : NodeBits) → IsComputed c
    → IsSetOf (HasSameSegments c.net m) (node_count c.net.graph) alike
    → ((v : ℕ) → is_in rest v ≡ (is_in c.walks v && not (is_in alike v))) → ((v : ℕ) → is_in rest v ≡ false)
    → AreSegmentsKept c.net m c.case
segments-from_none c m alike rest is same minus none x failed w lt on =
    let there : is_in c.walks w ≡ true = (is.walks.marks x failed w).1 on in
    (same.each w lt).0 (each-there c.walks alike rest w (minus w) (none w) there)

-- a node on the walks is a node
pub walked-within : (c : Computed) → IsComputed c → (v : ℕ) → is_in c.walks v ≡ true → v < node_count c.net.graph
walked-within c is v there =
    let x = failed-exists c.net.graph c.case in
    let on : IsOnRepairWay c.net c.case x.0 v = (is.walks.marks x.0 x.1 v).0 there in
    let ends : IsLink c.net.graph (link_at c.net.graph c.case.link.0) = is.trees.graph.each c.case.link.0 is.within in
    walk-within c.net.graph x.0 (source_of c.net.graph c.case) on.2.before v is.trees.graph ends.0 on.2.to

-- and the other way round
pub none-from_segments : (c : Computed) (m : Net) (alike rest : NodeBits) → IsComputed c
    → IsSetOf (HasSameSegments c.net m) (node_count c.net.graph) alike
    → ((v : ℕ) → is_in rest v ≡ (is_in c.walks v && not (is_in alike v)))
    → AreSegmentsKept c.net m c.case → (v : ℕ) → is_in rest v ≡ false
none-from_segments c m alike rest is same minus kept v =
    let x = failed-exists c.net.graph c.case in
    none-missing c.walks alike rest v (minus v) (λ there.
    let lt : v < node_count c.net.graph = walked-within c is v there in
    (same.each v lt).1 (kept x.0 x.1 v lt ((is.walks.marks x.0 x.1 v).0 there)))

-- a node on the walks but the source is left, or its tree stays
pub left-or_stays : (c : Computed) (m : Net) (s : Staying) (less left : NodeBits) → IsComputed c → AreStaying c.net m s
    → ((v : ℕ) → is_in less v ≡ (is_in c.walks v && not (is_in s.trees v)))
    → ((v : ℕ) → is_in left v ≡ (not (v == source_of c.net.graph c.case) && is_in less v))
    → (u : ℕ) → is_in c.walks u ≡ true → u ≢ source_of c.net.graph c.case
    → (is_in left u ≡ true) ⊎ (is_in s.trees u ≡ true)
left-or_stays c m s less left is stay minus without u there other = ⊎_elim
    (λ yes'. inr yes')
    (λ (out : is_in s.trees u ≡ false).
    let here : is_in less u ≡ true = minus u ∙ and_from (is_in c.walks u) (not (is_in s.trees u)) there (ap not out) in
    inl (without u ∙ and_from (not (u == source_of c.net.graph c.case)) (is_in less u) (not-own (cases_Bool (u == source_of c.net.graph c.case))) here))
    (cases_Bool (is_in s.trees u))
  where
    not-own : ((u == source_of c.net.graph c.case) ≡ true) ⊎ ((u == source_of c.net.graph c.case) ≡ false) → not (u == source_of c.net.graph c.case) ≡ true
    not-own how = ⊎_elim (λ same. absurd (other (eqb-true u (source_of c.net.graph c.case) same))) (λ no. ap not no) how

-- the steps are kept where the trees of all nodes on the walks but the source stay
pub steps-from_trees : (c : Computed) (m : Net) (s : Staying) (less left : NodeBits) → IsComputed c → AreStaying c.net m s
    → ((v : ℕ) → is_in less v ≡ (is_in c.walks v && not (is_in s.trees v)))
    → ((v : ℕ) → is_in left v ≡ (not (v == source_of c.net.graph c.case) && is_in less v))
    → ((v : ℕ) → is_in left v ≡ false) → AreStepsKept c.net m c.case
steps-from_trees c m s less left is stay minus without none x failed u v at to on more other =
    let there : is_in c.walks u ≡ true = (is.walks.marks x failed u).1 on in
    inl ((stay.trees.each u at).0 (⊎_elim
    (λ (here : is_in left u ≡ true). absurd (true≢false (sym here ∙ none u)))
    (λ stays. stays)
    (left-or_stays c m s less left is stay minus without u there other)))

-- or where all others are as far as they were
pub steps-from_far : (c : Computed) (m : Net) (s : Staying) (less left set both : NodeBits) (moved : List NodeBits) (t : ℕ)
    → IsComputed c → AreStaying c.net m s → AreMoved c.net.graph m.graph moved (node_count c.net.graph)
    → ((v : ℕ) → is_in less v ≡ (is_in c.walks v && not (is_in s.trees v)))
    → ((v : ℕ) → is_in left v ≡ (not (v == source_of c.net.graph c.case) && is_in less v))
    → t ≡ pivot_of c.net.graph c.case → t < node_count c.net.graph
    → slice_get moved t ≡ Some set → ((v : ℕ) → is_in both v ≡ (is_in set v && is_in c.walks v))
    → ((v : ℕ) → is_in both v ≡ false)
    → ((u : ℕ) (far : NodeBits) → is_in left u ≡ true → slice_get moved u ≡ Some far → is_in far t ≡ false)
    → ((u : ℕ) → u < node_count c.net.graph → (far : NodeBits) × (slice_get moved u ≡ Some far))
    → AreStepsKept c.net m c.case
steps-from_far c m s less left set both moved t is stay are minus without pivot t_in at_t joint none far every x failed u v at to on more other =
    let there : is_in c.walks u ≡ true = (is.walks.marks x failed u).1 on in
    let there' : is_in c.walks v ≡ true = (is.walks.marks x failed v).1 more in
    ⊎_elim
    (λ (here : is_in left u ≡ true).
    let mine = every u at in
    let to_t : IsSameFar c.net.graph m.graph u t = (are.each u mine.0 mine.1 t t_in).0 (far u mine.0 here mine.1) in
    let off : is_in set v ≡ false = ⊎_elim
    (λ (yes' : is_in set v ≡ true). absurd (true≢false (sym (joint v ∙ and_from (is_in set v) (is_in c.walks v) yes' there') ∙ none v)))
    (λ no. no)
    (cases_Bool (is_in set v)) in
    let from_t : IsSameFar c.net.graph m.graph t v = (are.each t set at_t v to).0 off in
    inr (subst (λ k. IsSameFar c.net.graph m.graph u k) pivot to_t, subst (λ k. IsSameFar c.net.graph m.graph k v) pivot from_t))
    (λ stays. inl ((stay.trees.each u at).0 stays))
    (left-or_stays c m s less left is stay minus without u there other)

-- all that is asked gives that the case is steady
pub steady-from_parts : (c : Computed) (m : Net) (d : Differences) (link : LinkNo) → IsComputed c → AreChanges c.net m d → d.same ≡ true → HaveSameName c.net.graph m.graph c.case.link.0 link.0 → IsSteadyHere c m d.links → AreAffectedAlike c.net c.case m (case_with c.case link) → HaveSameFailures c.net.graph c.case m.graph (case_with c.case link) → IsSteadyCase c.net m c.case
steady-from_parts c m d link is changes same name here affected failures =
    let x = failed-exists c.net.graph c.case in
    let y = failed-exists m.graph (case_with c.case link) in
    record {
      within = is.within;
      nodes = changes.nodes.0 same;
      link = link;
      protected = name;
      x = x.0;
      y = y.0;
      failed = x.1;
      failed' = y.1;
      pairs = same-from_failures c.net.graph c.case x.0 m.graph (case_with c.case link) y.0 x.1 y.1 failures;
      affected = λ v within. affected v;
      post = c.cells;
      row = is.row x.0 x.1;
      idle = λ key changed free.
          let at = (changes.links same).whole key changed changed in
          let a : Change = change_at d.links at.0 in
          let idle = here.idle at.0 at.1 (λ of. free (subst (λ j. IsOfFailedPair c.net.graph x.0 j) at.2 (failed-from_failing c.net.graph c.case x.0 a.key x.1 of))) in
          subst (λ j. IsIdle c.net.graph m.graph c.cells j) at.2 (idle-from_change c.net.graph m.graph changes.old.named changes.new.named c.cells a ((changes.links same).each at.0 at.1) idle);
      segments = λ w lt on. here.segments x.0 x.1 w lt on;
      steps = λ u v at to on more other. here.steps x.0 x.1 u v at to on more other;
    }

-- one node less is left, which is as far as it was
pub far-passed : (moved : List NodeBits) (nodes left left' set : NodeBits) (v t : ℕ)
    → ((u : ℕ) → is_in left u ≡ true → is_in nodes u ≡ true)
    → ((u : ℕ) (far : NodeBits) → is_in nodes u ≡ true → slice_get moved u ≡ Some far → (is_in left u ≡ true) ⊎ (is_in far t ≡ false))
    → IsWithout left left' v → slice_get moved v ≡ Some set → is_in set t ≡ false
    → ((u : ℕ) → is_in left' u ≡ true → is_in nodes u ≡ true)
    × ((u : ℕ) (far : NodeBits) → is_in nodes u ≡ true → slice_get moved u ≡ Some far → (is_in left' u ≡ true) ⊎ (is_in far t ≡ false))
far-passed moved nodes left left' set v t inside all less at off = (
  λ u is. inside u (without-inside left left' v u less is).1,
  λ u far is there. ⊎_elim
      (λ here. ⊎_elim
      (λ (same : u ≡ v).
      let one : set ≡ far = same_Some set far (sym at ∙ ap (λ k. slice_get moved k) (sym same) ∙ there) in
      inr (subst (λ (k : NodeBits). is_in k t ≡ false) one off))
      (λ ne. inl (without-other left left' v u less ne ∙ here))
      (cases_eq u v))
      (λ no. inr no)
      (all u far is there),
)

-- what is left of them is on the walks
pub left-walked : (walks trees less left : NodeBits) (s u : ℕ) → ((v : ℕ) → is_in less v ≡ (is_in walks v && not (is_in trees v)))
    → ((v : ℕ) → is_in left v ≡ (not (v == s) && is_in less v)) → is_in left u ≡ true → is_in walks u ≡ true
left-walked walks trees less left s u minus without is =
    (and_parts (is_in walks u) (not (is_in trees u)) (sym (minus u) ∙ (and_parts (not (u == s)) (is_in less u) (sym (without u) ∙ is)).1)).0

-- what is left of them has no tree that stays, and isn't the source
pub left-moved : (walks trees less left : NodeBits) (s u : ℕ) → ((v : ℕ) → is_in less v ≡ (is_in walks v && not (is_in trees v)))
    → ((v : ℕ) → is_in left v ≡ (not (v == s) && is_in less v)) → is_in left u ≡ true → (is_in trees u ≡ false) × (u ≢ s)
left-moved walks trees less left s u minus without is =
    let parts = and_parts (not (u == s)) (is_in less u) (sym (without u) ∙ is) in
    let more = and_parts (is_in walks u) (not (is_in trees u)) (sym (minus u) ∙ parts.1) in (
      not-false (is_in trees u) more.1,
      λ same. absurd (true≢false (sym (eq-eqb u s same) ∙ not-false (u == s) parts.0)),
    )
  where
    not-false : (b : Bool) → not b ≡ true → b ≡ false
    not-false true e = absurd {0} (cc)
    not-false false e = refl

-- where the steps are kept, each node that is left is as far as it was to the node at which the failed links lie, and
-- that one to each node on the walks
pub far-from_steps : (c : Computed) (m : Net) (s : Staying) (less left : NodeBits) → IsComputed c → AreStaying c.net m s
    → ((v : ℕ) → is_in less v ≡ (is_in c.walks v && not (is_in s.trees v)))
    → ((v : ℕ) → is_in left v ≡ (not (v == source_of c.net.graph c.case) && is_in less v))
    → AreStepsKept c.net m c.case → (u v : ℕ) → is_in left u ≡ true → is_in c.walks v ≡ true
    → IsSameFar c.net.graph m.graph u (pivot_of c.net.graph c.case) × IsSameFar c.net.graph m.graph (pivot_of c.net.graph c.case) v
far-from_steps c m s less left is stay minus without steps u v here there =
    let x = failed-exists c.net.graph c.case in
    let src : ℕ = source_of c.net.graph c.case in
    let on : is_in c.walks u ≡ true = left-walked c.walks s.trees less left src u minus without here in
    let at : u < node_count c.net.graph = walked-within c is u on in
    let off = left-moved c.walks s.trees less left src u minus without here in
    ⊎_elim
    (λ kept. absurd (true≢false (sym ((stay.trees.each u at).1 kept) ∙ off.0)))
    (λ far. far)
    (steps x.0 x.1 u v at (walked-within c is v there) ((is.walks.marks x.0 x.1 u).0 on) ((is.walks.marks x.0 x.1 v).0 there) off.1)

-- so none of the walks is farther from that node, unless none is left
pub none-from_steps : (c : Computed) (m : Net) (s : Staying) (less left set both : NodeBits) (moved : List NodeBits) (t : ℕ)
    → IsComputed c → AreStaying c.net m s → AreMoved c.net.graph m.graph moved (node_count c.net.graph)
    → ((v : ℕ) → is_in less v ≡ (is_in c.walks v && not (is_in s.trees v)))
    → ((v : ℕ) → is_in left v ≡ (not (v == source_of c.net.graph c.case) && is_in less v))
    → t ≡ pivot_of c.net.graph c.case → slice_get moved t ≡ Some set
    → ((v : ℕ) → is_in both v ≡ (is_in set v && is_in c.walks v))
    → AreStepsKept c.net m c.case → (((v : ℕ) → is_in left v ≡ false) → ⊥) → (v : ℕ) → is_in both v ≡ false
none-from_steps c m s less left set both moved t is stay are minus without pivot at_t joint steps some v = ⊎_elim
    (λ (yes' : is_in both v ≡ true). absurd (some (λ u. ⊎_elim
    (λ (here : is_in left u ≡ true).
    let parts = and_parts (is_in set v) (is_in c.walks v) (sym (joint v) ∙ yes') in
    let far = (far-from_steps c m s less left is stay minus without steps u v here parts.1).1 in
    let off : is_in set v ≡ false = (are.each t set at_t v (walked-within c is v parts.1)).1 (subst (λ k. IsSameFar c.net.graph m.graph k v) (sym pivot) far) in
    absurd (true≢false (sym parts.0 ∙ off)))
    (λ no. no)
    (cases_Bool (is_in left u)))))
    (λ no. no)
    (cases_Bool (is_in both v))

-- and each that is left is as far as it was to that node
pub left-from_steps : (c : Computed) (m : Net) (s : Staying) (less left : NodeBits) (moved : List NodeBits) (t : ℕ)
    → IsComputed c → AreStaying c.net m s → AreMoved c.net.graph m.graph moved (node_count c.net.graph)
    → ((v : ℕ) → is_in less v ≡ (is_in c.walks v && not (is_in s.trees v)))
    → ((v : ℕ) → is_in left v ≡ (not (v == source_of c.net.graph c.case) && is_in less v))
    → t ≡ pivot_of c.net.graph c.case → t < node_count c.net.graph
    → AreStepsKept c.net m c.case → (u : ℕ) (far : NodeBits) → is_in left u ≡ true → slice_get moved u ≡ Some far → is_in far t ≡ false
left-from_steps c m s less left moved t is stay are minus without pivot t_in steps u far here at =
    let on : is_in c.walks u ≡ true = left-walked c.walks s.trees less left (source_of c.net.graph c.case) u minus without here in
    let to_t = (far-from_steps c m s less left is stay minus without steps u u here on).0 in
    (are.each u far at t t_in).1 (subst (λ k. IsSameFar c.net.graph m.graph u k) (sym pivot) to_t)

-- changed links are idle after the failure where the case is steady
pub idle-from_steady : (n m : Net) (case : Case) (cells : List ℕ) (d : Differences) → ((x : List Bool) → IsFailedSet n.graph case x → IsRow n.graph x (source_of n.graph case) cells) → AreChanges n m d → d.same ≡ true → IsSteadyCase n m case → AreIdleOrFailed n.graph case cells d.links
idle-from_steady n m case cells d rows changes same k = idle-from_row n m case cells k.post k.x d rows changes same k.failed k.row k.idle

-- all that is asked of a steady case holds of it
pub here-from_steady : (c : Computed) (m : Net) (d : Differences) → IsComputed c → AreChanges c.net m d → d.same ≡ true → IsSteadyCase c.net m c.case → IsSteadyHere c m d.links
here-from_steady c m d is changes same k = record {
  idle = idle-from_steady c.net m c.case c.cells d is.row changes same k;
  segments = λ x failed w lt on. k.segments w lt (subst (λ z. IsOnRepairWay c.net c.case z w) (failed-one c.net.graph c.case x k.x failed k.failed) on);
  steps = λ x failed u v at to on more other.
      let one = failed-one c.net.graph c.case x k.x failed k.failed in
      k.steps u v at to (subst (λ z. IsOnRepairWay c.net c.case z u) one on) (subst (λ z. IsOnRepairWay c.net c.case z v) one more) other;
}

-- the same destinations are affected where the case is steady
pub affected-from_steady : (n m : Net) (case : Case) → IsNet n → IsNet m → (link : LinkNo) → HaveSameName n.graph m.graph case.link.0 link.0 → IsSteadyCase n m case → AreAffectedAlike n case m (case_with case link)
affected-from_steady n m case old new link name k d =
    let e : k.link ≡ link = partner-one n m case new.named link k.link name k.protected in
    let alike : (v : ℕ) → v < node_count n.graph → IsAffected n case v ↔ IsAffected m (case_with case link) v =
    subst (λ j. (v : ℕ) → v < node_count n.graph → IsAffected n case v ↔ IsAffected m (case_with case j) v) e k.affected in
    let count : node_count m.graph ≡ node_count n.graph = ap length k.nodes.systems in (
      λ a. (alike d (affected-within n case d old.graph k.within a)).0 a,
      λ a. (alike d (let there : d < node_count m.graph = affected-within m (case_with case link) d new.graph name.1 a in omega (arith, there, count))).1 a,
    )

-- the failed links are of the same pairs where the case is steady
pub failures-from_steady : (n m : Net) (case : Case) → IsNamed m.graph → (link : LinkNo) → HaveSameName n.graph m.graph case.link.0 link.0 → IsSteadyCase n m case → HaveSameFailures n.graph case m.graph (case_with case link)
failures-from_steady n m case named link name k =
    failures-from_pairs n m case named link k.link name k.protected k.x k.y k.failed k.failed' k.pairs
