-- What stays of a case is its solution in the new net, by the new numbers of links.
use Rattle.std.proofs.Common.{◌≡◌, ℕ, ◌<◌, Bool, List, [], ◌∷◌, map, length, refl, arith, ap, sym, ◌∙◌, subst, Option, Some, None, inl}
use Rattle.std.specs.Prelude.{◌↔◌, IsTrue, slice_index_or, MatchOption}
use Rattle.std.proofs.lemmas.List.{get_or-map, length-map}
use Rattle.sr_model.specs.declared.case.Case.{Case}
use Rattle.sr_model.specs.declared.case.Kind.TheVariants.{Risk as RiskKind}
use Rattle.sr_model.specs.declared.link.LinkNo.{LinkNo}
use Rattle.sr_model.specs.declared.repair.Segment.{Segment}
use Rattle.sr_model.specs.declared.repair.Segment.TheVariants.{Node, Adj}
use Rattle.sr_model.specs.declared.repair.RepairList.{RepairList}
use Rattle.sr_model.specs.declared.repair.Answer.{Answer}
use Rattle.sr_model.specs.declared.repair.Answer.TheVariants.{Least, NoPath, NoList, TooDeep}
use Rattle.sr_model.specs.Key.{IsSamePair}
use Rattle.sr_model.specs.Graph.{node_count}
use Rattle.sr_model.specs.Walk.{IsRow}
use Rattle.sr_model.specs.Case.{key_at, IsFailedSet, IsAffected, IsOnRepairWay, FailsWith, source_of}
use Rattle.sr_model.specs.Label.{Net}
use Rattle.sr_model.specs.Rule.{IsNet}
use Rattle.sr_model.specs.Stay.{HaveSameName, case_with, AreSegmentsSame, IsSameList, IsSameAnswer}
use Rattle.sr_laws.proofs.Keys.{key-one, name-ends, nodes-same, pair-trans}
use Rattle.sr_laws.specs.Listed.{IsCaseListed}
use Rattle.sr_laws.specs.Steady.{IsSteadyCase}
use Rattle.sr_laws.proofs.Kept.{affected-same, listed-renumbered, post-same}
use Rattle.sr_laws.proofs.KeptWays.{listed-there, ways-same}
use Rattle.sr_spf.specs.Renewed.{moved_link, AreInPlace}
use Rattle.sr_graph.specs.Failed.{FailsAsLink}
use Rattle.sr_delta.specs.Partners.{ArePartners, IsPartner, partner_at}
use Rattle.sr_encode.specs.declared.answers.NodeAnswer.{NodeAnswer}
use Rattle.sr_encode.specs.Answered.{AreLists, destination_at, answer_at, node_answer_at}
use Rattle.sr_encode.specs.declared.renumbered.Renumbering.{Renumbering}
use Rattle.sr_encode.specs.Placed.{listed_from, ArePlacedLists, HaveLinkNumbers, Listing, AreNotBefore}
use Rattle.sr_encode.specs.Renumbered.{moved_segment, moved_answer, moved_entry, moved_entries}
use Rattle.sr_encode.proofs.AnswerLemmas.{affected-within, no_entry}
use Rattle.sr_encode.proofs.PlacedLemmas.{holds-one, lists-numbered, lists-stand}
use Rattle.sr_graph.specs.Ranges.{HoldsLinks}
use Rattle.sr_delta.specs.declared.staying.Staying.{Staying}
use Rattle.sr_delta.specs.Changes.{Differences}
use Rattle.sr_repair.specs.Answers.{AffectsSome}
use Rattle.sr_repair.specs.Former.{IsFormer, IsRenumbering, IsSearched, StaySolved, StayKnown}
use Rattle.sr_repair.specs.KnownCase.{IsKnownCase}
use Rattle.sr_repair.specs.Spared.{Passage}
use Rattle.sr_repair.specs.Solutions.{Solution, IsMovedSolution, IsSolution}
use Rattle.sr_repair.specs.declared.known_case.KnownCase.{KnownCase}
use Rattle.sr_lanes.specs.declared.words.NodeBits.{NodeBits}
use Rattle.sr_lanes.specs.Bits.{is_in}
use Rattle.sr_post.specs.Marks.{AreWalks}
use Rattle.sr_repair.proofs.PlaceLemmas.{case_is}

-- where no number moves, answers are as they were
module _ (links : List (Option LinkNo)) (place : AreInPlace links) where
  segment-placed : (s : Segment) → moved_segment links s ≡ s
  segment-placed (Node v) = refl
  segment-placed (Adj l) = ap (λ (k : LinkNo). Adj k) (place l)

  segments-placed : (ss : List Segment) → map (moved_segment links) ss ≡ ss
  segments-placed [] = refl
  segments-placed (s ∷ ss) = rw (segment-placed s, segments-placed ss) refl

  answer-placed : (a : Answer) → moved_answer links a ≡ a
  answer-placed NoPath = refl
  answer-placed NoList = refl
  answer-placed (TooDeep needed) = refl
  answer-placed (Least list) =
      ap (λ (r : RepairList). Least r)
      (let q : record { first = moved_link links list.first; segments = map (moved_segment links) list.segments; cost = list.cost } ≡ record { first = list.first; segments = list.segments; cost = list.cost } = rw (place list.first, segments-placed list.segments) refl in q)

  pub entries-placed : (list : List NodeAnswer) → moved_entries links list ≡ list
  entries-placed [] = refl
  entries-placed (e ∷ list) =
      rw (let q : moved_entry links e ≡ record { destination = e.destination; answer = e.answer } = rw (answer-placed e.answer) refl in q, entries-placed list) refl

-- the numbers of links in the new net are those of their partners there
module _ (n m : Net) (links : List (Option LinkNo)) (partners : ArePartners n.graph m.graph links) where
  partner-named : (l : LinkNo) (k : ℕ) (p : Option LinkNo) → IsPartner n.graph m.graph l.0 p → slice_index_or links l.0 None ≡ p → HaveSameName n.graph m.graph l.0 k → HaveSameName n.graph m.graph l.0 (moved_link links l).0
  partner-named l k None none is name = absurd (none k name)
  partner-named l k (Some q) name' is name = rw is name'

  moved-named : (l : LinkNo) (k : ℕ) → HaveSameName n.graph m.graph l.0 k → HaveSameName n.graph m.graph l.0 (moved_link links l).0
  moved-named l k name = partner-named l k (partner_at links l.0) (partners.each l.0 name.0) refl name

  segments-moved : (ss ts : List Segment) → AreSegmentsSame n.graph m.graph ss ts → AreSegmentsSame n.graph m.graph ss (map (moved_segment links) ss)
  segments-moved [] ts same = refl
  segments-moved (Node v ∷ ss) [] same = absurd same
  segments-moved (Node v ∷ ss) (Node w ∷ ts) same = (refl, segments-moved ss ts same.1)
  segments-moved (Node v ∷ ss) (Adj k ∷ ts) same = absurd same
  segments-moved (Adj l ∷ ss) [] same = absurd same
  segments-moved (Adj l ∷ ss) (Node w ∷ ts) same = absurd same
  segments-moved (Adj l ∷ ss) (Adj k ∷ ts) same = (moved-named l k.0 same.0, segments-moved ss ts same.1)

  list-moved : (a b : RepairList) → IsSameList n.graph m.graph a b → IsSameAnswer n.graph m.graph (Least a) (moved_answer links (Least a))
  list-moved a b same = (
    record { first = moved_link links a.first; segments = map (moved_segment links) a.segments; cost = a.cost },
    refl,
    record {
      first = moved-named a.first b.first.0 same.first;
      segments = segments-moved a.segments b.segments same.segments;
      cost = refl;
    },
  )

  -- the like of an answer is the answer with renumbered links
  answer-moved : (a b : Answer) → IsSameAnswer n.graph m.graph a b → IsSameAnswer n.graph m.graph a (moved_answer links a)
  answer-moved NoPath b same = refl
  answer-moved NoList b same = refl
  answer-moved (TooDeep needed) b same = refl
  answer-moved (Least a) b same = list-moved a same.0 same.2

  moved-at : (list : List NodeAnswer) (i : ℕ) → i < length list → node_answer_at (map (moved_entry links) list) i ≡ moved_entry links (node_answer_at list i)
  moved-at list i lt = get_or-map (moved_entry links) list i no_entry no_entry lt

  destination-moved : (list : List NodeAnswer) (i : ℕ) → i < length list → destination_at (map (moved_entry links) list) i ≡ destination_at list i
  destination-moved list i lt = ap (λ (e : NodeAnswer). e.destination.0) (moved-at list i lt)

  -- an old case that is steady, and the case of the new net whose protected link has its name
  module _ (N : IsNet n) (M : IsNet m) (old new : Case) (kind : old.kind ≡ new.kind) (name : HaveSameName n.graph m.graph old.link.0 new.link.0) (stays : IsSteadyCase n m old) where
    is-new : case_with old stays.link ≡ new
    is-new = case_is (case_with old stays.link) new kind (key-one m.graph M.named stays.link.0 new.link.0 stays.protected.1 name.1 (stays.protected.2 ∙ sym name.2))

    nodes : node_count m.graph ≡ node_count n.graph
    nodes = nodes-same n.graph m.graph stays.nodes

    row-moved : (cells : List ℕ) → ((x : List Bool) → IsFailedSet n.graph old x → IsRow n.graph x (source_of n.graph old) cells) → (y : List Bool) → IsFailedSet m.graph new y → IsRow m.graph y (source_of m.graph new) cells
    row-moved cells row y set =
        subst (λ c. IsRow m.graph y (source_of m.graph c) cells) is-new
        (post-same n m N M old stays stays.x y stays.failed (subst (λ c. IsFailedSet m.graph c y) (sym is-new) set) cells (row stays.x stays.failed))

    affected-to : (d : ℕ) → d < node_count n.graph → IsAffected n old d → IsAffected m new d
    affected-to d lt a = subst (λ c. IsAffected m c d) is-new ((affected-same n m N M old stays d lt).0 a)

    affected-from : (d : ℕ) → d < node_count n.graph → IsAffected m new d → IsAffected n old d
    affected-from d lt a = (affected-same n m N M old stays d lt).1 (subst (λ c. IsAffected m c d) (sym is-new) a)

    listed-to : (d : ℕ) → IsAffected n old d → (a : Answer) → IsCaseListed n old d a → IsCaseListed m new d (moved_answer links a)
    listed-to d affected a is =
        let lt : d < node_count n.graph = affected-within n old d N.nodes affected in
        let there = listed-there n m N M old stays d lt affected a is in
        subst (λ c. IsCaseListed m c d (moved_answer links a)) is-new
        (listed-renumbered n m N M old stays d lt affected a (moved_answer links a) is (answer-moved a there.0 there.1))

    lists-moved : (list : List NodeAnswer) → AreLists n old list → AreLists m new (map (moved_entry links) list)
    lists-moved list r =
        let long : length (map (moved_entry links) list) ≡ length list = length-map list (moved_entry links) in
        record {
          ascending = λ i j lt end.
              let up : destination_at list i < destination_at list j = r.ascending i j lt (omega (arith, long)) in
              omega (arith, up, destination-moved list i (omega (arith, long)), destination-moved list j (omega (arith, long)));
          affected = λ i end.
              let lt : i < length list = omega (arith, long) in
              let a = r.affected i lt in
              subst (λ d. IsAffected m new d) (sym (destination-moved list i lt)) (affected-to (destination_at list i) (affected-within n old (destination_at list i) N.nodes a) a);
          answers = λ i end.
              let lt : i < length list = omega (arith, long) in
              subst (λ (e : NodeAnswer). IsCaseListed m new e.destination.0 e.answer) (sym (moved-at list i lt)) (listed-to (destination_at list i) (r.affected i lt) (answer_at list i) (r.answers i lt));
          all = λ d affected.
              let within : d < node_count m.graph = affected-within m new d M.nodes affected in
              let at = r.all d (affected-from d (omega (arith, within, nodes)) affected) in
              (at.0, (let lt : at.0 < length list = at.1 in omega (arith, lt, long)), destination-moved list at.0 at.1 ∙ at.2);
        }

    source-same : source_of m.graph new ≡ source_of n.graph old
    source-same = (name-ends n.graph m.graph N.graph M.graph N.named M.named stays.nodes old.link.0 new.link.0 name).0

    pub solution-moved : (r : Renumbering) (end end' : ℕ) → r.links.now ≡ links → HoldsLinks n.graph (source_of n.graph old) r.before.0 end → HoldsLinks m.graph (source_of n.graph old) r.after.0 end' → (s t : Solution) → IsMovedSolution r s t → IsSolution n old s → IsSolution m new t
    solution-moved r end end' same before after s t moved is = record {
      row = λ y set. subst (λ cells. IsRow m.graph y (source_of m.graph new) cells) (sym moved.cells) (row-moved s.cells is.row y set);
      lists = record {
        from = λ first last holds.
            let here : HoldsLinks m.graph (source_of n.graph old) first last = subst (λ u. HoldsLinks m.graph u first last) source-same holds in
            let at : r.after.0 ≡ first = holds-one m.graph (source_of n.graph old) r.after.0 end' first last new.link.0 after here name.1 source-same in
            let list : listed_from first t.lists ≡ moved_entries links (listed_from r.before.0 s.lists) =
            ap (λ k. listed_from k t.lists) (sym at) ∙ moved.lists ∙ ap (λ k. moved_entries k (listed_from r.before.0 s.lists)) same in
            subst (λ l. AreLists m new l) (sym list) (lists-moved (listed_from r.before.0 s.lists) (is.lists.from r.before.0 end before));
      };
    }

    -- the first links in the new net are those of its source
    pub stand-moved : (first end first' end' : ℕ) (listing : Listing) → HoldsLinks n.graph (source_of n.graph old) first end → HoldsLinks m.graph (source_of n.graph old) first' end' → ArePlacedLists n old listing → AreNotBefore first' (moved_entries links (listed_from first listing))
    stand-moved first end first' end' listing before after is =
        lists-stand m new (moved_entries links (listed_from first listing)) (lists-moved (listed_from first listing) (is.from first end before)) first' end'
        (subst (λ u. HoldsLinks m.graph u first' end') (sym source-same) after)

    -- the same nodes are on the walks of both
    pub walks-moved : (set : NodeBits) → AreWalks n old set → AreWalks m new set
    walks-moved set walks = record {
      marks = λ y failed v.
          let here : IsTrue (is_in set v) ↔ IsOnRepairWay n old stays.x v = walks.marks stays.x stays.failed v in
          let both = ways-same n m N M old stays stays.x y stays.failed (subst (λ c. IsFailedSet m.graph c y) (sym is-new) failed) v in (
            λ yes. subst (λ c. IsOnRepairWay m c y v) is-new (both.0 (here.0 yes)),
            λ on. here.1 (both.1 (subst (λ c. IsOnRepairWay m c y v) (sym is-new) on)),
          );
    }

-- where an old case affects no destination and is steady, the new one affects none
pub none-affected : (n m : Net) → IsNet n → IsNet m → (old new : Case) → old.kind ≡ new.kind → HaveSameName n.graph m.graph old.link.0 new.link.0 → IsSteadyCase n m old → (AffectsSome n old → ⊥) → AffectsSome m new → ⊥
none-affected n m N M old new kind name stays none some =
    let is : case_with old stays.link ≡ new = case_is (case_with old stays.link) new kind (key-one m.graph M.named stays.link.0 new.link.0 stays.protected.1 name.1 (stays.protected.2 ∙ sym name.2)) in
    let nodes : node_count m.graph ≡ node_count n.graph = nodes-same n.graph m.graph stays.nodes in
    let within : some.0 < node_count m.graph = affected-within m new some.0 M.nodes some.1 in
    none (some.0, (affected-same n m N M old stays some.0 (omega (arith, within, nodes))).1 (subst (λ c. IsAffected m c some.0) (sym is) some.1))

-- where an old SRLG case fails as its link case and is steady, the new one fails as its link case
pub like-stays : (n m : Net) → IsNet m → (old new : Case) → old.kind ≡ new.kind → HaveSameName n.graph m.graph old.link.0 new.link.0 → IsSteadyCase n m old → FailsAsLink n.graph old → FailsAsLink m.graph new
like-stays n m M old new kind name stays like =
    let is : case_with old stays.link ≡ new = case_is (case_with old stays.link) new kind (key-one m.graph M.named stays.link.0 new.link.0 stays.protected.1 name.1 (stays.protected.2 ∙ sym name.2)) in
    let risk : new.kind ≡ RiskKind = sym kind ∙ like.risk in
    let set : IsFailedSet m.graph new stays.y = subst (λ c. IsFailedSet m.graph c stays.y) is stays.failed' in
    record {
      risk = risk;
      same = λ l lt. (
        λ fails.
            let back = stays.pairs.back l lt ((set.each l lt).1 fails) in
            let old_fails : FailsWith n.graph old.kind old.link.0 back.0 = (stays.failed.each back.0 back.1).0 back.2 in
            let pair : IsSamePair (key_at n.graph back.0) (key_at n.graph old.link.0) = (like.same back.0 back.1).0 old_fails in
            subst (λ key. IsSamePair (key_at m.graph l) key) (sym name.2) (pair-trans (key_at m.graph l) (key_at n.graph back.0) (key_at n.graph old.link.0) back.3 pair),
        λ pair.
            let as_risk : FailsWith m.graph RiskKind new.link.0 l = inl pair in
            subst (λ k. FailsWith m.graph k new.link.0 l) (sym risk) as_risk,
      );
    }

-- the same name, read the other way
pub name-back : (n m : Net) (l k : ℕ) → HaveSameName n.graph m.graph l k → HaveSameName m.graph n.graph k l
name-back n m l k name = (name.1, name.0, sym name.2)

-- the net before, with what differs
module _ (p : Passage) (changes : Differences) (staying : Staying) (in_place : Bool) (r : IsFormer p changes staying in_place) where
  -- what is moved so is the solution in the new net
  pub moved-stays : (old : Case) (num : Renumbering) → IsRenumbering p (source_of p.old.graph old) num → (s t : Solution) → IsMovedSolution num s t → StaySolved p old s t
  moved-stays old num numbers s t moved new kind name stays is =
      solution-moved p.old p.new num.links.now numbers.links r.differ.old r.differ.new old new kind name stays num numbers.end numbers.end' refl numbers.before numbers.after s t moved is

  -- and it can be moved
  pub numbers-told : (old : Case) (num : Renumbering) → IsRenumbering p (source_of p.old.graph old) num → (s : Solution) → IsSolution p.old old s → HaveLinkNumbers (listed_from num.before.0 s.lists)
  numbers-told old num numbers s is = lists-numbered p.old old (listed_from num.before.0 s.lists) (is.lists.from num.before.0 numbers.end numbers.before) r.differ.old.graph

  pub begin-told : (old : Case) (num : Renumbering) → IsRenumbering p (source_of p.old.graph old) num → (s : Solution) → IsSolution p.old old s → IsSteadyCase p.old p.new old → AreNotBefore num.after.0 (moved_entries num.links.now (listed_from num.before.0 s.lists))
  begin-told old num numbers s is stays =
      stand-moved p.old p.new num.links.now numbers.links r.differ.old r.differ.new old (case_with old stays.link) refl stays.protected stays num.before.0 numbers.end num.after.0 numbers.end' s.lists numbers.before numbers.after is.lists

  -- the record that is kept of an old case that is steady is one of the new case
  pub known-moved : (was kept : KnownCase) (old new : Case) → old.kind ≡ new.kind → HaveSameName p.old.graph p.new.graph old.link.0 new.link.0 → IsSteadyCase p.old p.new old → IsKnownCase p.old old was → StayKnown p old was kept → IsKnownCase p.new new kept
  known-moved was kept old new kind name steady known stay = record {
    solution = stay.solved new kind name steady known.solution;
    walks = λ set told. walks-moved p.old p.new changes.partners (r.differ.partners r.same) r.differ.old r.differ.new old new kind name steady set (stay.walks set told);
  }

  -- a case whose protected link the old net doesn't have is no old case
  pub searched-without : (case : Case) → IsPartner p.new.graph p.old.graph case.link.0 None → IsSearched (Some p) p.new case
  searched-without case none affects spared = none spared.old.link.0 (name-back p.old p.new spared.old.link.0 case.link.0 spared.name)

  -- and neither is one whose old case isn't steady where some destination is affected
  pub searched-unless : (case : Case) (link : LinkNo) → HaveSameName p.new.graph p.old.graph case.link.0 link.0 → (AffectsSome p.new case → IsSteadyCase p.old p.new (record { kind = case.kind; link = link }) → ⊥) → IsSearched (Some p) p.new case
  searched-unless case link name not affects spared =
      let is : spared.old ≡ record { kind = case.kind; link = link } = case_is spared.old (record { kind = case.kind; link = link }) spared.kind (key-one p.old.graph r.differ.old.named spared.old.link.0 link.0 spared.name.0 name.1 (sym spared.name.2 ∙ sym name.2)) in
      not affects (subst (λ c. IsSteadyCase p.old p.new c) is spared.steady)

  pub searched-nothing : (case : Case) (link : LinkNo) → HaveSameName p.new.graph p.old.graph case.link.0 link.0 → (AffectsSome p.old (record { kind = case.kind; link = link }) → ⊥) → IsSearched (Some p) p.new case
  searched-nothing case link name none =
      searched-unless case link name
      (λ affects stays. none-affected p.old p.new r.differ.old r.differ.new (record { kind = case.kind; link = link }) case refl (name-back p.new p.old case.link.0 link.0 name) stays none affects)

  pub searched-like : (case : Case) (link : LinkNo) → HaveSameName p.new.graph p.old.graph case.link.0 link.0 → FailsAsLink p.old.graph (record { kind = case.kind; link = link }) → (FailsAsLink p.new.graph case → ⊥) → IsSearched (Some p) p.new case
  searched-like case link name like own =
      searched-unless case link name
      (λ affects stays. own (like-stays p.old p.new r.differ.new (record { kind = case.kind; link = link }) case refl (name-back p.new p.old case.link.0 link.0 name) stays like))

-- what follows from either finding
pub found-weaker : {X : Type 0} (o : Option X) (A B : Type 0) (P Q : X → Type 0) → (A → B) → ((x : X) → P x → Q x) → MatchOption o A P → MatchOption o B Q
found-weaker None A B P Q none some m = none m
found-weaker (Some x) A B P Q none some m = some x m
