-- Distances from a node stand but for those of the lost nodes.
use Rattle.std.proofs.Common.{◌≡◌, ◌≢◌, ℕ, ◌+◌, ◌<◌, ◌≤◌, ⊎_elim, inl, inr, true, false, List, [], ◌∷◌, ◌++◌, length, refl, arith, ap, sym, ◌∙◌, subst}
use Rattle.std.specs.Prelude.{slice_index, if◌then◌else◌}
use Rattle.std.proofs.lemmas.Bool.{cases_eq, cases_lt, cases_Bool}
use Rattle.std.proofs.lemmas.List.{get_or_past, get_or_default}
use Rattle.sr_model.specs.declared.link.NodeNo.{NodeNo}
use Rattle.sr_model.specs.declared.link.TheConstants.{FAR}
use Rattle.sr_model.specs.declared.name.LinkKey.{LinkKey}
use Rattle.sr_model.specs.Graph.{Graph, IsGraph, IsLink, carries, head, is_overloaded, link_at, link_count, metric, node_count, system_at, tail}
use Rattle.sr_model.specs.Walk.{IsDistance, IsRow, IsShortest, IsWalk, cost}
use Rattle.sr_model.specs.Case.{key_at}
use Rattle.sr_model.specs.Label.{Net}
use Rattle.sr_model.specs.Stay.{IsChanged, IsIdle}
use Rattle.sr_walks.proofs.Walks.{carries-cases, carries-clear, carries-same, cost-append}
use Rattle.sr_walks.proofs.Distances.{IsShortest-from_cost, OnShortest-carries, cell-distance, distance-from_shortest, distance-triangle, shortest-cut}
use Rattle.sr_walks.proofs.Rows.{IsIdleLink, carries-agree, row-near}
use Rattle.sr_laws.proofs.Keys.{nodes-same, same-link, system-one}
use Rattle.sr_laws.proofs.Changes.{AreVersions, changed-sym, idle-new, idle-old, same-or_changed, versions-sym}
use Rattle.sr_seq.proofs.ListLemmas.{last-cut}
use Rattle.sr_lanes.specs.Bits.{is_in}
use Rattle.sr_lanes.specs.declared.words.NodeBits.{NodeBits}
use Rattle.sr_spf.specs.Begun.{HasWay, IsBegun}
use Rattle.sr_spf.specs.Lost.{AreCellsWithout, AreListedNodes, StandsBut}
use Rattle.sr_spf.specs.Nodes.{listed_at}
use Rattle.sr_spf.specs.Renewed.{AreRowsBut}
use Rattle.sr_spf.specs.declared.renewed.Renewal.{Renewal}
use Rattle.sr_spf.specs.Trees.{Forest, AreTrees, cell_at, row_at}
use Rattle.sr_spf.proofs.NodeLemmas.{listed-contains}
use Rattle.sr_spaces.proofs.OverLemmas.{own_cell}
use Rattle.sr_delta.specs.declared.change.Change.{Change}
use Rattle.sr_delta.specs.Changed.{AreChangedLinks, IsChange, change_at}
use Rattle.sr_delta.specs.Changes.{AreChanges, Differences}
use Rattle.sr_delta.specs.Lost.{AreLostToChanges, AreLostSets, IsPast}
use Rattle.sr_delta.proofs.IdleLemmas.{idle-from_change}

-- link k is the last of a shortest walk from u to v, by the row of u
record IsLastLink (g : Graph) (row : List ℕ) (u v k : ℕ) : Type 0 where
  pub within : k < link_count g
  pub carry : carries g u (tail g k) ≡ true
  pub ends : head g k ≡ v
  pub sum : slice_index row (tail g k) + metric g k ≡ slice_index row v

-- there is such a link to each other node that the row reaches
last-link : (g : Graph) (row : List ℕ) (u v : ℕ) → IsGraph g → IsRow g [] u row → v < node_count g → slice_index row v < FAR → v ≢ u → (k : ℕ) × IsLastLink g row u v k
last-link g row u v graph is v_in near ne =
    let d : IsDistance g [] u v (slice_index row v) = (is.each v v_in).near near in
    ⊎_elim
    (λ (e : d.reached.0 ≡ []). let here : u ≡ v = subst (λ p. IsWalk g [] u p v) e d.reached.1 in absurd (ne (sym here)))
    (λ (r : (q : List ℕ) × (k : ℕ) × (d.reached.0 ≡ q ++ k ∷ [])).
    let k : ℕ = r.1 in
    let short : IsShortest g [] u (r.0 ++ k ∷ []) v = subst (λ p. IsShortest g [] u p v) r.2 (IsShortest-from_cost g [] u v (slice_index row v) d.reached.0 d d.reached.1 d.reached.2) in
    let whole : cost g (r.0 ++ k ∷ []) ≡ slice_index row v = subst (λ p. cost g p ≡ slice_index row v) r.2 d.reached.2 in
    let cut = shortest-cut g [] u r.0 (k ∷ []) v short in
    let begins : tail g k ≡ cut.0 = cut.2.0.2 in
    let front : IsDistance g [] u (tail g k) (cost g r.0) = subst (λ w. IsDistance g [] u w (cost g r.0)) (sym begins) (distance-from_shortest g [] u cut.0 r.0 cut.1) in
    let sum : cost g (r.0 ++ k ∷ []) ≡ cost g r.0 + metric g k = omega (arith, cost-append g r.0 (k ∷ [])) in
    let cell : slice_index row (tail g k) ≡ cost g r.0 = cell-distance g [] u (tail g k) (slice_index row (tail g k)) (cost g r.0) (is.each (tail g k) (graph.each k cut.2.0.0).0) front (omega (arith, whole, sum)) in (
      k,
      record {
        within = cut.2.0.0;
        carry = (OnShortest-carries g [] u v k (record { before = r.0; after = []; shortest = short })).0;
        ends = cut.2.0.3;
        sum = omega (arith, whole, sum, cell);
      },
    ))
    (last-cut d.reached.0)

module _ (g h : Graph) (t : Forest) (links : List Change) (u : ℕ) (lost : NodeBits) (both : AreVersions g h)
    (are : AreChangedLinks g h links) (trees : AreTrees g t) (at : u < node_count g) (is : AreLostToChanges h t.rows links u lost) where
  -- the row of u
  row_of : IsRow g [] u (row_at t.rows u)
  row_of = trees.rows u at

  -- a node of the old graph is one of the new
  here : (v : ℕ) → v < node_count g → v < node_count h
  here v v_in = let count : node_count h ≡ node_count g = nodes-same g h both.same in omega (arith, count)

  -- and the other way round
  there : (v : ℕ) → v < node_count h → v < node_count g
  there v v_in = let count : node_count h ≡ node_count g = nodes-same g h both.same in omega (arith, count)

  -- u isn't lost
  kept-self : is_in lost u ≡ false
  kept-self = ⊎_elim
      (λ (gone : is_in lost u ≡ true). absurd (((is.each u (here u at)).0 gone).0 refl))
      (λ stays. stays)
      (cases_Bool (is_in lost u))

  -- the end of a changed link that isn't idle is lost
  lost-end : (key : LinkKey) (v : ℕ) → IsChanged g h key → v < node_count g → system_at g v ≡ key.to → (IsIdle g h (row_at t.rows u) key → ⊥) → v ≢ u → is_in lost v ≡ true
  lost-end key v changed v_in named busy ne =
      let place = are.whole key changed changed in
      let a : Change = change_at links place.0 in
      let one : IsChange g h a = are.each place.0 place.1 in
      let to : a.to.0 ≡ v = system-one g both.named a.to.0 v one.ends.0 v_in (one.ends.1 ∙ ap (λ k. k.to) place.2 ∙ sym named) in
      let past : IsPast h t.rows u v v = record { carry = carries-same h v v refl; sum = omega (arith, own_cell g t v trees v_in) } in
      (is.each v (here v v_in)).1 (
        ne,
        inr (
          place.0,
          place.1,
          λ idle. busy (subst (λ j. IsIdle g h (row_at t.rows u) j) place.2 (idle-from_change g h both.named both.named' (row_at t.rows u) a one idle)),
          subst (λ w. IsPast h t.rows u w v) (sym to) past,
        ),
      )

  -- the end of an old link is lost, if that link is changed and isn't idle
  lost-old : (l : ℕ) → l < link_count g → IsChanged g h (key_at g l) → (IsIdleLink g (row_at t.rows u) l → ⊥) → head g l ≢ u → is_in lost (head g l) ≡ true
  lost-old l l_in changed busy ne =
      lost-end (key_at g l) (head g l) changed (both.old.each l l_in).1 (sym (both.named.ends l l_in).1) (λ idle. busy (idle-old g h (row_at t.rows u) both.old both.named l l_in idle)) ne

  -- and that of a new one
  lost-new : (l : ℕ) → l < link_count h → IsChanged g h (key_at h l) → (IsIdleLink h (row_at t.rows u) l → ⊥) → head h l ≢ u → is_in lost (head h l) ≡ true
  lost-new l l_in changed busy ne =
      let same : system_at g (head h l) ≡ system_at h (head h l) = ap (λ (s : List ℕ). slice_index s (head h l)) (sym both.same.systems) in
      lost-end (key_at h l) (head h l) changed (there (head h l) (both.new.each l l_in).1) (same ∙ sym (both.named'.ends l l_in).1) (λ idle. busy (idle-new g h (row_at t.rows u) both.new both.named both.named' both.same l l_in idle)) ne

  -- where the beginning of the last link to v is past a node, so is v
  past-on : (w v k : ℕ) → w < node_count g → v < node_count g → cell_at t u v < FAR → IsLastLink g (row_at t.rows u) u v k → is_overloaded g (tail g k) ≡ false → IsPast h t.rows u w (tail g k) → IsPast h t.rows u w v
  past-on w v k w_in v_in near last clear past =
      let through : is_overloaded g w ≡ false = ⊎_elim (λ (e : w ≡ tail g k). subst (λ j. is_overloaded g j ≡ false) (sym e) clear) (λ c. both.same.overloaded w w_in ∙ c) (carries-cases h (tail g k) w past.carry) in
      let sum : cell_at t u w + cell_at t w (tail g k) ≡ cell_at t u (tail g k) = past.sum in
      let on = row-near g [] w (row_at t.rows w) both.old (trees.rows w w_in) k last.within refl (carries-clear g w (tail g k) clear) (omega (arith, last.sum)) in
      let near' : cell_at t w v < FAR = subst (λ j. cell_at t w j < FAR) last.ends on.0 in
      let most : cell_at t w v ≤ cell_at t w (tail g k) + metric g k = subst (λ j. cell_at t w j ≤ cell_at t w (tail g k) + metric g k) last.ends on.1 in
      let least : cell_at t u v ≤ cell_at t u w + cell_at t w v = distance-triangle g [] u w v _ _ _ (carries-clear g u w through) ((row_of.each w w_in).near (omega (arith, last.sum))) (((trees.rows w w_in).each v v_in).near near') ((row_of.each v v_in).near near) in
      record { carry = carries-clear h v w (sym (both.same.overloaded w w_in) ∙ through); sum = omega (arith, last.sum) }

  -- where the beginning of the last link to v is lost, so is v
  lost-on : (v k : ℕ) → v < node_count g → cell_at t u v < FAR → v ≢ u → IsLastLink g (row_at t.rows u) u v k → is_in lost (tail g k) ≡ true → is_in lost v ≡ true
  lost-on v k v_in near ne last gone =
      let from : tail g k < node_count g = (both.old.each k last.within).0 in
      let why = (is.each (tail g k) (here (tail g k) from)).0 gone in
      let clear : is_overloaded g (tail g k) ≡ false = ⊎_elim (λ (e : tail g k ≡ u). absurd (why.0 e)) (λ c. c) (carries-cases g u (tail g k) last.carry) in
      ⊎_elim
      (λ (far : FAR ≤ cell_at t u (tail g k)). absurd (omega (arith, last.sum)))
      (λ p. (is.each v (here v v_in)).1 (ne, inr (p.0, p.1, p.2, past-on (change_at links p.0).to.0 v k (are.each p.0 p.1).ends.0 v_in near last clear p.3)))
      why.1

  -- the last link to a node that isn't lost stands in the new graph, and its beginning isn't lost
  way-kept : (v k : ℕ) → v < node_count g → cell_at t u v < FAR → v ≢ u → is_in lost v ≡ false → IsLastLink g (row_at t.rows u) u v k → ((l : ℕ) × (l < link_count h) × (link_at h l ≡ link_at g k)) × (is_in lost (tail g k) ≡ false)
  way-kept v k v_in near ne stays last = (
    ⊎_elim
        (λ l. (l.0, l.1.1, same-link g h both.old both.new both.named both.named' both.same k l.0 l.1))
        (λ changed.
        let gone : is_in lost v ≡ true = subst (λ j. is_in lost j ≡ true) last.ends (lost-old k last.within changed (λ idle. ⊎_elim
        (λ (far : FAR ≤ cell_at t u (tail g k)). omega (arith, last.sum))
        (λ more.
        let less : cell_at t u v < cell_at t u (tail g k) + metric g k = subst (λ j. cell_at t u j < cell_at t u (tail g k) + metric g k) last.ends more.1 in
        omega (arith, last.sum))
        idle) (λ e. ne (sym last.ends ∙ e))) in
        absurd (cc))
        (same-or_changed g h k last.within),
    ⊎_elim
        (λ (gone : is_in lost (tail g k) ≡ true). let bad : is_in lost v ≡ true = lost-on v k v_in near ne last gone in absurd (cc))
        (λ clear. clear)
        (cases_Bool (is_in lost (tail g k))),
  )

  -- no link of the new graph leads to a lesser distance at a node that isn't lost
  stable-kept : (l : ℕ) → l < link_count h → carries h u (tail h l) ≡ true → cell_at t u (tail h l) < FAR → is_in lost (head h l) ≡ false → cell_at t u (head h l) ≤ cell_at t u (tail h l) + metric h l
  stable-kept l l_in carry near stays =
      let ends : IsLink h (link_at h l) = both.new.each l l_in in
      let carry' : carries g u (tail h l) ≡ true = carries-agree g h both.same.overloaded u (tail h l) (there (tail h l) ends.0) ∙ carry in
      ⊎_elim
      (λ k.
      let same : link_at g k.0 ≡ link_at h l = same-link h g both.new both.old both.named' both.named (versions-sym g h both).same l k.0 k.1 in
      subst (λ j. carries g u j.from.0 ≡ true → cell_at t u j.from.0 < FAR → cell_at t u j.to.0 ≤ cell_at t u j.from.0 + j.metric) same
      (λ c b. (row-near g [] u (row_at t.rows u) both.old row_of k.0 k.1.1 refl c b).1) carry' near)
      (λ changed. ⊎_elim
      (λ (less : cell_at t u (tail h l) + metric h l < cell_at t u (head h l)).
      let ne : head h l ≢ u = λ e. let zero : cell_at t u (head h l) ≡ 0 = subst (λ j. cell_at t u j ≡ 0) (sym e) (own_cell g t u trees at) in omega arith in
      let gone : is_in lost (head h l) ≡ true = lost-new l l_in (changed-sym h g (key_at h l) changed) (λ idle. ⊎_elim (λ (far : FAR ≤ cell_at t u (tail h l)). omega arith) (λ more. omega (arith, more.1)) idle) ne in
      absurd (cc))
      (λ le. le)
      (cases_lt (cell_at t u (tail h l) + metric h l) (cell_at t u (head h l))))
      (same-or_changed h g l l_in)

  module _ (cells : List ℕ) (nodes : List NodeNo) (clear : AreCellsWithout (row_at t.rows u) lost cells) (those : AreListedNodes lost nodes) where
    -- a node that isn't lost has the cell of the row
    cell-kept : (v : ℕ) → is_in lost v ≡ false → slice_index cells v ≡ cell_at t u v
    cell-kept v stays = clear.each v ∙ ap (λ b. if b then FAR else cell_at t u v) stays

    -- and a lost one has FAR
    cell-lost : (v : ℕ) → is_in lost v ≡ true → slice_index cells v ≡ FAR
    cell-lost v gone = clear.each v ∙ ap (λ b. if b then FAR else cell_at t u v) gone

    -- where there is a cell, the node isn't lost
    near-kept : (v : ℕ) → slice_index cells v < FAR → is_in lost v ≡ false
    near-kept v near = ⊎_elim (λ gone. absurd (omega (arith, cell-lost v gone))) (λ stays. stays) (cases_Bool (is_in lost v))

    -- a way leads along the cells to each node that has one
    way-to : (v : ℕ) → v < node_count g → slice_index cells v < FAR → HasWay h [] u cells v
    way-to v v_in near = ⊎_elim
        (λ (e : v ≡ u). inl e)
        (λ (ne : v ≢ u).
        let stays : is_in lost v ≡ false = near-kept v near in
        let cell : slice_index cells v ≡ cell_at t u v = cell-kept v stays in
        let near' : cell_at t u v < FAR = omega (arith, cell) in
        let k = last-link g (row_at t.rows u) u v both.old row_of v_in near' ne in
        let last : IsLastLink g (row_at t.rows u) u v k.0 = k.1 in
        let kept = way-kept v k.0 v_in near' ne stays last in
        let front : slice_index cells (tail g k.0) ≡ cell_at t u (tail g k.0) = cell-kept (tail g k.0) kept.1 in
        let carry : carries h u (tail g k.0) ≡ true = sym (carries-agree g h both.same.overloaded u (tail g k.0) (both.old.each k.0 last.within).0) ∙ last.carry in
        let same : link_at h kept.0.0 ≡ link_at g k.0 = kept.0.2 in
        let from : tail h kept.0.0 ≡ tail g k.0 = ap (λ j. j.from.0) same in
        let to : head h kept.0.0 ≡ head g k.0 = ap (λ j. j.to.0) same in
        let m : metric h kept.0.0 ≡ metric g k.0 = ap (λ j. j.metric) same in
        let begin : slice_index cells (tail h kept.0.0) ≡ slice_index cells (tail g k.0) = ap (λ j. slice_index cells j) from in
        inr (kept.0.0, kept.0.1, refl, rw from carry, omega (arith, begin, front, last.sum), to ∙ last.ends, omega (arith, begin, front, last.sum, cell, m)))
        (cases_eq v u)

    -- a node without a cell is lost
    far-lost : (v : ℕ) → v < node_count g → FAR ≤ slice_index cells v → is_in lost v ≡ true
    far-lost v v_in far = ⊎_elim
        (λ gone. gone)
        (λ (stays : is_in lost v ≡ false).
        let cell : slice_index cells v ≡ cell_at t u v = cell-kept v stays in
        let ne : v ≢ u = λ e. let zero : cell_at t u v ≡ 0 = subst (λ j. cell_at t u j ≡ 0) (sym e) (own_cell g t u trees at) in omega (arith, cell) in
        (is.each v (here v v_in)).1 (ne, inl (omega (arith, cell))))
        (cases_Bool (is_in lost v))

    -- so a search may begin with the cells
    begun-lost : IsBegun h [] u cells nodes
    begun-lost = record {
      graph = both.new;
      long = clear.long ∙ row_of.long ∙ sym (nodes-same g h both.same);
      within = here u at;
      source = cell-kept u kept-self ∙ own_cell g t u trees at;
      top = λ v. ⊎_elim
          (λ (inside : v < node_count g). ⊎_elim
          (λ gone. omega (arith, cell-lost v gone))
          (λ stays. let most : cell_at t u v ≤ FAR = (row_of.each v inside).top in omega (arith, cell-kept v stays))
          (cases_Bool (is_in lost v)))
          (λ (past : node_count g ≤ v). let none : slice_index cells v ≡ 0 = get_or_past cells v 0 (omega (arith, clear.long, row_of.long)) in omega arith)
          (cases_lt v (node_count g));
      ways = λ v v_in near. way-to v (there v v_in) near;
      listed = λ v v_in far. listed-contains (λ j. is_in lost j ≡ true) 256 nodes v those (omega (arith, both.new.few_nodes)) (far-lost v (there v v_in) far);
      nodes = λ k d lt.
          let inside : listed_at nodes k < node_count h = is.within (listed_at nodes k) (those.each k lt).1 in
          subst (λ (node : NodeNo). node.0 < node_count h) (get_or_default nodes k (record { 0 = 0 }) d lt) inside;
      stable = λ l l_in outside carry near ahead.
          let front : slice_index cells (tail h l) ≡ cell_at t u (tail h l) = cell-kept (tail h l) (near-kept (tail h l) near) in
          let end : slice_index cells (head h l) ≡ cell_at t u (head h l) = cell-kept (head h l) (near-kept (head h l) ahead) in
          let most : cell_at t u (head h l) ≤ cell_at t u (tail h l) + metric h l = stable-kept l l_in carry (omega (arith, front)) (near-kept (head h l) ahead) in
          omega (arith, front, end);
    }

-- a search in the new graph may begin with the old row of a node, once the lost nodes have no distance
pub lost-stands : (n m : Net) (c : Differences) (t : Forest) (u : ℕ) (lost : NodeBits) → AreChanges n m c → AreTrees n.graph t → c.same ≡ true → u < node_count n.graph → AreLostToChanges m.graph t.rows c.links u lost → StandsBut m.graph u (row_at t.rows u) lost
lost-stands n m c t u lost changes trees same at is =
    let nodes = changes.nodes.0 same in
    let both : AreVersions n.graph m.graph = record { old = changes.old.graph; new = changes.new.graph; named = changes.old.named; named' = changes.new.named; same = nodes } in
    let are : AreChangedLinks n.graph m.graph c.links = changes.links same in
    record {
      within = λ v gone. let inside : v < node_count m.graph = is.within v gone in omega (arith, nodes-same n.graph m.graph nodes, (trees.rows u at).long);
      begun = λ cells nodes clear those. begun-lost n.graph m.graph t c.links u lost both are trees at is cells nodes clear those;
    }

-- so it is with each node whose tree doesn't stay
pub rows-stand : (n m : Net) (c : Differences) (t : Forest) (r : Renewal) → AreChanges n m c → AreTrees n.graph t → c.same ≡ true → length r.stays.items ≡ node_count n.graph → AreLostSets m.graph t.rows c.links r.stays.items r.lost.items → AreRowsBut m.graph t.rows r
rows-stand n m c t r changes trees same marks sets =
    let nodes : node_count m.graph ≡ node_count n.graph = nodes-same n.graph m.graph (changes.nodes.0 same) in
    record {
      long = trees.long ∙ sym nodes;
      marks = marks ∙ sym nodes;
      sets = sets.long;
      each = λ u lost lt off at. lost-stands n m c t u lost changes trees same (omega (arith, nodes)) (sets.each u lost lt off at);
    }
