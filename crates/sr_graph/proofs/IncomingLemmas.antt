-- The links that end at each node, listed one by one.
use Rattle.std.proofs.Common.{◌≡◌, ◌≢◌, ℕ, ◌+◌, ◌<◌, ⊎_elim, List, [], ◌∷◌, ◌++◌, map, length, get_or, set, replicate, refl, arith, sym, ap, ◌∙◌, subst}
use Rattle.std.proofs.lemmas.Bool.{cases_eq}
use Rattle.std.proofs.lemmas.List.Quantifiers.{all_pairs_push}
use Rattle.std.proofs.lemmas.List.{length-append, length-replicate, length-set, length-map, get_or-map, get_or_push, get_or_append_left, get_or_default, get_or-set_same, get_or-set_other, get_or-replicate}
use Rattle.sr_model.specs.declared.link.LinkNo.{LinkNo}
use Rattle.sr_model.specs.Graph.{Graph, node_count, no_link}
use Rattle.sr_graph.specs.declared.edges.Edge.{Edge}
use Rattle.sr_graph.specs.Edges.{edge_of}
use Rattle.sr_graph.specs.Members.{number_at}
use Rattle.sr_graph.specs.Ranges.{end_in, AreEndingAt, AreListedByEnd, EndAt, AreIncoming}

module _ (edges : List Edge) where
  ending-none : (v : ℕ) → AreEndingAt edges 0 v []
  ending-none v = record { each = λ i lt. absurd (omega arith); all = λ l lt is. absurd (omega arith); ascending = λ i j d lt within. absurd (omega arith) }

  -- one edge more, which ends elsewhere
  ending-skip : (n v : ℕ) (links : List LinkNo) → AreEndingAt edges n v links → end_in edges n ≢ v → AreEndingAt edges (n + 1) v links
  ending-skip n v links k away = record {
    each = λ i lt. (let before : number_at links i < n = (k.each i lt).0 in omega arith, (k.each i lt).1);
    all = λ l lt is. ⊎_elim
        (λ (e : l ≡ n). absurd (away (ap (end_in edges) (sym e) ∙ is)))
        (λ (ne : l ≢ n). k.all l (omega arith) is)
        (cases_eq l n);
    ascending = k.ascending;
  }

  -- one edge more, which ends here
  ending-push : (v : ℕ) (link : LinkNo) (links : List LinkNo) → AreEndingAt edges link.0 v links → end_in edges link.0 ≡ v → AreEndingAt edges (link.0 + 1) v (links ++ link ∷ [])
  ending-push v link links k here = record {
    each = λ i lt. ⊎_elim
        (λ (e : i ≡ length links).
        let at : number_at (links ++ link ∷ []) i ≡ link.0 = ap (λ (m : LinkNo). m.0) (get_or_push links link _ i (sym e)) in
        (omega arith, ap (end_in edges) at ∙ here))
        (λ (ne : i ≢ length links).
        let before : i < length links = omega (arith, length-append links (link ∷ [])) in
        let at : number_at (links ++ link ∷ []) i ≡ number_at links i = ap (λ (m : LinkNo). m.0) (get_or_append_left links (link ∷ []) _ i before) in
        let low : number_at links i < link.0 = (k.each i before).0 in
        (omega arith, ap (end_in edges) at ∙ (k.each i before).1))
        (cases_eq i (length links));
    all = λ l lt is. ⊎_elim
        (λ (e : l ≡ link.0). (length links, omega (arith, length-append links (link ∷ [])), ap (λ (m : LinkNo). m.0) (get_or_push links link _ (length links) refl) ∙ sym e))
        (λ (ne : l ≢ link.0).
        let found : (i : ℕ) × (i < length links) × (number_at links i ≡ l) = k.all l (omega arith) is in
        (found.0, omega (arith, found.1, length-append links (link ∷ [])), ap (λ (m : LinkNo). m.0) (get_or_append_left links (link ∷ []) _ found.0 found.1) ∙ found.2))
        (cases_eq l link.0);
    ascending = all_pairs_push (λ (a b : LinkNo). a.0 < b.0) links link k.ascending (λ i d lt.
        let P : LinkNo → Type 0 = λ m. m.0 < link.0 in
        subst P (get_or_default links i (record { 0 = 0 }) d lt) (k.each i lt).0);
  }

  pub listed-none : (nodes : ℕ) → AreListedByEnd edges 0 nodes (replicate nodes [])
  listed-none nodes = record {
    long = length-replicate nodes [];
    each = λ v lt. subst (AreEndingAt edges 0 v) (sym (get_or-replicate nodes v [] [] lt)) (ending-none v);
  }

  -- one link more, at its end; the list there was read before
  pub listed-more : (nodes v : ℕ) (link : LinkNo) (lists : List (List LinkNo)) (before after : List LinkNo) → AreListedByEnd edges link.0 nodes lists → end_in edges link.0 ≡ v → v < nodes
      → before ≡ get_or lists v before → after ≡ before ++ link ∷ [] → AreListedByEnd edges (link.0 + 1) nodes (set lists v after)
  listed-more nodes v link lists before after k here within was is =
      let inside : v < length lists = omega (arith, k.long) in
      let ending : AreEndingAt edges link.0 v before = subst (AreEndingAt edges link.0 v) (get_or_default lists v [] before inside ∙ sym was) (k.each v within) in
      record {
        long = length-set lists v after ∙ k.long;
        each = λ u lt. ⊎_elim
            (λ (e : u ≡ v).
            let P : ℕ → Type 0 = λ w. AreEndingAt edges (link.0 + 1) w (get_or (set lists v after) w []) in
            subst P (sym e) (subst (AreEndingAt edges (link.0 + 1) v) (sym (get_or-set_same lists v after [] inside ∙ is)) (ending-push v link before ending here)))
            (λ (ne : u ≢ v). subst (AreEndingAt edges (link.0 + 1) u) (sym (get_or-set_other lists v u after [] ne)) (ending-skip link.0 u (get_or lists u []) (k.each u lt) (λ at. ne (sym at ∙ here))))
            (cases_eq u v);
      }

-- the edges of the graph's links end where these end
pub ends_of : (g : Graph) (l : ℕ) → l < length g.links → end_in (map edge_of g.links) l ≡ (get_or g.links l no_link).to.0
ends_of g l within = ap (λ (edge : Edge). edge.to.0) (get_or-map edge_of g.links l no_link _ within)

pub incoming-from_listed : (g : Graph) (lists : List (List LinkNo)) → AreListedByEnd (map edge_of g.links) (length (map edge_of g.links)) (node_count g) lists → AreIncoming g lists
incoming-from_listed g lists k = record {
  long = k.long;
  each = λ v lt. let at = k.each v lt in record {
    each = λ i inside.
        let low : number_at (get_or lists v []) i < length g.links = omega (arith, (at.each i inside).0, length-map g.links edge_of) in
        (low, sym (ends_of g _ low) ∙ (at.each i inside).1);
    all = λ l within is. at.all l (omega (arith, length-map g.links edge_of)) (ends_of g l within ∙ is);
    ascending = at.ascending;
  };
}

-- the list at a node's place, where the graph is seen as h
pub ending-at : (g h : Graph) (lists : List (List LinkNo)) (v : ℕ) (links : List LinkNo) → g ≡ h → AreIncoming g lists → v < node_count h → links ≡ get_or lists v links → EndAt h v links
ending-at g h lists v links seen k within is =
    let P : Graph → Type 0 = λ graph. AreIncoming graph lists in
    let k' : AreIncoming h lists = subst P seen k in
    subst (EndAt h v) (get_or_default lists v [] links (omega (arith, k'.long)) ∙ sym is) (k'.each v within)
