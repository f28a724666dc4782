-- The fixtures' drafts and nets meet the conditions of a draft and of a net.
use Rattle.std.proofs.Common.{◌≡◌, ℕ, zero, suc, ◌<◌, ◌⊎◌, inl, inr, Bool, true, List, [], ◌∷◌, length, Some, None}
use Rattle.std.proofs.Common.{add-one, refl, arith, ap, sym, ◌∙◌, subst}
use Rattle.std.specs.Prelude.{map, nat_lt, nat_eq, ◌&&◌, not, All, Option, replicate, slice_get, slice_index_or}
use Rattle.std.specs.List.{list_all, list_any}
use Rattle.std.specs.List.Sorted.{IsStrictlyIncreasing}
use Rattle.std.proofs.lemmas.Bool.{and_parts, ltb-true, eqb-true, eqb-false, not-true}
use Rattle.std.proofs.lemmas.List.{length-replicate}
use Rattle.std.proofs.lemmas.List.Elements.{All-nil, All-cons, All-contains, All-map}
use Rattle.std.proofs.lemmas.Map.Views.{Contains-from_any}
use Rattle.std.proofs.lemmas.Option.{slice_get-get_or, slice_get_within, get_or_from_slice_get}
use Rattle.sr_model.specs.declared.name.LinkKey.{LinkKey}
use Rattle.sr_model.specs.Key.{KeyLt}
use Rattle.sr_model.specs.Graph.{Graph, node_count, link_count, no_link, IsGraph, IsNamed, IsGrouped}
use Rattle.sr_model.specs.Case.{key_at}
use Rattle.sr_model.specs.Label.{Labels}
use Rattle.sr_model.specs.Rule.{IsFirstBroken, AreAnnounced, IsAccepted}
use Rattle.sr_graph.specs.declared.draft.DraftLink.{DraftLink}
use Rattle.sr_graph.specs.Draft.{IsDraft, HasEnds}
use Rattle.sr_labels.specs.Rules.{HaveSrgbs}
use Rattle.sr_line_checks.specs.Drafts.{drafted_in}
use Rattle.sr_labels.proofs.NetLemmas.{none-listed}

-- each is below the next
abbrev pub rises : List ℕ → Bool
rises [] = true
rises (x ∷ []) = true
rises (x ∷ y ∷ xs) = nat_lt x y && rises (y ∷ xs)

rises-increasing : (xs : List ℕ) → rises xs ≡ true → IsStrictlyIncreasing xs
rises-increasing [] e k lt = absurd (omega arith)
rises-increasing (x ∷ []) e k lt = absurd (omega arith)
rises-increasing (x ∷ y ∷ xs) e zero lt = ltb-true x y (and_parts (nat_lt x y) (rises (y ∷ xs)) e).0
rises-increasing (x ∷ y ∷ xs) e (suc k) lt =
    let more = and_parts (nat_lt x y) (rises (y ∷ xs)) e in
    rw (add-one (suc k)) (rw (add-one k) at (rises-increasing (y ∷ xs) more.1 k (omega arith)))

-- the number is among the nodes
abbrev pub stands : List ℕ → ℕ → Bool
stands nodes x = list_any (nat_eq x) nodes

-- a link of this name joins two of the nodes
abbrev pub joins : List ℕ → LinkKey → Bool
joins nodes key = stands nodes key.from && (stands nodes key.to && not (nat_eq key.from key.to))

joins-ends : (nodes groups : List ℕ) (key : LinkKey) → joins nodes key ≡ true → HasEnds nodes (drafted_in groups key)
joins-ends nodes groups key e =
    let a = and_parts (stands nodes key.from) (stands nodes key.to && not (nat_eq key.from key.to)) e in
    let b = and_parts (stands nodes key.to) (not (nat_eq key.from key.to)) a.1 in (
      Contains-from_any {eq = nat_eq} eqb-true key.from nodes a.0,
      Contains-from_any {eq = nat_eq} eqb-true key.to nodes b.0,
      eqb-false key.from key.to (not-true _ b.1),
    )

-- a link of this name has its ends among the nodes
abbrev HasNamedEnds : List ℕ → List ℕ → LinkKey → Type 0
HasNamedEnds nodes groups key = HasEnds nodes (drafted_in groups key)

all-ends : (nodes groups : List ℕ) (keys : List LinkKey) → list_all (joins nodes) keys ≡ true
    → All (HasNamedEnds nodes groups) keys
all-ends nodes groups [] e = All-nil (HasNamedEnds nodes groups)
all-ends nodes groups (key ∷ keys) e =
    let a = and_parts (joins nodes key) (list_all (joins nodes) keys) e in
    All-cons (HasNamedEnds nodes groups) key keys (joins-ends nodes groups key a.0) (all-ends nodes groups keys a.1)

-- links of one metric, all in the same groups, make a draft
pub drafted-draft : (nodes groups : List ℕ) (keys : List LinkKey) → rises nodes ≡ true → rises groups ≡ true
    → list_all (joins nodes) keys ≡ true → IsDraft (record { nodes = nodes; links = map (drafted_in groups) keys })
drafted-draft nodes groups keys up sorted ends =
    let links : List DraftLink = map (drafted_in groups) keys in
    let InThese : DraftLink → Type 0 = λ link. link.groups ≡ groups in
    let same : All InThese links = All-map InThese (drafted_in groups) keys (λ k d within. refl) in
    record {
      nodes = rises-increasing nodes up;
      ends = All-map (HasEnds nodes) (drafted_in groups) keys (all-ends nodes groups keys ends);
      metrics = All-map (λ (link : DraftLink). link.metric < 16777215) (drafted_in groups) keys
          (λ k d within. omega arith);
      groups = All-map (λ (link : DraftLink). IsStrictlyIncreasing link.groups) (drafted_in groups) keys
          (λ k d within. rises-increasing groups sorted);
      pairs = λ a b in_a in_b pair.
          All-contains InThese links a same in_a ∙ sym (All-contains InThese links b same in_b);
    }

-- the list has the names of the first n links
abbrev pub AreNames : Graph → ℕ → List LinkKey → Type 0
AreNames g n keys = (length keys ≡ n) × ((k : ℕ) → k < n → slice_index_or keys k no_link.key ≡ key_at g k)

-- the names of all links are announced as a net wants them
pub names-announced : (g : Graph) (keys : List LinkKey) → IsNamed g → AreNames g (link_count g) keys
    → AreAnnounced g keys
names-announced g keys named r =
    let long : length keys ≡ link_count g = r.0 in
    let at : (i : ℕ) (a : LinkKey) → slice_get keys i ≡ Some a → key_at g i ≡ a = λ i a p.
    let lt : i < length keys = slice_get_within keys i a p in
    sym (r.1 i (omega (arith, long))) ∙ get_or_from_slice_get keys i a no_link.key p in
    record {
      ascending = λ i j a b lt p q.
          let within : j < length keys = slice_get_within keys j b q in
          let below : KeyLt (key_at g i) (key_at g j) = named.keys i j lt (omega (arith, long)) in
          subst (λ x. KeyLt x b) (at i a p) (subst (λ y. KeyLt (key_at g i) y) (at j b q) below);
      holds = λ l lt. (l, slice_get-get_or keys l no_link.key (omega (arith, long)) ∙ ap Some (r.1 l lt));
    }

pub none-or_some : (y : Option ℕ) → (y ≡ None) ⊎ ((v : ℕ) × (y ≡ Some v))
none-or_some None = inl refl
none-or_some (Some v) = inr (v, refl)

-- a net with no adjacency label is accepted, where its nodes' labels don't clash
pub plain-accepted : (g : Graph) (nodes : List Labels) (keys : List LinkKey) → IsGraph g → IsNamed g → IsGrouped g
    → length nodes ≡ node_count g → HaveSrgbs nodes → IsFirstBroken nodes [] None → AreAnnounced g keys
    → IsAccepted (record {
      graph = g;
      labels = nodes;
      adj = replicate (link_count g) None;
      announced = keys;
      depth = 3;
    })
plain-accepted g nodes keys graph named grouped long ranges rules announced = record {
  graph = graph;
  named = named;
  grouped = grouped;
  nodes = long;
  links = length-replicate (link_count g) None;
  ranges = ranges;
  rules = rw (none-listed g.links (link_count g)) rules;
  announced = announced;
  depth = omega arith;
}
