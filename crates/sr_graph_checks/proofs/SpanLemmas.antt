-- Drafts of spans meet the conditions of a draft.
use Rattle.std.proofs.Common.{◌≡◌, ℕ, ◌+◌, ◌-◌, ◌<◌, ◌≤◌, ⊎_elim, true, false, List, [], ◌∷◌, length, get_or}
use Rattle.std.proofs.Common.{arith, ap, sym, ◌∙◌}
use Rattle.std.specs.Prelude.{All, Contains, nat_eq, if◌then◌else◌}
use Rattle.std.specs.List.Sorted.{IsStrictlyIncreasing}
use Rattle.std.proofs.lemmas.List.{get_or_default}
use Rattle.std.proofs.lemmas.List.Elements.{All-contains}
use Rattle.sr_model.specs.declared.name.LinkKey.{LinkKey}
use Rattle.sr_model.specs.Key.{IsSamePair}
use Rattle.sr_graph.specs.declared.draft.DraftLink.{DraftLink}
use Rattle.sr_graph.specs.Draft.{IsDraft}
use Rattle.sr_graph_checks.specs.Spans.{span_groups, IsSpanned}

-- the list has the numbers from 1 to n
pub record AreNumbered (n : ℕ) (nodes : List ℕ) : Type 0 where
  pub long : length nodes ≡ n
  pub each : (k : ℕ) → k < n → get_or nodes k 0 ≡ k + 1

has-number : (n : ℕ) (nodes : List ℕ) → AreNumbered n nodes → (v : ℕ) → (0 < v) × (v ≤ n) → Contains nodes v
has-number n nodes r v (some, within) =
    let below : v - 1 < length nodes = omega (arith, r.long) in
    (v - 1, below, get_or_default nodes (v - 1) v 0 below ∙ omega (arith, r.each (v - 1) (omega arith)))

groups-increasing : (risky ends : ℕ) → IsStrictlyIncreasing (span_groups risky ends)
groups-increasing risky ends =
    elim (nat_eq ends risky) as (λ is. IsStrictlyIncreasing (if is then 7 ∷ [] else [])) [
      | true ↦ λ k lt. absurd (omega arith)
      | false ↦ λ k lt. absurd (omega arith)
    ]

-- the ends of a link and its opposite add up to the same
same-ends : (a b : LinkKey) → IsSamePair a b → a.from + a.to ≡ b.from + b.to
same-ends a b pair =
    ⊎_elim
    (λ e. ap (λ (key : LinkKey). key.from + key.to) e)
    (λ e. ap (λ (key : LinkKey). key.from + key.to) e ∙ omega arith)
    pair

-- the link has the groups of its ends
abbrev HasGroups : ℕ → DraftLink → Type 0
HasGroups risky link = link.groups ≡ span_groups risky (link.key.from + link.key.to)

all-have_groups : (n risky : ℕ) (links : List DraftLink) → All (IsSpanned n risky) links → All (HasGroups risky) links
all-have_groups n risky links spanned k d within = (spanned k d within).groups

pub spanned_draft : (n risky : ℕ) (nodes : List ℕ) (links : List DraftLink) → AreNumbered n nodes
    → All (IsSpanned n risky) links → IsDraft (record { nodes = nodes; links = links })
spanned_draft n risky nodes links r spanned =
    let grouped : All (HasGroups risky) links = all-have_groups n risky links spanned in
    record {
      nodes = λ k within.
          let next : k + 1 < n = omega (arith, r.long) in
          omega (arith, r.each k (omega arith), r.each (k + 1) next);
      ends = λ k d within.
          let link : IsSpanned n risky (get_or links k d) = spanned k d within in
          (has-number n nodes r _ link.from, has-number n nodes r _ link.to, link.apart);
      metrics = λ k d within. (spanned k d within).metric;
      groups = λ k d within. rw (grouped k d within) (groups-increasing risky _);
      pairs = λ a b in_a in_b pair.
          All-contains (HasGroups risky) links a grouped in_a
          ∙ ap (span_groups risky) (same-ends a.key b.key pair)
          ∙ sym (All-contains (HasGroups risky) links b grouped in_b);
    }
