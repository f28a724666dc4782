-- Links in order of key: those of metric 0, and those that stand twice, as a graph's draft has them.
use Rattle.std.proofs.Common.{◌≡◌, ◌≢◌, ℕ, ◌+◌, ◌-◌, ◌<◌, ◌≤◌, cond, List, [], map, length, get_or, refl, arith, ap, sym, ◌∙◌, subst, Some, None}
use Rattle.std.proofs.Math.ListN.{get_or-map}
use Rattle.std.specs.List.Sorted.{IsPermutation, IsSortedByKey}
use Rattle.std.specs.declared.cmp.Ordering.TheVariants.{Less}
use Rattle.std.proofs.lemmas.List.{length-map, get_or_default}
use Rattle.std.proofs.lemmas.List.Sorted.{IsPermutation-refl, IsPermutation-sym, Contains-permutation, sum_by-IsPermutation, length_permutation}
use Rattle.sr_model.specs.declared.name.LinkKey.{LinkKey}
use Rattle.sr_model.specs.declared.rule.DomainRule.TheVariants.{ZeroMetric, DuplicateLink, TooManyNodes, TooManyLinks}
use Rattle.sr_model.specs.KeyOrder.{key_cmp, same_key}
use Rattle.sr_graph.specs.declared.draft.DraftLink.{DraftLink}
use Rattle.sr_graph.specs.Draft.{IsLeastKey, HasZero, IsTwice}
use Rattle.sr_graph.proofs.LinksLemmas.{AscendBelow, ascend-none, ascend-read, duplicate-read, none_twice, zero-read}
use Rattle.sr_lsdb.specs.declared.facts.Facts.{Facts}
use Rattle.sr_domain.specs.declared.links.FoundLink.{FoundLink}
use Rattle.sr_domain.specs.GroupTables.{draft_link}
use Rattle.sr_domain.specs.Links.{link_key, links_of}
use Rattle.sr_domain.specs.Nodes.{nodes_of}
use Rattle.sr_domain.specs.Rules.{HasZeroMetric, IsKeyRepeated, NoKey}
use Rattle.sr_domain.proofs.GraphLemmas.{sorted-map}
use Rattle.sr_domain.proofs.TopologyLemmas.{zero-to, zero-from, twice-to, twice-from}
use Rattle.sr_rules.specs.Broken.{IsFinding}
use Rattle.sr_rules.proofs.BrokenLemmas.{verdict-none}

-- the link as a draft has it, without groups
abbrev drafted : FoundLink → DraftLink
drafted = draft_link (λ pair. [])

-- the links as a draft has them
abbrev drafts : List FoundLink → List DraftLink
drafts links = map drafted links

-- a fact on keys is the same as another
least-same : (P Q : LinkKey → Type 0) (key : LinkKey) → ((k : LinkKey) → P k → Q k) → ((k : LinkKey) → Q k → P k) → IsLeastKey P key → IsLeastKey Q key
least-same P Q key forth back h = record { holds = forth key h.holds; least = λ other q. h.least other (back other q) }

-- ---- links of metric 0
pub zero-here : (links : List FoundLink) (i : ℕ) (link : FoundLink) → IsSortedByKey link_key key_cmp links → i < length links → link ≡ get_or links i link → ((k : ℕ) (d : FoundLink) → k < i → (get_or links k d).metric ≢ 0) → link.metric ≡ 0 → IsLeastKey (HasZeroMetric links) link.key
zero-here links i link sorted within is none zero =
    let same : IsPermutation links links = IsPermutation-refl links in
    let at : (k : ℕ) → get_or (drafts links) k (drafted link) ≡ drafted (get_or links k link) = λ k. get_or-map drafted links k link in
    let long : length (drafts links) ≡ length links = length-map links drafted in
    least-same (HasZero (drafts links)) (HasZeroMetric links) link.key (zero-to (λ pair. []) links links (drafts links) same refl) (zero-from (λ pair. []) links links (drafts links) same refl)
    (zero-read (drafts links) i (drafted link) (sorted-map (λ pair. []) links sorted) (omega arith) (ap drafted is ∙ sym (at i))
    (λ k d lt e. none k link lt (ap (λ (l : DraftLink). l.metric) (sym (at k) ∙ get_or_default (drafts links) k (drafted link) d (omega arith)) ∙ e))
    zero)

pub none-zero : (links : List FoundLink) (n : ℕ) → length links ≤ n → ((k : ℕ) (d : FoundLink) → k < n → (get_or links k d).metric ≢ 0) → NoKey (HasZeroMetric links)
none-zero links n le none key zero =
    none zero.1.0 zero.0 (let lt : zero.1.0 < length links = zero.1.1 in omega arith) (ap (λ (l : FoundLink). l.metric) zero.1.2 ∙ zero.3)

-- ---- links of one key
-- each key below n is below the next
pub record KeysAscendBelow (links : List FoundLink) (n : ℕ) : Type 0 where
  pub drafted_so : AscendBelow (drafts links) n

pub keys-start : (links : List FoundLink) → KeysAscendBelow links 1
keys-start links = record { drafted_so = ascend-none (drafts links) }

module _ (links : List FoundLink) (i : ℕ) (a b : FoundLink) (within : i < length links) (more : 0 < i) where
  inside : i < length (drafts links)
  inside = omega (arith, length-map links drafted)

  cmp-drafted : key_cmp (get_or (drafts links) (i - 1) (drafted a)).key (get_or (drafts links) i (drafted b)).key ≡ key_cmp (get_or links (i - 1) a).key (get_or links i b).key
  cmp-drafted =
      ap (λ (l : DraftLink). key_cmp l.key (get_or (drafts links) i (drafted b)).key) (get_or-map drafted links (i - 1) a)
      ∙ ap (λ (l : DraftLink). key_cmp (get_or links (i - 1) a).key l.key) (get_or-map drafted links i b)

  pub keys-more : KeysAscendBelow links i → key_cmp (get_or links (i - 1) a).key (get_or links i b).key ≡ Less → KeysAscendBelow links (i + 1)
  keys-more up less = record { drafted_so = ascend-read (drafts links) i (drafted a) (drafted b) inside more up.drafted_so (cmp-drafted ∙ less) }

  pub repeated-here : (d : FoundLink) → IsSortedByKey link_key key_cmp links → KeysAscendBelow links i → (key_cmp (get_or links (i - 1) a).key (get_or links i b).key ≢ Less) → IsLeastKey (IsKeyRepeated links) (get_or links i d).key
  repeated-here d sorted up differ =
      let same : IsPermutation links links = IsPermutation-refl links in
      subst (λ (l : DraftLink). IsLeastKey (IsKeyRepeated links) l.key) (get_or-map drafted links i d)
      (least-same (IsTwice (drafts links)) (IsKeyRepeated links) (get_or (drafts links) i (drafted d)).key (twice-to (λ pair. []) links links (drafts links) same refl) (twice-from (λ pair. []) links links (drafts links) same refl)
      (duplicate-read (drafts links) i (drafted a) (drafted b) inside more (drafted d) (sorted-map (λ pair. []) links sorted) up.drafted_so (λ less. differ (sym cmp-drafted ∙ less))))

pub none-repeated : (links : List FoundLink) (n : ℕ) → length links ≤ n → KeysAscendBelow links n → NoKey (IsKeyRepeated links)
none-repeated links n le up key twice =
    none_twice (drafts links) n (omega (arith, length-map links drafted)) up.drafted_so key
    (twice-from (λ pair. []) links links (drafts links) (IsPermutation-refl links) refl key twice)

-- ---- the same links in another order
zero-moved : (xs ys : List FoundLink) → IsPermutation xs ys → (key : LinkKey) → HasZeroMetric xs key → HasZeroMetric ys key
zero-moved xs ys moved key z = (z.0, Contains-permutation xs ys z.0 moved z.1, z.2, z.3)

repeated-moved : (xs ys : List FoundLink) → IsPermutation xs ys → (key : LinkKey) → IsKeyRepeated xs key → IsKeyRepeated ys key
repeated-moved xs ys moved key t = subst (λ n. 2 ≤ n) (sym (sum_by-IsPermutation (λ (l : FoundLink). cond (same_key key l.key) 1 0) xs ys moved)) t

module _ (facts : Facts) (links : List FoundLink) (moved : IsPermutation (links_of facts) links) where
  back : IsPermutation links (links_of facts)
  back = IsPermutation-sym (links_of facts) links moved

  pub zero-none : NoKey (HasZeroMetric links) → IsFinding facts 5 None
  zero-none none = verdict-none facts 5 (ZeroMetric 0 0) refl (λ key z. none key (zero-moved (links_of facts) links moved key z))

  pub zero-some : (key : LinkKey) → IsLeastKey (HasZeroMetric links) key → IsFinding facts 5 (Some (ZeroMetric key.from key.to))
  zero-some key least = (
    record {
      key = key;
      begins = refl;
      ends = refl;
      is = least-same (HasZeroMetric links) (HasZeroMetric (links_of facts)) key (zero-moved links (links_of facts) back) (zero-moved (links_of facts) links moved) least;
    },
    refl,
  )

  pub repeated-none : NoKey (IsKeyRepeated links) → IsFinding facts 6 None
  repeated-none none = verdict-none facts 6 (DuplicateLink 0 0) refl (λ key t. none key (repeated-moved (links_of facts) links moved key t))

  pub repeated-some : (key : LinkKey) → IsLeastKey (IsKeyRepeated links) key → IsFinding facts 6 (Some (DuplicateLink key.from key.to))
  repeated-some key least = (
    record {
      key = key;
      begins = refl;
      ends = refl;
      is = least-same (IsKeyRepeated links) (IsKeyRepeated (links_of facts)) key (repeated-moved links (links_of facts) back) (repeated-moved (links_of facts) links moved) least;
    },
    refl,
  )

  -- ---- how many there are
  as-many : length links ≡ length (links_of facts)
  as-many = length_permutation (links_of facts) links moved

  pub few-links : length links ≤ 2048 → IsFinding facts 8 None
  few-links few = verdict-none facts 8 (TooManyLinks 0) refl (omega (arith, as-many))

  pub many-links : (count : ℕ) → 2048 < length links → count ≡ length links → IsFinding facts 8 (Some (TooManyLinks count))
  many-links count many is = ((omega arith, is ∙ as-many), refl)

pub few-nodes : (facts : Facts) (nodes : List ℕ) → nodes ≡ nodes_of facts → length nodes ≤ 256 → IsFinding facts 7 None
few-nodes facts nodes are few = verdict-none facts 7 (TooManyNodes 0) refl (subst (λ (l : List ℕ). length l ≤ 256) are few)

pub many-nodes : (facts : Facts) (nodes : List ℕ) (count : ℕ) → nodes ≡ nodes_of facts → 256 < length nodes → count ≡ length nodes → IsFinding facts 7 (Some (TooManyNodes count))
many-nodes facts nodes count are many is = ((omega arith, is ∙ ap length are), refl)
