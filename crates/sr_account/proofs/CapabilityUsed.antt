-- A router capability gives its node label ranges or an MSD exactly where no reason holds of it and of its
-- LSP: what counts of each is the first that the node's own LSPs say.
use Rattle.std.proofs.Common.{◌≡◌, ℕ, zero, suc, ◌<◌, ◌⊎◌, inl, inr, ⊎_elim, Bool, true, false, cond, List, [], ◌∷◌, ◌++◌, refl, arith, ap, sym, ◌∙◌, Option, Some, None}
use Rattle.std.specs.Prelude.{◌≢◌, Contains, ◌==◌, is_some, slice_get}
use Rattle.std.specs.List.{filter_map, flat_map}
use Rattle.std.specs.List.Sorted.{IsStrictlySortedBy}
use Rattle.std.specs.Map.{keys_of}
use Rattle.std.specs.Option.{option_map, option_or, unwrap_or}
use Rattle.std.specs.declared.cmp.Ordering.TheVariants.{Less}
use Rattle.std.proofs.lemmas.Bool.{and_from, cases_eq, eq-eqb, false≢true}
use Rattle.std.proofs.lemmas.List.Elements.{filter_map-append}
use Rattle.std.proofs.lemmas.Map.Keys.{sorted_head, sorted_tail}
use Rattle.std.proofs.lemmas.Option.{none-some, same_Some}
use Rattle.sr_model.specs.declared.label.Range.{Range}
use Rattle.sr_model.specs.Label.{Labels, Net, labels_at}
use Rattle.sr_subtlv.specs.declared.sr_cap.SrCap.{SrCap}
use Rattle.sr_lsp.specs.declared.lsp.LspId.{LspId}
use Rattle.sr_lsp.specs.declared.capability.Capability.{Capability}
use Rattle.sr_lsp.specs.declared.table.Part.{Part}
use Rattle.sr_lsp.specs.declared.table.Part.TheVariants as part
use Rattle.sr_lsdb.specs.declared.facts.Stored.{Stored}
use Rattle.sr_lsdb.specs.declared.facts.Facts.{Facts}
use Rattle.sr_lsdb.specs.Order.{id_cmp}
use Rattle.sr_domain.proofs.DepthLemmas.{first-append as first-of_two}
use Rattle.sr_domain.specs.Announced.{parts_of}
use Rattle.sr_domain.specs.Nodes.{first_ranges, imposition_by, imposition_of, is_own, labels_of, msds_in, own_parts, ranges_from, ranges_in, srgb_of}
use Rattle.sr_domain.specs.Net.{IsNetOf}
use Rattle.sr_domain.proofs.MemberLemmas.{all-of, cases, here, later, mapped-to, nowhere}
use Rattle.sr_account.specs.declared.aside.Reason.{Reason}
use Rattle.sr_account.specs.declared.aside.Reason.TheVariants.{Silent, NotFirst}
use Rattle.sr_account.specs.Items.{IsPartAt, PartPlace, PlaceBefore, part_place}
use Rattle.sr_account.specs.Laws.{IsInOrder}
use Rattle.sr_account.specs.Reasons.{CapabilityFails, IsSaidBefore, LspFails, SaysImposition, SaysRanges}
use Rattle.sr_account.specs.Used.{GivesCapability, IsNodeOfLsp}
use Rattle.sr_account.proofs.SearchLaw.{Decided, decided-both, decided-like, decided-test}
use Rattle.sr_account.proofs.PlaceLaw.{decided-before, entry-from, entry-to, search-parts}
use Rattle.sr_account.proofs.LinkLaw.{labels-node}
use Rattle.sr_account.proofs.ReachUsed.{node-used}
use Rattle.sr_account.proofs.ItemLemmas.{own-is}

-- ---- the first of parts that says something

abbrev first_by : {A : Type 0} → (Part → Option A) → List Part → Option A
first_by f [] = None
first_by f (x ∷ xs) = option_or (f x) (first_by f xs)

-- the first of the node's own LSPs among these
abbrev first_from : {A : Type 0} → (Part → Option A) → ℕ → List (LspId × Stored) → Option A
first_from f node [] = None
first_from f node (entry ∷ entries) = option_or (first_by f (own_parts node entry)) (first_from f node entries)

or-assoc : {A : Type 0} (a b c : Option A) → option_or a (option_or b c) ≡ option_or (option_or a b) c
or-assoc None b c = refl
or-assoc (Some x) b c = refl

first-append : {A : Type 0} (f : Part → Option A) (xs ys : List Part) → first_by f (xs ++ ys) ≡ option_or (first_by f xs) (first_by f ys)
first-append f [] ys = refl
first-append f (x ∷ xs) ys = ap (option_or (f x)) (first-append f xs ys) ∙ or-assoc (f x) (first_by f xs) (first_by f ys)

first-flat : {A : Type 0} (f : Part → Option A) (node : ℕ) (es : List (LspId × Stored)) → first_by f (flat_map (own_parts node) es) ≡ first_from f node es
first-flat f node [] = refl
first-flat f node (e ∷ es) = first-append f (own_parts node e) (flat_map (own_parts node) es) ∙ ap (option_or (first_by f (own_parts node e))) (first-flat f node es)

ranges-parts : (parts : List Part) → first_ranges parts ≡ first_by ranges_in parts
ranges-parts [] = refl
ranges-parts (x ∷ parts) = ap (option_or (ranges_in x)) (ranges-parts parts)

ranges-as : (node : ℕ) (es : List (LspId × Stored)) → ranges_from node es ≡ first_from ranges_in node es
ranges-as node [] = refl
ranges-as node (e ∷ es) = ap (λ (o : Option (List Range)). option_or o (ranges_from node es)) (ranges-parts (own_parts node e)) ∙ ap (option_or (first_by ranges_in (own_parts node e))) (ranges-as node es)

-- the first MSD of a part
abbrev depth_in : Part → Option ℕ
depth_in said = slice_get (filter_map imposition_by (msds_in said)) 0

depth-parts : (parts : List Part) → slice_get (filter_map imposition_by (flat_map msds_in parts)) 0 ≡ first_by depth_in parts
depth-parts [] = refl
depth-parts (x ∷ parts) =
    ap (λ (xs : List ℕ). slice_get xs 0) (filter_map-append imposition_by (msds_in x) (flat_map msds_in parts))
    ∙ first-of_two (filter_map imposition_by (msds_in x)) (filter_map imposition_by (flat_map msds_in parts))
    ∙ ap (option_or (depth_in x)) (depth-parts parts)

depth-as : (facts : Facts) (node : ℕ) → imposition_of facts node ≡ first_from depth_in node facts.database
depth-as facts node = depth-parts (flat_map (own_parts node) facts.database) ∙ first-flat depth_in node facts.database

none-within : {A : Type 0} (f : Part → Option A) (xs : List Part) → ((j : ℕ) (z : Part) → slice_get xs j ≡ Some z → f z ≡ None) → first_by f xs ≡ None
none-within f [] none = refl
none-within f (x ∷ xs) none = ap (λ o. option_or o (first_by f xs)) (none 0 x refl) ∙ none-within f xs (λ j z at. none (suc j) z at)

first-within : {A : Type 0} (f : Part → Option A) (xs : List Part) (k : ℕ) (x : Part) (y : A) → slice_get xs k ≡ Some x → f x ≡ Some y → ((j : ℕ) (z : Part) → j < k → slice_get xs j ≡ Some z → f z ≡ None) → first_by f xs ≡ Some y
first-within f [] k x y at says before = absurd (none-some x at)
first-within f (w ∷ xs) zero x y at says before = ap (λ o. option_or o (first_by f xs)) (ap f (same_Some w x at) ∙ says)
first-within f (w ∷ xs) (suc k) x y at says before =
    ap (λ o. option_or o (first_by f xs)) (before 0 w (omega arith) refl)
    ∙ first-within f xs k x y at says (λ j z lt there. before (suc j) z (omega arith) there)

-- the place of part j of the LSP of an entry
abbrev place_in : LspId × Stored → ℕ → PartPlace
place_in entry j = record { id = entry.0; part = j }

-- no part of the node's own LSPs among these that stands before the place says something
abbrev NoneBefore : {A : Type 0} → (Part → Option A) → ℕ → List (LspId × Stored) → PartPlace → Type 0
NoneBefore f node es place =
    (e : LspId × Stored) (j : ℕ) (z : Part) → Contains es e → is_own node e.0 ≡ true → slice_get (parts_of e.1.live) j ≡ Some z
    → PlaceBefore (part_place (place_in e j)) (part_place place) → f z ≡ None

-- entries before another say nothing
none-earlier : {A : Type 0} (f : Part → Option A) (node : ℕ) (e : LspId × Stored) (es : List (LspId × Stored)) (place : PartPlace) → id_cmp e.0 place.id ≡ Less → NoneBefore f node (e ∷ es) place → first_by f (own_parts node e) ≡ None
none-earlier {A} f node e es place less before = by (is_own node e.0) refl
  where
    by : (b : Bool) → is_own node e.0 ≡ b → first_by f (cond b (parts_of e.1.live) []) ≡ None
    by false own = refl
    by true own = none-within f (parts_of e.1.live) (λ j z at. before e j z (here e es) own at (inl less))

first-in : {A : Type 0} (f : Part → Option A) (node : ℕ) (es : List (LspId × Stored)) → IsStrictlySortedBy id_cmp (keys_of es) → (entry : LspId × Stored) (k : ℕ) (x : Part) (y : A) → Contains es entry → is_own node entry.0 ≡ true → slice_get (parts_of entry.1.live) k ≡ Some x → f x ≡ Some y → NoneBefore f node es (place_in entry k) → first_from f node es ≡ Some y
first-in f node [] up entry k x y there own at says before = absurd (nowhere entry there)
first-in {A} f node (e ∷ es) up entry k x y there own at says before = ⊎_elim now
    (λ (rest : Contains es entry). after rest (first-in f node es (sorted_tail id_cmp e.0 (keys_of es) up) entry k x y rest own at says (λ z j w inside. before z j w (later e es z inside))))
    (cases e es entry there)
  where
    now : e ≡ entry → option_or (first_by f (own_parts node e)) (first_from f node es) ≡ Some y
    now same =
        let parts : own_parts node e ≡ parts_of entry.1.live = ap (own_parts node) same ∙ ap (λ (b : Bool). cond b (parts_of entry.1.live) []) own in
        let first : first_by f (parts_of entry.1.live) ≡ Some y = first-within f (parts_of entry.1.live) k x y at says (λ j z lt here_too. before entry j z there own here_too (inr (refl, inl lt))) in
        ap (λ o. option_or o (first_from f node es)) (ap (first_by f) parts ∙ first)

    after : Contains es entry → first_from f node es ≡ Some y → option_or (first_by f (own_parts node e)) (first_from f node es) ≡ Some y
    after rest found =
        let less : id_cmp e.0 entry.0 ≡ Less = all-of (λ (i : LspId). id_cmp e.0 i ≡ Less) (keys_of es) entry.0 (sorted_head id_cmp e.0 (keys_of es) up) (mapped-to (λ (z : LspId × Stored). z.0) es entry rest) in
        ap (λ o. option_or o (first_from f node es)) (none-earlier f node e es (place_in entry k) less before) ∙ found

-- what a part says is the first of its node where none of the node's own before it says so
first-said : {A : Type 0} (facts : Facts) → IsInOrder facts → (f : Part → Option A) (says : Part → Type 0) → ((z : Part) (y : A) → f z ≡ Some y → says z) → (place : PartPlace) (x : Part) (y : A) → place.id.pseudonode ≡ 0 → IsPartAt facts place x → f x ≡ Some y → (IsSaidBefore says facts place → ⊥) → first_from f place.id.system facts.database ≡ Some y
first-said {A} facts up f says tells place x y real at said first =
    let entry = entry-from facts place x at in
    first-in f place.id.system facts.database up (place.id, entry.0) place.part x y entry.1 (and_from (place.id.system == place.id.system) (place.id.pseudonode == 0) (eq-eqb place.id.system place.id.system refl) (eq-eqb place.id.pseudonode 0 real)) entry.2 said before
  where
    before : NoneBefore f place.id.system facts.database place
    before e j z there own stands earlier = by (f z) refl
      where
        by : (o : Option A) → f z ≡ o → o ≡ None
        by None is = refl
        by (Some w) is = let o = own-is place.id.system e.0 own in absurd (first (place_in e j, z, o.0, o.1, entry-to facts up e j z there stands, tells z w is, earlier))

-- ---- what is said before

decided-said : (facts : Facts) → IsInOrder facts → (says : Part → Type 0) → ((z : Part) → Decided (says z)) → (place : PartPlace) → Decided (IsSaidBefore says facts place)
decided-said facts up says decide place = decided-like
    (λ r. (r.0, r.1, r.3.0.0, r.3.0.1, r.2, r.3.1.0, r.3.1.1))
    (λ r. (r.0, r.1, r.4, ((r.2, r.3), (r.5, r.6))))
    (search-parts facts up Says
    (λ other said at. decided-both
    (decided-both (cases_eq other.id.system place.id.system) (cases_eq other.id.pseudonode 0))
    (decided-both (decide said) (decided-before (part_place other) (part_place place)))))
  where
    Says : PartPlace → Part → Type 0
    Says other said = ((other.id.system ≡ place.id.system) × (other.id.pseudonode ≡ 0)) × (says said × PlaceBefore (part_place other) (part_place place))

decided-ranges : (said : Part) → Decided (SaysRanges said)
decided-ranges said = decided-test (is_some (ranges_in said))

decided-depth : (said : Part) → Decided (SaysImposition said)
decided-depth (part.Capability capability) = by (filter_map imposition_by capability.msd)
  where
    by : (xs : List ℕ) → Decided (xs ≢ [])
    by [] = inr (λ some. some refl)
    by (x ∷ xs) = inl (λ e. absurd (cc))
decided-depth _ = inr (λ none. none)

-- what a part tells it says
ranges-tell : (z : Part) (y : List Range) → ranges_in z ≡ Some y → SaysRanges z
ranges-tell z y e = ap is_some e

depth-tell : (z : Part) (y : ℕ) → depth_in z ≡ Some y → SaysImposition z
depth-tell (part.Capability capability) y e = λ empty. none-some y (sym (ap (λ (xs : List ℕ). slice_get xs 0) empty) ∙ e)
depth-tell (part.Reach reach) y e = none-some y e
depth-tell (part.Prefix prefix) y e = none-some y e
depth-tell (part.Name name) y e = none-some y e
depth-tell (part.Risk risk) y e = none-some y e

-- the part is the first to say so, or where it says so, one before it does too
first-or : (facts : Facts) → IsInOrder facts → (says : Part → Type 0) → ((z : Part) → Decided (says z)) → (place : PartPlace) (said : Part) → (says said × (IsSaidBefore says facts place → ⊥)) ⊎ (says said → IsSaidBefore says facts place)
first-or facts up says decide place said = by (decide said) (decided-said facts up says decide place)
  where
    by : Decided (says said) → Decided (IsSaidBefore says facts place) → (says said × (IsSaidBefore says facts place → ⊥)) ⊎ (says said → IsSaidBefore says facts place)
    by (inr silent) before = inr (λ speaks. absurd (silent speaks))
    by (inl speaks) (inl before) = inr (λ again. before)
    by (inl speaks) (inr first) = inl (speaks, first)

-- ---- the two ways

module _ (facts : Facts) (net : Net) (up : IsInOrder facts) (is : IsNetOf facts net) (place : PartPlace) (capability : Capability) (at : IsPartAt facts place (part.Capability capability)) (v : ℕ) (node : IsNodeOfLsp net place.id v) where
  labels-same : labels_at net v ≡ labels_of facts place.id.system
  labels-same = labels-node facts net is v node.within ∙ ap (labels_of facts) node.system

  gives-ranges : SaysRanges (part.Capability capability) → (IsSaidBefore SaysRanges facts place → ⊥) → GivesCapability facts net place capability
  gives-ranges speaks first = by capability.srgb refl speaks
    where
      by : (o : Option SrCap) → capability.srgb ≡ o → is_some (option_map (λ (cap : SrCap). cap.ranges) o) ≡ true → GivesCapability facts net place capability
      by None e none = absurd (false≢true none)
      by (Some cap) e some =
          let said : ranges_in (part.Capability capability) ≡ Some cap.ranges = ap (option_map (λ (c : SrCap). c.ranges)) e in
          let own : srgb_of facts place.id.system ≡ Some cap.ranges = ranges-as place.id.system facts.database ∙ first-said facts up ranges_in SaysRanges ranges-tell place (part.Capability capability) cap.ranges node.real at said first in
          record {
            node = v;
            of_node = node;
            gives = inl (cap, e, ap (λ (x : Labels). x.srgb) labels-same ∙ ap (λ (o : Option (List Range)). unwrap_or o []) own, first);
          }

  gives-depth : SaysImposition (part.Capability capability) → (IsSaidBefore SaysImposition facts place → ⊥) → GivesCapability facts net place capability
  gives-depth speaks first = by (depth_in (part.Capability capability)) refl
    where
      empty : (xs : List ℕ) → slice_get xs 0 ≡ None → xs ≡ []
      empty [] e = refl
      empty (x ∷ xs) e = absurd (cc)

      by : (o : Option ℕ) → depth_in (part.Capability capability) ≡ o → GivesCapability facts net place capability
      by None e = absurd (speaks (empty (filter_map imposition_by capability.msd) e))
      by (Some depth) e =
          let own : imposition_of facts place.id.system ≡ Some depth = depth-as facts place.id.system ∙ first-said facts up depth_in SaysImposition depth-tell place (part.Capability capability) depth node.real at e first in
          record {
            node = v;
            of_node = node;
            gives = inr (depth, e, ap (λ (x : Labels). x.imposes) labels-same ∙ own, first);
          }

pub capability-used : (facts : Facts) (net : Net) → IsInOrder facts → IsNetOf facts net → (place : PartPlace) (capability : Capability) → IsPartAt facts place (part.Capability capability) → ((r : Reason) → LspFails facts place.id r → ⊥) → ((r : Reason) → CapabilityFails facts place capability r → ⊥) → GivesCapability facts net place capability
capability-used facts net up is place capability at clear free =
    let v = node-used facts net is place.id clear in
    by v.0 v.1 (first-or facts up SaysRanges decided-ranges place (part.Capability capability)) (first-or facts up SaysImposition decided-depth place (part.Capability capability))
  where
    by : (v : ℕ) → IsNodeOfLsp net place.id v → (SaysRanges (part.Capability capability) × (IsSaidBefore SaysRanges facts place → ⊥)) ⊎ (SaysRanges (part.Capability capability) → IsSaidBefore SaysRanges facts place) → (SaysImposition (part.Capability capability) × (IsSaidBefore SaysImposition facts place → ⊥)) ⊎ (SaysImposition (part.Capability capability) → IsSaidBefore SaysImposition facts place) → GivesCapability facts net place capability
    by v node (inl first) depth = gives-ranges facts net up is place capability at v node first.0 first.1
    by v node (inr late) (inl first) = gives-depth facts net up is place capability at v node first.0 first.1
    by v node (inr late) (inr later_too) = absurd (free NotFirst (late, later_too))

pub capability-free : (facts : Facts) (net : Net) (place : PartPlace) (capability : Capability) → GivesCapability facts net place capability → (r : Reason) → CapabilityFails facts place capability r → ⊥
capability-free facts net place capability gives Silent fails = ⊎_elim
    (λ (ranges : (cap : SrCap) × (capability.srgb ≡ Some cap) × ((labels_at net gives.node).srgb ≡ cap.ranges) × (IsSaidBefore SaysRanges facts place → ⊥)). fails.0 (ap (λ (o : Option SrCap). is_some (option_map (λ (c : SrCap). c.ranges) o)) ranges.1))
    (λ (depth : (imposes : ℕ) × (slice_get (filter_map imposition_by capability.msd) 0 ≡ Some imposes) × ((labels_at net gives.node).imposes ≡ Some imposes) × (IsSaidBefore SaysImposition facts place → ⊥)). fails.1 (depth-tell (part.Capability capability) depth.0 depth.1))
    gives.gives
capability-free facts net place capability gives NotFirst fails = ⊎_elim
    (λ (ranges : (cap : SrCap) × (capability.srgb ≡ Some cap) × ((labels_at net gives.node).srgb ≡ cap.ranges) × (IsSaidBefore SaysRanges facts place → ⊥)). ranges.3 (fails.0 (ap (λ (o : Option SrCap). is_some (option_map (λ (c : SrCap). c.ranges) o)) ranges.1)))
    (λ (depth : (imposes : ℕ) × (slice_get (filter_map imposition_by capability.msd) 0 ≡ Some imposes) × ((labels_at net gives.node).imposes ≡ Some imposes) × (IsSaidBefore SaysImposition facts place → ⊥)). depth.3 (fails.1 (depth-tell (part.Capability capability) depth.0 depth.1)))
    gives.gives
capability-free facts net place capability gives _ fails = fails
