-- What a node's own LSPs hold, by the part of the database where they stand.
use Rattle.std.proofs.Common.{ℕ, sym, ◌≡◌, Bool, true, false, cond, List, [], ◌∷◌, Option, Some, None, refl, ap, ◌∙◌, arith}
use Rattle.std.specs.Prelude.{nat_lt, filter}
use Rattle.std.specs.Option.{option_or}
use Rattle.std.proofs.lemmas.Bool.Decides.{nat_tests}
use Rattle.std.proofs.lemmas.List.Elements.{filter_agree}
use Rattle.std.specs.declared.ops.Bound.TheVariants.{Included, Excluded}
use Rattle.std.specs.BTreeMap.Range.{range_contains, entries_between}
use Rattle.sr_lsp.specs.declared.lsp.LspId.{LspId}
use Rattle.sr_lsdb.specs.declared.facts.Stored.{Stored}
use Rattle.sr_model.specs.declared.label.Range.{Range}
use Rattle.sr_domain.specs.declared.nodes.NodeSid.{NodeSid}
use Rattle.sr_lsdb.specs.Order.{id_cmp}
use Rattle.sr_domain.specs.Announced.{first_id, parts_of}
use Rattle.std.specs.Prelude.{nat_eq, ◌&&◌, is_some}
use Rattle.std.specs.List.{AllByRecursion, filter_map, cons_option}
use Rattle.std.specs.List.Sorted.{IsStrictlySortedBy}
use Rattle.std.specs.Ordering.{nat_cmp, ordering_then}
use Rattle.std.specs.declared.cmp.Ordering.TheVariants.{Less, Equal, Greater}
use Rattle.std.specs.declared.cmp.Ordering.{Ordering}
use Rattle.std.specs.Map.{keys_of}
use Rattle.sr_domain.specs.Nodes.{past_own, node_by, is_own, first_ranges, ranges_from, lesser_sid, least_of_parts, sid_from}

-- over the node's own LSPs alone
abbrev pub plain_ranges : List (LspId × Stored) → Option (List Range)
plain_ranges [] = None
plain_ranges (e ∷ es) = option_or (first_ranges (parts_of e.1.live)) (plain_ranges es)

abbrev pub plain_sid : List (LspId × Stored) → Option NodeSid
plain_sid [] = None
plain_sid (e ∷ es) = lesser_sid (least_of_parts (parts_of e.1.live)) (plain_sid es)

lesser_by : (a b c : NodeSid) → lesser_sid (lesser_sid (Some a) (Some b)) (Some c) ≡ lesser_sid (Some a) (lesser_sid (Some b) (Some c))
lesser_by a b c = grind (arith, nat_tests)

lesser_end : (a b : NodeSid) → lesser_sid (lesser_sid (Some a) (Some b)) None ≡ lesser_sid (Some a) (Some b)
lesser_end a b = by (nat_lt b.index a.index)
  where
    by : (t : Bool) → lesser_sid (cond t (Some b) (Some a)) None ≡ cond t (Some b) (Some a)
    by true = refl
    by false = refl

pub lesser-assoc : (a b c : Option NodeSid) → lesser_sid (lesser_sid a b) c ≡ lesser_sid a (lesser_sid b c)
lesser-assoc None b c = refl
lesser-assoc (Some a) None c = refl
lesser-assoc (Some a) (Some b) None = lesser_end a b
lesser-assoc (Some a) (Some b) (Some c) = lesser_by a b c

own-range : (n : ℕ) (i : LspId) → range_contains id_cmp (Included (first_id n)) (Excluded (past_own n)) i ≡ is_own n i
own-range n i = grind (arith, nat_tests)

plain-own_ranges : (n : ℕ) (es : List (LspId × Stored)) → plain_ranges (filter (λ (e : LspId × Stored). is_own n e.0) es) ≡ ranges_from n es
plain-own_ranges n [] = refl
plain-own_ranges n (e ∷ es) = by (is_own n e.0) (plain-own_ranges n es)
  where
    by : (t : Bool) → plain_ranges (filter (λ (e : LspId × Stored). is_own n e.0) es) ≡ ranges_from n es → plain_ranges (cond t (e ∷ filter (λ (e : LspId × Stored). is_own n e.0) es) (filter (λ (e : LspId × Stored). is_own n e.0) es)) ≡ option_or (first_ranges (cond t (parts_of e.1.live) [])) (ranges_from n es)
    by true rest = ap (λ r. option_or (first_ranges (parts_of e.1.live)) r) rest
    by false rest = rest

plain-own_sid : (n : ℕ) (es : List (LspId × Stored)) → plain_sid (filter (λ (e : LspId × Stored). is_own n e.0) es) ≡ sid_from n es
plain-own_sid n [] = refl
plain-own_sid n (e ∷ es) = by (is_own n e.0) (plain-own_sid n es)
  where
    by : (t : Bool) → plain_sid (filter (λ (e : LspId × Stored). is_own n e.0) es) ≡ sid_from n es → plain_sid (cond t (e ∷ filter (λ (e : LspId × Stored). is_own n e.0) es) (filter (λ (e : LspId × Stored). is_own n e.0) es)) ≡ lesser_sid (least_of_parts (cond t (parts_of e.1.live) [])) (sid_from n es)
    by true rest = ap (λ r. lesser_sid (least_of_parts (parts_of e.1.live)) r) rest
    by false rest = rest

pub own-entries : (n : ℕ) (es : List (LspId × Stored)) → entries_between id_cmp (Included (first_id n)) (Excluded (past_own n)) es ≡ filter (λ (e : LspId × Stored). is_own n e.0) es
own-entries n es = filter_agree _ _ (λ e. own-range n e.0) es

pub ranges-between : (n : ℕ) (es : List (LspId × Stored)) → plain_ranges (entries_between id_cmp (Included (first_id n)) (Excluded (past_own n)) es) ≡ ranges_from n es
ranges-between n es = ap plain_ranges (own-entries n es) ∙ plain-own_ranges n es

pub sid-between : (n : ℕ) (es : List (LspId × Stored)) → plain_sid (entries_between id_cmp (Included (first_id n)) (Excluded (past_own n)) es) ≡ sid_from n es
sid-between n es = ap plain_sid (own-entries n es) ∙ plain-own_sid n es

-- the same, of what a range gave
pub ranges-ranged : (n : ℕ) (ids : LspId × LspId) (es part : List (LspId × Stored)) → ids ≡ (first_id n, past_own n) → part ≡ entries_between id_cmp (Included ids.0) (Excluded ids.1) es → plain_ranges part ≡ ranges_from n es
ranges-ranged n ids es part e f = ap plain_ranges f ∙ ap (λ (i : LspId × LspId). plain_ranges (entries_between id_cmp (Included i.0) (Excluded i.1) es)) e ∙ ranges-between n es

pub sid-ranged : (n : ℕ) (ids : LspId × LspId) (es part : List (LspId × Stored)) → ids ≡ (first_id n, past_own n) → part ≡ entries_between id_cmp (Included ids.0) (Excluded ids.1) es → plain_sid part ≡ sid_from n es
sid-ranged n ids es part e f = ap plain_sid f ∙ ap (λ (i : LspId × LspId). plain_sid (entries_between id_cmp (Included i.0) (Excluded i.1) es)) e ∙ sid-between n es

-- the present nodes ascend, since the ids of the database do
node_parts : (x : LspId × Stored) (s : ℕ) → node_by x ≡ Some s → (x.0.pseudonode ≡ 0) × (x.0.fragment ≡ 0) × (x.0.system ≡ s)
node_parts x s e = by (nat_eq x.0.pseudonode 0) (nat_eq x.0.fragment 0) (is_some x.1.live) refl refl e
  where
    by : (a b l : Bool) → nat_eq x.0.pseudonode 0 ≡ a → nat_eq x.0.fragment 0 ≡ b → cond (a && b && l) (Some x.0.system) None ≡ Some s → (x.0.pseudonode ≡ 0) × (x.0.fragment ≡ 0) × (x.0.system ≡ s)
    by true true true p q r = (grind (arith, nat_tests), grind (arith, nat_tests), cc)
    by true true false p q r = absurd (cc)
    by true false l p q r = absurd (cc)
    by false b l p q r = absurd (cc)

then_less : (r t : Ordering) → t ≡ Equal → ordering_then r t ≡ Less → r ≡ Less
then_less Less t e f = refl
then_less Equal t e f = absurd (cc)
then_less Greater t e f = f

all_zero : (p q u v : ℕ) → p ≡ 0 → q ≡ 0 → u ≡ 0 → v ≡ 0 → ordering_then (nat_cmp p q) (nat_cmp u v) ≡ Equal
all_zero p q u v a b c d = rw (a, b, c, d) refl

node_below : (x y : LspId × Stored) (s t : ℕ) → node_by x ≡ Some s → node_by y ≡ Some t → id_cmp x.0 y.0 ≡ Less → nat_cmp s t ≡ Less
node_below x y s t e f l =
    let p = node_parts x s e in
    let q = node_parts y t f in
    let less : nat_cmp x.0.system y.0.system ≡ Less = then_less (nat_cmp x.0.system y.0.system) (ordering_then (nat_cmp x.0.pseudonode y.0.pseudonode) (nat_cmp x.0.fragment y.0.fragment)) (all_zero x.0.pseudonode y.0.pseudonode x.0.fragment y.0.fragment p.0 q.0 p.1 q.1) l in
    ap (λ (n : ℕ). nat_cmp n t) (sym p.2) ∙ ap (λ (n : ℕ). nat_cmp x.0.system n) (sym q.2) ∙ less

above : (s : ℕ) (x : LspId × Stored) (es : List (LspId × Stored)) → node_by x ≡ Some s → AllByRecursion (λ (i : LspId). id_cmp x.0 i ≡ Less) (keys_of es) → AllByRecursion (λ (n : ℕ). nat_cmp s n ≡ Less) ((filter_map node_by es))
above s x [] e all = tt
above s x (y ∷ es) e all = by (node_by y) refl (above s x es e all.1)
  where
    by : (o : Option ℕ) → node_by y ≡ o → AllByRecursion (λ (n : ℕ). nat_cmp s n ≡ Less) ((filter_map node_by es)) → AllByRecursion (λ (n : ℕ). nat_cmp s n ≡ Less) ((cons_option o (filter_map node_by es)))
    by None f rest = rest
    by (Some t) f rest = (node_below x y s t e f all.0, rest)

pub nodes-ascend : (es : List (LspId × Stored)) → IsStrictlySortedBy id_cmp (keys_of es) → IsStrictlySortedBy nat_cmp ((filter_map node_by es))
unfolding IsStrictlySortedBy
nodes-ascend [] up = tt
nodes-ascend (x ∷ es) up = by (node_by x) refl (nodes-ascend es up.1)
  where
    by : (o : Option ℕ) → node_by x ≡ o → IsStrictlySortedBy nat_cmp ((filter_map node_by es)) → IsStrictlySortedBy nat_cmp ((cons_option o (filter_map node_by es)))
    by None f rest = rest
    by (Some s) f rest = (above s x es f up.0, rest)
