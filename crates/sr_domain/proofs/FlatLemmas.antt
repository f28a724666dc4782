-- The index of a node and the label of an adjacency, as the least of flat lists.
use Rattle.std.proofs.Common.{◌≡◌, ◌≢◌, ℕ, zero, suc, ◌<◌, ◌≤◌, Bool, true, false, cond, List, [], ◌∷◌, ◌++◌, Option, Some, None, refl, ap, sym, ◌∙◌, subst, arith}
use Rattle.std.specs.Prelude.{MatchOption, slice_get, nat_lt, nat_eq, min}
use Rattle.std.specs.Option.{IsSomeAnd, option_or}
use Rattle.std.specs.List.{filter_map, flat_map, cons_option}
use Rattle.std.proofs.lemmas.Bool.Decides.{nat_tests}
use Rattle.std.proofs.lemmas.List.Elements.{filter_map-append}
use Rattle.std.proofs.lemmas.Grind.{flat_map-append}
use Rattle.std.proofs.lemmas.Option.{same_Some}
use Rattle.sr_subtlv.specs.declared.prefix_sid.PrefixSid.{PrefixSid}
use Rattle.sr_subtlv.specs.declared.adj_sid.AdjSid.{AdjSid}
use Rattle.sr_lsp.specs.declared.lsp.LspId.{LspId}
use Rattle.sr_lsp.specs.declared.table.Part.{Part}
use Rattle.sr_lsp.specs.declared.table.Part.TheVariants.{Prefix}
use Rattle.sr_lsdb.specs.declared.facts.Stored.{Stored}
use Rattle.sr_lsdb.specs.declared.facts.Facts.{Facts}
use Rattle.sr_domain.specs.declared.nodes.NodeSid.{NodeSid}
use Rattle.sr_lsdb.specs.Announcement.{adj_label, adj_sid_labels, least, lesser}
use Rattle.sr_domain.specs.Nodes.{own_parts, node_sid_by, node_sid_of, lesser_sid, least_sid, sid_of_part, least_of_parts, sid_from}
use Rattle.sr_domain.specs.Least.{host_sids, candidates, IsFirstLeastSid, IsLeastNumber, IsAdjLabel}
use Rattle.sr_domain.proofs.NodesLemmas.{lesser-assoc}

-- the one of the least index of a flat list, and of equal ones the first
abbrev pub first_least : List NodeSid → Option NodeSid
first_least [] = None
first_least (sid ∷ sids) = lesser_sid (Some sid) (first_least sids)

first_least-append : (xs ys : List NodeSid) → first_least (xs ++ ys) ≡ lesser_sid (first_least xs) (first_least ys)
first_least-append [] ys = refl
first_least-append (x ∷ xs) ys = ap (lesser_sid (Some x)) (first_least-append xs ys) ∙ sym (lesser-assoc (Some x) (first_least xs) (first_least ys))

-- each step of the choice, over the flat list
least_sid-flat : (sids : List PrefixSid) → least_sid sids ≡ first_least (filter_map node_sid_by sids)
least_sid-flat [] = refl
least_sid-flat (sid ∷ sids) = by (node_sid_by sid) (least_sid-flat sids)
  where
    by : (o : Option NodeSid) → least_sid sids ≡ first_least (filter_map node_sid_by sids) → lesser_sid o (least_sid sids) ≡ first_least (cons_option o (filter_map node_sid_by sids))
    by None rest = rest
    by (Some s) rest = ap (lesser_sid (Some s)) rest

part-flat : (part : Part) → sid_of_part part ≡ first_least (filter_map node_sid_by (host_sids part))
part-flat (Prefix prefix) = by (nat_eq prefix.length 32)
  where
    by : (t : Bool) → cond t (least_sid prefix.sids) None ≡ first_least (filter_map node_sid_by (cond t prefix.sids []))
    by true = least_sid-flat prefix.sids
    by false = refl
part-flat _ = refl

parts-flat : (parts : List Part) → least_of_parts parts ≡ first_least (filter_map node_sid_by (flat_map host_sids parts))
parts-flat [] = refl
parts-flat (part ∷ parts) =
    ap (λ o. lesser_sid o (least_of_parts parts)) (part-flat part)
    ∙ ap (lesser_sid (first_least (filter_map node_sid_by (host_sids part)))) (parts-flat parts)
    ∙ sym (first_least-append (filter_map node_sid_by (host_sids part)) (filter_map node_sid_by (flat_map host_sids parts)))
    ∙ ap first_least (sym (filter_map-append node_sid_by (host_sids part) (flat_map host_sids parts)))

own-flat : (node : ℕ) (entries : List (LspId × Stored)) → sid_from node entries ≡ first_least (filter_map node_sid_by (flat_map host_sids (flat_map (own_parts node) entries)))
own-flat node [] = refl
own-flat node (entry ∷ entries) =
    let here : List Part = own_parts node entry in
    let more : List Part = flat_map (own_parts node) entries in
    ap (λ o. lesser_sid o (sid_from node entries)) (parts-flat here)
    ∙ ap (lesser_sid (first_least (filter_map node_sid_by (flat_map host_sids here)))) (own-flat node entries)
    ∙ sym (first_least-append (filter_map node_sid_by (flat_map host_sids here)) (filter_map node_sid_by (flat_map host_sids more)))
    ∙ ap first_least (sym (filter_map-append node_sid_by (flat_map host_sids here) (flat_map host_sids more)))
    ∙ ap (λ sids. first_least (filter_map node_sid_by sids)) (sym (flat_map-append host_sids here more))

-- what is chosen of a flat list
abbrev pub IsChosen : List NodeSid → Option NodeSid → Type 0
IsChosen sids found = MatchOption found (sids ≡ []) (IsFirstLeastSid sids)

alone : (sid : NodeSid) → IsFirstLeastSid (sid ∷ []) sid
alone sid = record {
  place = 0;
  stands = refl;
  earlier = λ k other lt at. absurd (omega arith);
  least = at_one;
}
  where
    at_one : (k : ℕ) (other : NodeSid) → slice_get (sid ∷ []) k ≡ Some other → sid.index ≤ other.index
    at_one zero other at = let same : sid ≡ other = same_Some sid other at in let index : sid.index ≡ other.index = ap (λ (s : NodeSid). s.index) same in omega arith
    at_one (suc k) other at = absurd (cc)

later : (x y : NodeSid) (xs : List NodeSid) → IsFirstLeastSid xs y → y.index < x.index → IsFirstLeastSid (x ∷ xs) y
later x y xs first lt = record {
  place = suc first.place;
  stands = first.stands;
  earlier = before;
  least = all;
}
  where
    before : (k : ℕ) (other : NodeSid) → k < suc first.place → slice_get (x ∷ xs) k ≡ Some other → y.index < other.index
    before zero other less at = let index : x.index ≡ other.index = ap (λ (s : NodeSid). s.index) (same_Some x other at) in omega arith
    before (suc k) other less at = first.earlier k other (omega arith) at

    all : (k : ℕ) (other : NodeSid) → slice_get (x ∷ xs) k ≡ Some other → y.index ≤ other.index
    all zero other at = let index : x.index ≡ other.index = ap (λ (s : NodeSid). s.index) (same_Some x other at) in omega arith
    all (suc k) other at = first.least k other at

sooner : (x y : NodeSid) (xs : List NodeSid) → IsFirstLeastSid xs y → x.index ≤ y.index → IsFirstLeastSid (x ∷ xs) x
sooner x y xs first le = record {
  place = 0;
  stands = refl;
  earlier = λ k other lt at. absurd (omega arith);
  least = all;
}
  where
    all : (k : ℕ) (other : NodeSid) → slice_get (x ∷ xs) k ≡ Some other → x.index ≤ other.index
    all zero other at = let index : x.index ≡ other.index = ap (λ (s : NodeSid). s.index) (same_Some x other at) in omega arith
    all (suc k) other at = let more : y.index ≤ other.index = first.least k other at in omega arith

chosen : (sids : List NodeSid) → IsChosen sids (first_least sids)
chosen [] = refl
chosen (x ∷ xs) = by (first_least xs) (chosen xs)
  where
    two : (y : NodeSid) (t : Bool) → nat_lt y.index x.index ≡ t → IsFirstLeastSid xs y → IsChosen (x ∷ xs) (cond t (Some y) (Some x))
    two y true is first = later x y xs first (grind (arith, nat_tests))
    two y false is first = sooner x y xs first (grind (arith, nat_tests))

    by : (o : Option NodeSid) → IsChosen xs o → IsChosen (x ∷ xs) (lesser_sid (Some x) o)
    by None none = subst (λ (r : List NodeSid). IsFirstLeastSid (x ∷ r) x) (sym none) (alone x)
    by (Some y) first = two y (nat_lt y.index x.index) refl first

pub node_sid-least : (facts : Facts) (node : ℕ) → MatchOption (node_sid_of facts node) (candidates facts node ≡ []) (IsFirstLeastSid (candidates facts node))
node_sid-least facts node = subst (IsChosen (candidates facts node)) (sym (own-flat node facts.database)) (chosen (candidates facts node))

-- the least of numbers
abbrev pub IsLeastThere : List ℕ → Option ℕ → Type 0
IsLeastThere numbers found = MatchOption found (numbers ≡ []) (IsLeastNumber numbers)

least-alone : (number : ℕ) → IsLeastNumber (number ∷ []) number
least-alone number = record {
  place = 0;
  stands = refl;
  least = all;
}
  where
    all : (k other : ℕ) → slice_get (number ∷ []) k ≡ Some other → number ≤ other
    all zero other at = let same : number ≡ other = same_Some number other at in omega arith
    all (suc k) other at = absurd (cc)

least-more : (x y : ℕ) (xs : List ℕ) → IsLeastNumber xs y → IsLeastNumber (x ∷ xs) (min y x)
least-more x y xs first = by (nat_lt x y) refl
  where
    all : (z : ℕ) → z ≤ x → z ≤ y → (k other : ℕ) → slice_get (x ∷ xs) k ≡ Some other → z ≤ other
    all z a b zero other at = let same : x ≡ other = same_Some x other at in omega arith
    all z a b (suc k) other at = let more : y ≤ other = first.least k other at in omega arith

    by : (t : Bool) → nat_lt x y ≡ t → IsLeastNumber (x ∷ xs) (min y x)
    by true is =
        let lt : x < y = grind (arith, nat_tests) in
        let e : min y x ≡ x = omega arith in
        record { place = 0; stands = ap Some (sym e); least = all (min y x) (omega arith) (omega arith) }
    by false is =
        let le : y ≤ x = grind (arith, nat_tests) in
        let e : min y x ≡ y = omega arith in
        record { place = suc first.place; stands = first.stands ∙ ap Some (sym e); least = all (min y x) (omega arith) (omega arith) }

least-there : (numbers : List ℕ) → IsLeastThere numbers (least numbers)
least-there [] = refl
least-there (x ∷ xs) = by (least xs) (least-there xs)
  where
    by : (o : Option ℕ) → IsLeastThere xs o → IsLeastThere (x ∷ xs) (lesser o x)
    by None none = subst (λ (r : List ℕ). IsLeastNumber (x ∷ r) x) (sym none) (least-alone x)
    by (Some y) first = least-more x y xs first

either : (clear set : List ℕ) (a b : Option ℕ) → IsLeastThere clear a → IsLeastThere set b → (clear ≢ [] → IsSomeAnd (option_or a b) (IsLeastNumber clear)) × (clear ≡ [] → MatchOption (option_or a b) (set ≡ []) (IsLeastNumber set))
either clear set None b none there = (λ some. absurd (some none), λ is. there)
either clear set (Some x) b first there = (λ some. first, λ is. absurd (empty (subst (λ (r : List ℕ). IsLeastNumber r x) is first)))
  where
    empty : IsLeastNumber [] x → ⊥
    empty it = let none : None ≡ Some x = it.stands in cc

pub adj_label-least : (sids : List AdjSid) → IsAdjLabel sids (adj_label sids)
adj_label-least sids =
    let both = either (adj_sid_labels false sids) (adj_sid_labels true sids) (least (adj_sid_labels false sids)) (least (adj_sid_labels true sids)) (least-there (adj_sid_labels false sids)) (least-there (adj_sid_labels true sids)) in
    record { clear = both.0; set = both.1 }
