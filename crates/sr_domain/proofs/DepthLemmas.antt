-- The MSD of a node, one entry, one part and one depth after the other.
use Rattle.std.proofs.Common.{◌≡◌, ℕ, Bool, true, false, cond, List, [], ◌∷◌, ◌++◌, Option, Some, None, refl, ap, sym, ◌∙◌}
use Rattle.std.specs.Prelude.{slice_get, filter}
use Rattle.std.specs.Option.{option_or}
use Rattle.std.specs.List.{filter_map, flat_map, cons_option}
use Rattle.std.specs.declared.ops.Bound.TheVariants.{Included, Excluded}
use Rattle.std.specs.BTreeMap.Range.{entries_between}
use Rattle.std.proofs.lemmas.List.Elements.{filter_map-append}
use Rattle.std.proofs.lemmas.Grind.{flat_map-append}
use Rattle.sr_subtlv.specs.declared.msd.Msd.{Msd}
use Rattle.sr_lsp.specs.declared.lsp.LspId.{LspId}
use Rattle.sr_lsp.specs.declared.table.Part.{Part}
use Rattle.sr_lsdb.specs.declared.facts.Stored.{Stored}
use Rattle.sr_lsdb.specs.Order.{id_cmp}
use Rattle.sr_domain.specs.Announced.{first_id, parts_of}
use Rattle.sr_domain.specs.Nodes.{past_own, is_own, own_parts, imposition_by, msds_in, imposition_in}
use Rattle.sr_domain.proofs.NodesLemmas.{own-entries}

-- the same choice, step by step: over depths, over parts, and over the node's own LSPs alone
abbrev pub plain_depth : List Msd → Option ℕ
plain_depth [] = None
plain_depth (msd ∷ msds) = option_or (imposition_by msd) (plain_depth msds)

abbrev pub plain_depths : List Part → Option ℕ
plain_depths [] = None
plain_depths (part ∷ parts) = option_or (slice_get (filter_map imposition_by (msds_in part)) 0) (plain_depths parts)

abbrev pub plain_imposition : List (LspId × Stored) → Option ℕ
plain_imposition [] = None
plain_imposition (e ∷ es) = option_or (imposition_in (parts_of e.1.live)) (plain_imposition es)

pub first-append : (xs ys : List ℕ) → slice_get (xs ++ ys) 0 ≡ option_or (slice_get xs 0) (slice_get ys 0)
first-append [] ys = refl
first-append (x ∷ xs) ys = refl

pub depth-plain : (msds : List Msd) → plain_depth msds ≡ slice_get (filter_map imposition_by msds) 0
depth-plain [] = refl
depth-plain (msd ∷ msds) = by (imposition_by msd) (depth-plain msds)
  where
    by : (o : Option ℕ) → plain_depth msds ≡ slice_get (filter_map imposition_by msds) 0 → option_or o (plain_depth msds) ≡ slice_get (cons_option o (filter_map imposition_by msds)) 0
    by None rest = rest
    by (Some value) rest = refl

-- the first of two lists of depths is the first of the one, or else of the other
msds-append : (xs ys : List Msd) → slice_get (filter_map imposition_by (xs ++ ys)) 0 ≡ option_or (slice_get (filter_map imposition_by xs) 0) (slice_get (filter_map imposition_by ys) 0)
msds-append xs ys = ap (λ (values : List ℕ). slice_get values 0) (filter_map-append imposition_by xs ys) ∙ first-append (filter_map imposition_by xs) (filter_map imposition_by ys)

pub depths-plain : (parts : List Part) → plain_depths parts ≡ imposition_in parts
depths-plain [] = refl
depths-plain (part ∷ parts) =
    let first : Option ℕ = slice_get (filter_map imposition_by (msds_in part)) 0 in
    ap (option_or first) (depths-plain parts) ∙ sym (msds-append (msds_in part) (flat_map msds_in parts))

abbrev live_parts : (LspId × Stored) → List Part
live_parts entry = parts_of entry.1.live

imposition-plain : (es : List (LspId × Stored)) → plain_imposition es ≡ imposition_in (flat_map live_parts es)
imposition-plain [] = refl
imposition-plain (e ∷ es) =
    let here : List Part = live_parts e in
    let more : List Part = flat_map live_parts es in
    ap (option_or (imposition_in here)) (imposition-plain es)
    ∙ sym (ap (λ (msds : List Msd). slice_get (filter_map imposition_by msds) 0) (flat_map-append msds_in here more)
    ∙ msds-append (flat_map msds_in here) (flat_map msds_in more))

own-parts : (n : ℕ) (es : List (LspId × Stored)) → flat_map live_parts (filter (λ (e : LspId × Stored). is_own n e.0) es) ≡ flat_map (own_parts n) es
own-parts n [] = refl
own-parts n (e ∷ es) = by (is_own n e.0) (own-parts n es)
  where
    by : (t : Bool) → flat_map live_parts (filter (λ (e : LspId × Stored). is_own n e.0) es) ≡ flat_map (own_parts n) es → flat_map live_parts (cond t (e ∷ filter (λ (e : LspId × Stored). is_own n e.0) es) (filter (λ (e : LspId × Stored). is_own n e.0) es)) ≡ cond t (parts_of e.1.live) [] ++ flat_map (own_parts n) es
    by true rest = ap (λ (parts : List Part). parts_of e.1.live ++ parts) rest
    by false rest = rest

-- of what a range gave
pub imposition-ranged : (n : ℕ) (ids : LspId × LspId) (es part : List (LspId × Stored)) → ids ≡ (first_id n, past_own n) → part ≡ entries_between id_cmp (Included ids.0) (Excluded ids.1) es → plain_imposition part ≡ imposition_in (flat_map (own_parts n) es)
imposition-ranged n ids es part e f =
    ap plain_imposition f
    ∙ ap (λ (i : LspId × LspId). plain_imposition (entries_between id_cmp (Included i.0) (Excluded i.1) es)) e
    ∙ ap plain_imposition (own-entries n es)
    ∙ imposition-plain (filter (λ (e : LspId × Stored). is_own n e.0) es)
    ∙ ap imposition_in (own-parts n es)
