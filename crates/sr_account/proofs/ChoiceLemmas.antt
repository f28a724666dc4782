-- What a node chose among the items of its own LSPs.
use Rattle.std.proofs.Common.{◌≡◌, ◌≢◌, ℕ, ◌+◌, ◌<◌, ◌≤◌, ◌==◌, Bool, true, false, cond, List, [], ◌∷◌, ◌++◌, filter, length, get_or, drop, Option, Some, None, refl, arith, ap, sym, ◌∙◌}
use Rattle.std.specs.Option.{option_or}
use Rattle.std.specs.declared.ops.Bound.TheVariants.{Included, Excluded}
use Rattle.std.specs.BTreeMap.Range.{entries_between}
use Rattle.std.proofs.Math.ListN.{drop_of_length-le}
use Rattle.std.proofs.lemmas.Bool.Decides.{nat_tests}
use Rattle.sr_wire.specs.declared.registry.TheConstants.{ADDRESS_BITS}
use Rattle.sr_subtlv.specs.declared.adj_sid.AdjSid.{AdjSid}
use Rattle.sr_subtlv.specs.declared.prefix_sid.PrefixSid.{PrefixSid}
use Rattle.sr_lsp.specs.declared.lsp.LspId.{LspId}
use Rattle.sr_lsp.specs.declared.lsp.Lsp.{Lsp}
use Rattle.sr_lsp.specs.declared.reach.Reach.{Reach}
use Rattle.sr_lsp.specs.declared.prefix.Prefix.{Prefix}
use Rattle.sr_lsp.specs.declared.table.Part.{Part}
use Rattle.sr_lsp.specs.declared.table.Part.TheVariants as part
use Rattle.sr_lsdb.specs.declared.facts.Stored.{Stored}
use Rattle.sr_lsdb.specs.Order.{id_cmp}
use Rattle.sr_domain.specs.Announced.{first_id, parts_of}
use Rattle.sr_domain.specs.Nodes.{is_own, past_own}
use Rattle.sr_domain.proofs.NodesLemmas.{own-entries}
use Rattle.sr_account.specs.declared.choice.Offer.{Offer}
use Rattle.sr_account.specs.declared.choice.OwnPart.{OwnPart}
use Rattle.sr_account.specs.declared.choice.Saying.{Saying}
use Rattle.sr_account.specs.Items.{Item, PartPlace}
use Rattle.sr_account.specs.Items.Item.{OfPart, OfAdj, OfPrefix}
use Rattle.sr_account.specs.Steps.{adj_item, at_part, each_from, entry_items, first_saying, items_of_entries, least_offer, lesser_offer, index_offer, offer_of, own_part, part_items, prefix_item, says, sid_items}
use Rattle.sr_account.proofs.EachLemmas.{each-next, get-any}

pub lesser-none : (found : Option Offer) → lesser_offer found None ≡ found
lesser-none None = refl
lesser-none (Some offer) = refl

pub least-append : (found : Option Offer) (xs ys : List Item) → least_offer found (xs ++ ys) ≡ least_offer (least_offer found xs) ys
least-append found [] ys = refl
least-append found (x ∷ xs) ys = least-append (lesser_offer found (offer_of x)) xs ys

-- one more element of a loop
pub least-next : {X : Type 0} (give : ℕ → X → List Item) (i : ℕ) (xs : List X) (x : X) (found next : Option Offer) → i < length xs → get_or xs i x ≡ x → next ≡ least_offer found (give i x) → least_offer next (each_from give (i + 1) (drop (i + 1) xs)) ≡ least_offer found (each_from give i (drop i xs))
least-next give i xs x found next lt e f =
    ap (λ (o : Option Offer). least_offer o (each_from give (i + 1) (drop (i + 1) xs))) f
    ∙ sym (least-append found (give i x) (each_from give (i + 1) (drop (i + 1) xs)))
    ∙ sym (ap (least_offer found) (each-next give i xs i x lt e))

pub least-end : {X : Type 0} (give : ℕ → X → List Item) (i : ℕ) (xs : List X) (found : Option Offer) → length xs ≤ i → least_offer found (each_from give i (drop i xs)) ≡ found
least-end {X} give i xs found le = ap (λ (ys : List X). least_offer found (each_from give i ys)) (drop_of_length-le xs le)

pub least-host : (place : PartPlace) (prefix : Prefix) (k : ℕ) (sid : PrefixSid) → prefix.length ≡ ADDRESS_BITS → offer_of (OfPrefix place prefix k sid) ≡ index_offer place.id.fragment place.part k sid
least-host place prefix k sid host = ap (λ (n : ℕ). cond (n == ADDRESS_BITS) (index_offer place.id.fragment place.part k sid) None) host

-- one more SID of a prefix of full length
pub least-sid : (id : LspId) (at : ℕ) (prefix : Prefix) (k : ℕ) (xs : List PrefixSid) (d : PrefixSid) (found mid next : Option Offer) → prefix.length ≡ ADDRESS_BITS → k < length xs → next ≡ lesser_offer found mid → mid ≡ index_offer id.fragment at k (get_or xs k d) → least_offer next (each_from (prefix_item (at_part id at) prefix) (k + 1) (drop (k + 1) xs)) ≡ least_offer found (each_from (prefix_item (at_part id at) prefix) k (drop k xs))
least-sid id at prefix k xs d found mid next host lt e f =
    least-next (prefix_item (at_part id at) prefix) k xs (get_or xs k d) found next lt (get-any xs k (get_or xs k d) d lt)
    (e ∙ ap (lesser_offer found) (f ∙ sym (least-host (at_part id at) prefix k (get_or xs k d) host)))

-- one more LSP
parts-live : (stored : Stored) (shared : Lsp) (slice : List Part) → stored.live ≡ Some shared → slice ≡ shared.parts → slice ≡ parts_of stored.live
parts-live stored shared slice live e = e ∙ ap parts_of (sym live)

pub least-entry : (id : LspId) (stored : Stored) (shared : Lsp) (slice : List Part) (es rest : List (LspId × Stored)) (found next : Option Offer) → es ≡ (id, stored) ∷ rest → stored.live ≡ Some shared → slice ≡ shared.parts → next ≡ least_offer found (each_from (part_items id) 0 slice) → least_offer next (items_of_entries rest) ≡ least_offer found (items_of_entries es)
least-entry id stored shared slice es rest found next step live e f =
    ap (λ (o : Option Offer). least_offer o (items_of_entries rest)) (f ∙ ap (λ (ps : List Part). least_offer found (each_from (part_items id) 0 ps)) (parts-live stored shared slice live e))
    ∙ sym (least-append found (entry_items (id, stored)) (items_of_entries rest))
    ∙ ap (λ (l : List (LspId × Stored)). least_offer found (items_of_entries l)) (sym step)

-- what isn't a Prefix-SID of a prefix of full length offers nothing
least-adj : (found : Option Offer) (place : PartPlace) (reach : Reach) (n : ℕ) (sids : List AdjSid) → least_offer found (each_from (adj_item place reach) n sids) ≡ found
least-adj found place reach n [] = refl
least-adj found place reach n (sid ∷ sids) = ap (λ (o : Option Offer). least_offer o (each_from (adj_item place reach) (n + 1) sids)) (lesser-none found) ∙ least-adj found place reach (n + 1) sids

offer-not : (place : PartPlace) (prefix : Prefix) (k : ℕ) (sid : PrefixSid) → prefix.length ≢ ADDRESS_BITS → offer_of (OfPrefix place prefix k sid) ≡ None
offer-not place prefix k sid other = ap (λ (b : Bool). cond b (index_offer place.id.fragment place.part k sid) None) (apart prefix.length other)
  where
    apart : (n : ℕ) → n ≢ ADDRESS_BITS → (n == ADDRESS_BITS) ≡ false
    apart n h = grind (arith, nat_tests)

least-not : (found : Option Offer) (place : PartPlace) (prefix : Prefix) (n : ℕ) (sids : List PrefixSid) → prefix.length ≢ ADDRESS_BITS → least_offer found (each_from (prefix_item place prefix) n sids) ≡ found
least-not found place prefix n [] other = refl
least-not found place prefix n (sid ∷ sids) other =
    ap (λ (o : Option Offer). least_offer (lesser_offer found o) (each_from (prefix_item place prefix) (n + 1) sids)) (offer-not place prefix n sid other)
    ∙ ap (λ (o : Option Offer). least_offer o (each_from (prefix_item place prefix) (n + 1) sids)) (lesser-none found)
    ∙ least-not found place prefix (n + 1) sids other

pub least-sids : (found : Option Offer) (id : LspId) (at : ℕ) (said : Part) → least_offer found (part_items id at said) ≡ least_offer found (sid_items (at_part id at) said)
least-sids found id at said = ap (λ (o : Option Offer). least_offer o (sid_items (at_part id at) said)) (lesser-none found)

pub least-no_host : (found : Option Offer) (id : LspId) (at : ℕ) (prefix : Prefix) → prefix.length ≢ ADDRESS_BITS → found ≡ least_offer found (part_items id at (part.Prefix prefix))
least-no_host found id at prefix other = sym (least-sids found id at (part.Prefix prefix) ∙ least-not found (at_part id at) prefix 0 prefix.sids other)

pub least-other : (found : Option Offer) (id : LspId) (at : ℕ) (said : Part) → ((prefix : Prefix) → said ≡ part.Prefix prefix → ⊥) → found ≡ least_offer found (part_items id at said)
least-other found id at (part.Prefix prefix) not = absurd (not prefix refl)
least-other found id at (part.Reach reach) not = sym (least-sids found id at (part.Reach reach) ∙ least-adj found (at_part id at) reach 0 reach.adj)
least-other found id at (part.Name name) not = sym (lesser-none found)
least-other found id at (part.Risk risk) not = sym (lesser-none found)
least-other found id at (part.Capability capability) not = sym (lesser-none found)

-- the first part that says so
pub saying-append : (saying : Saying) (xs ys : List Item) → first_saying saying (xs ++ ys) ≡ option_or (first_saying saying xs) (first_saying saying ys)
saying-append saying [] ys = refl
saying-append saying (OfPart place said ∷ xs) ys = by (saying-append saying xs ys) (says saying said)
  where
    by : first_saying saying (xs ++ ys) ≡ option_or (first_saying saying xs) (first_saying saying ys) → (b : Bool) → option_or (cond b (Some (own_part place.id place.part)) None) (first_saying saying (xs ++ ys)) ≡ option_or (option_or (cond b (Some (own_part place.id place.part)) None) (first_saying saying xs)) (first_saying saying ys)
    by rest true = refl
    by rest false = rest
saying-append saying (OfAdj place reach k sid ∷ xs) ys = saying-append saying xs ys
saying-append saying (OfPrefix place prefix k sid ∷ xs) ys = saying-append saying xs ys

saying-adj : (saying : Saying) (place : PartPlace) (reach : Reach) (n : ℕ) (sids : List AdjSid) → first_saying saying (each_from (adj_item place reach) n sids) ≡ None
saying-adj saying place reach n [] = refl
saying-adj saying place reach n (sid ∷ sids) = saying-adj saying place reach (n + 1) sids

saying-prefix : (saying : Saying) (place : PartPlace) (prefix : Prefix) (n : ℕ) (sids : List PrefixSid) → first_saying saying (each_from (prefix_item place prefix) n sids) ≡ None
saying-prefix saying place prefix n [] = refl
saying-prefix saying place prefix n (sid ∷ sids) = saying-prefix saying place prefix (n + 1) sids

saying-sids : (saying : Saying) (place : PartPlace) (said : Part) → first_saying saying (sid_items place said) ≡ None
saying-sids saying place (part.Reach reach) = saying-adj saying place reach 0 reach.adj
saying-sids saying place (part.Prefix prefix) = saying-prefix saying place prefix 0 prefix.sids
saying-sids saying place _ = refl

or_none : (a : Option OwnPart) → option_or a None ≡ a
or_none None = refl
or_none (Some a) = refl

saying-part : (saying : Saying) (id : LspId) (at : ℕ) (said : Part) → first_saying saying (part_items id at said) ≡ cond (says saying said) (Some (own_part id at)) None
saying-part saying id at said =
    ap (λ (o : Option OwnPart). option_or (cond (says saying said) (Some (own_part id at)) None) o) (saying-sids saying (at_part id at) said)
    ∙ or_none (cond (says saying said) (Some (own_part id at)) None)

saying-next : (saying : Saying) (id : LspId) (i : ℕ) (xs : List Part) (x : Part) → i < length xs → get_or xs i x ≡ x → first_saying saying (each_from (part_items id) i (drop i xs)) ≡ option_or (cond (says saying x) (Some (own_part id i)) None) (first_saying saying (each_from (part_items id) (i + 1) (drop (i + 1) xs)))
saying-next saying id i xs x lt e =
    ap (first_saying saying) (each-next (part_items id) i xs i x lt e)
    ∙ saying-append saying (part_items id i x) (each_from (part_items id) (i + 1) (drop (i + 1) xs))
    ∙ ap (λ (o : Option OwnPart). option_or o (first_saying saying (each_from (part_items id) (i + 1) (drop (i + 1) xs)))) (saying-part saying id i x)

pub saying-found : (saying : Saying) (id : LspId) (i : ℕ) (xs : List Part) (x : Part) → i < length xs → get_or xs i x ≡ x → true ≡ says saying x → Some (own_part id i) ≡ first_saying saying (each_from (part_items id) i (drop i xs))
saying-found saying id i xs x lt e f = sym (saying-next saying id i xs x lt e ∙ ap (λ (b : Bool). option_or (cond b (Some (own_part id i)) None) (first_saying saying (each_from (part_items id) (i + 1) (drop (i + 1) xs)))) (sym f))

pub saying-passed : (saying : Saying) (id : LspId) (i : ℕ) (xs : List Part) (x : Part) → i < length xs → get_or xs i x ≡ x → false ≡ says saying x → first_saying saying (each_from (part_items id) (i + 1) (drop (i + 1) xs)) ≡ first_saying saying (each_from (part_items id) i (drop i xs))
saying-passed saying id i xs x lt e f = sym (saying-next saying id i xs x lt e ∙ ap (λ (b : Bool). option_or (cond b (Some (own_part id i)) None) (first_saying saying (each_from (part_items id) (i + 1) (drop (i + 1) xs)))) (sym f))

-- one more LSP
saying-entry : (saying : Saying) (id : LspId) (stored : Stored) (shared : Lsp) (slice : List Part) (es rest : List (LspId × Stored)) → es ≡ (id, stored) ∷ rest → stored.live ≡ Some shared → slice ≡ shared.parts → first_saying saying (items_of_entries es) ≡ option_or (first_saying saying (each_from (part_items id) 0 slice)) (first_saying saying (items_of_entries rest))
saying-entry saying id stored shared slice es rest step live e =
    ap (λ (l : List (LspId × Stored)). first_saying saying (items_of_entries l)) step
    ∙ saying-append saying (entry_items (id, stored)) (items_of_entries rest)
    ∙ ap (λ (ps : List Part). option_or (first_saying saying (each_from (part_items id) 0 ps)) (first_saying saying (items_of_entries rest))) (sym (parts-live stored shared slice live e))

pub saying-entry_found : (saying : Saying) (id : LspId) (stored : Stored) (shared : Lsp) (slice : List Part) (es rest : List (LspId × Stored)) (place : OwnPart) → es ≡ (id, stored) ∷ rest → stored.live ≡ Some shared → slice ≡ shared.parts → Some place ≡ first_saying saying (each_from (part_items id) 0 slice) → Some place ≡ first_saying saying (items_of_entries es)
saying-entry_found saying id stored shared slice es rest place step live e f =
    ap (λ (o : Option OwnPart). option_or o (first_saying saying (items_of_entries rest))) f ∙ sym (saying-entry saying id stored shared slice es rest step live e)

pub saying-entry_passed : (saying : Saying) (id : LspId) (stored : Stored) (shared : Lsp) (slice : List Part) (es rest : List (LspId × Stored)) → es ≡ (id, stored) ∷ rest → stored.live ≡ Some shared → slice ≡ shared.parts → None ≡ first_saying saying (each_from (part_items id) 0 slice) → first_saying saying (items_of_entries rest) ≡ first_saying saying (items_of_entries es)
saying-entry_passed saying id stored shared slice es rest step live e f =
    ap (λ (o : Option OwnPart). option_or o (first_saying saying (items_of_entries rest))) f ∙ sym (saying-entry saying id stored shared slice es rest step live e)

-- the items of the part of the database that a range gave
pub items-ranged : (n : ℕ) (ids : LspId × LspId) (es some : List (LspId × Stored)) → ids ≡ (first_id n, past_own n) → some ≡ entries_between id_cmp (Included ids.0) (Excluded ids.1) es → items_of_entries some ≡ items_of_entries (filter (λ (e : LspId × Stored). is_own n e.0) es)
items-ranged n ids es some e f =
    ap items_of_entries f
    ∙ ap (λ (i : LspId × LspId). items_of_entries (entries_between id_cmp (Included i.0) (Excluded i.1) es)) e
    ∙ ap items_of_entries (own-entries n es)
