-- What is told of items in their order, and that it is what is told of the facts.
use Rattle.std.proofs.Common.{◌≡◌, ◌≢◌, ℕ, zero, suc, ◌+◌, ◌<◌, ◌≤◌, ◌⊎◌, inl, inr, ⊎_elim, List, [], ◌∷◌, ◌++◌, length, get_or, drop, Option, Some, None, Result, Ok, Err, refl, ap, sym, ◌∙◌, subst, arith, append_assoc}
use Rattle.std.specs.Prelude.{Contains, OnOk, slice_get}
use Rattle.std.specs.List.Sorted.{IsStrictlySortedBy}
use Rattle.std.specs.Map.{keys_of}
use Rattle.std.proofs.Math.ListN.{drop_of_length-le}
use Rattle.std.proofs.lemmas.List.{append-nil}
use Rattle.std.proofs.lemmas.Option.{slice_get_read}
use Rattle.sr_subtlv.specs.declared.adj_sid.AdjSid.{AdjSid}
use Rattle.sr_subtlv.specs.declared.prefix_sid.PrefixSid.{PrefixSid}
use Rattle.sr_lsp.specs.declared.lsp.LspId.{LspId}
use Rattle.sr_lsp.specs.declared.lsp.Lsp.{Lsp}
use Rattle.sr_lsp.specs.declared.reach.Reach.{Reach}
use Rattle.sr_lsp.specs.declared.prefix.Prefix.{Prefix}
use Rattle.sr_lsp.specs.declared.table.Part.{Part}
use Rattle.sr_lsp.specs.declared.table.Part.TheVariants as part
use Rattle.sr_lsdb.specs.declared.facts.Stored.{Stored}
use Rattle.sr_lsdb.specs.declared.facts.Facts.{Facts}
use Rattle.sr_lsdb.specs.Order.{id_cmp}
use Rattle.sr_domain.specs.Announced.{parts_of}
use Rattle.sr_domain.proofs.MemberLemmas.{here, later, cases, nowhere}
use Rattle.sr_account.specs.declared.aside.Place.{Place}
use Rattle.sr_account.specs.declared.aside.Aside.{Aside}
use Rattle.sr_account.specs.declared.aside.Reason.{Reason}
use Rattle.sr_account.specs.declared.aside.Reason.TheVariants.{Lan}
use Rattle.sr_account.specs.declared.aside.Matter.{Matter}
use Rattle.sr_account.specs.declared.aside.Matter.TheVariants as matter
use Rattle.sr_account.specs.declared.choice.Standing.{Standing}
use Rattle.sr_account.specs.declared.choice.Standing.TheVariants.{SetAside, Own}
use Rattle.sr_account.specs.Items.{Item, PartPlace, PlaceBefore, matter_of, matter_of_part, part_place, parts_in, parts_under, item_place, sid_place}
use Rattle.sr_account.specs.Items.Item.{OfPart, OfAdj, OfPrefix}
use Rattle.sr_account.specs.Reasons.{AdjFails, HoldsFor, IsFirstReason, IsUnhindered}
use Rattle.sr_account.specs.Asides.{AreAsides, IsTold, aside_of}
use Rattle.sr_account.specs.Steps.{AddsTold, AreTold, IsAdjReason, IsStanding, IsFoundReason, PartStands, adj_item, at_part, each_from, entry_items, items_of_entries, asides_for, part_items, prefix_item, sid_items}
use Rattle.sr_account.proofs.EachLemmas.{each-next, get-any}
use Rattle.sr_account.proofs.ItemLemmas.{Ascend, item-from, item-to, items-ascend, stored-there}
use Rattle.sr_account.proofs.ReasonLemmas.{adj-aside, adj-own}

pub told-append : (facts : Facts) (xs ys : List Item) (m n : List Aside) → AreTold facts xs m → AreTold facts ys n → AreTold facts (xs ++ ys) (m ++ n)
told-append facts [] ys m n e t = subst (λ (l : List Aside). AreTold facts ys (l ++ n)) (sym e) t
told-append facts (x ∷ xs) ys m n (inl h) t = inl (h.0, told-append facts xs ys m n h.1 t)
told-append facts (x ∷ xs) ys m n (inr h) t = inr (h.0, h.1 ++ n, h.2, ap (λ (l : List Aside). l ++ n) h.3, told-append facts xs ys h.1 n h.4 t)

-- what is told of one item
pub told-line : (facts : Facts) (item : Item) (reason : Option Reason) → IsFoundReason (HoldsFor facts item) reason → AreTold facts (item ∷ []) (asides_for (item_place item) (matter_of item) reason)
told-line facts item None none = inl (none, refl)
told-line facts item (Some reason) first = inr (reason, [], record { holds = first.holds; first = first.first }, refl, refl)

-- the same as what was appended
pub adds-line : (facts : Facts) (item : Item) (reason : Option Reason) (old new : List Aside) → IsFoundReason (HoldsFor facts item) reason → new ≡ old ++ asides_for (item_place item) (matter_of item) reason → AddsTold facts (item ∷ []) old new
adds-line facts item reason old new first e = record { told = asides_for (item_place item) (matter_of item) reason; are = told-line facts item reason first; appended = e }

pub adds-both : (facts : Facts) (xs ys : List Item) (old mid new : List Aside) → AddsTold facts xs old mid → AddsTold facts ys mid new → AddsTold facts (xs ++ ys) old new
adds-both facts xs ys old mid new a b = record {
  told = a.told ++ b.told;
  are = told-append facts xs ys a.told b.told a.are b.are;
  appended = b.appended ∙ ap (λ (l : List Aside). l ++ b.told) a.appended ∙ append_assoc old a.told b.told;
}

-- what is told of the rest of the elements, from a place on, makes up what is told of all
abbrev pub IsRestOf : {X : Type 0} → Facts → (ℕ → X → List Item) → ℕ → List X → List Aside → List Aside → Type 0
IsRestOf facts give i xs old now = (more : List Aside) → AreTold facts (each_from give i (drop i xs)) more → AddsTold facts (each_from give 0 xs) old (now ++ more)

pub rest-next : {X : Type 0} (facts : Facts) (give : ℕ → X → List Item) (i : ℕ) (xs : List X) (x : X) (old now next : List Aside) → i < length xs → get_or xs i x ≡ x → IsRestOf facts give i xs old now → AddsTold facts (give i x) now next → IsRestOf facts give (i + 1) xs old next
rest-next facts give i xs x old now next lt e rest adds more told =
    let all : AreTold facts (each_from give i (drop i xs)) (adds.told ++ more) =
    subst (λ (items : List Item). AreTold facts items (adds.told ++ more)) (sym (each-next give i xs i x lt e))
    (told-append facts (give i x) (each_from give (i + 1) (drop (i + 1) xs)) adds.told more adds.are told) in
    subst (λ (l : List Aside). AddsTold facts (each_from give 0 xs) old l)
    (sym (ap (λ (l : List Aside). l ++ more) adds.appended ∙ append_assoc now adds.told more))
    (rest (adds.told ++ more) all)

pub rest-end : {X : Type 0} (facts : Facts) (give : ℕ → X → List Item) (i : ℕ) (xs : List X) (old now : List Aside) → length xs ≤ i → IsRestOf facts give i xs old now → AddsTold facts (each_from give 0 xs) old now
rest-end facts give i xs old now le rest =
    subst (λ (l : List Aside). AddsTold facts (each_from give 0 xs) old l) (append-nil now)
    (rest [] (subst (λ (ys : List _). AreTold facts (each_from give i ys) []) (sym (drop_of_length-le xs le)) refl))

-- a line, by the item of which it is told
pub told-from : (facts : Facts) (items : List Item) (asides : List Aside) (n : ℕ) (aside : Aside) → AreTold facts items asides → slice_get asides n ≡ Some aside → (item : Item) × (reason : Reason) × Contains items item × IsFirstReason facts item reason × (aside ≡ aside_of item reason)
told-from facts [] asides n aside told e = absurd (let bad : slice_get [] n ≡ Some aside = ap (λ (l : List Aside). slice_get l n) (sym told) ∙ e in cc)
told-from facts (item ∷ items) asides n aside (inl h) e = let r = told-from facts items asides n aside h.1 e in (r.0, r.1, later item items r.0 r.2, r.3, r.4)
told-from facts (item ∷ items) asides n aside (inr h) e = by (λ k g. told-from facts items h.1 k aside h.4 g) n (ap (λ (l : List Aside). slice_get l n) (sym h.3) ∙ e)
  where
    by : ((k : ℕ) → slice_get h.1 k ≡ Some aside → (other : Item) × (reason : Reason) × Contains items other × IsFirstReason facts other reason × (aside ≡ aside_of other reason)) → (n : ℕ) → slice_get (aside_of item h.0 ∷ h.1) n ≡ Some aside → (other : Item) × (reason : Reason) × Contains (item ∷ items) other × IsFirstReason facts other reason × (aside ≡ aside_of other reason)
    by rest zero g = (item, h.0, here item items, h.2, let same : aside_of item h.0 ≡ aside = cc in sym same)
    by rest (suc k) g = let r = rest k g in (r.0, r.1, later item items r.0 r.2, r.3, r.4)

-- the lines ascend where the items do
told-ascend : (facts : Facts) (items : List Item) (asides : List Aside) (m n : ℕ) (a b : Aside) → Ascend items → AreTold facts items asides → m < n → slice_get asides m ≡ Some a → slice_get asides n ≡ Some b → PlaceBefore a.place b.place
told-ascend facts [] asides m n a b up told lt e f = absurd (let bad : slice_get [] n ≡ Some b = ap (λ (l : List Aside). slice_get l n) (sym told) ∙ f in cc)
told-ascend facts (item ∷ items) asides m n a b up (inl h) lt e f = told-ascend facts items asides m n a b up.1 h.1 lt e f
told-ascend facts (item ∷ items) asides m n a b up (inr h) lt e f = by (λ m n lt e f. told-ascend facts items h.1 m n a b up.1 h.4 lt e f) m n lt (ap (λ (l : List Aside). slice_get l m) (sym h.3) ∙ e) (ap (λ (l : List Aside). slice_get l n) (sym h.3) ∙ f)
  where
    by : ((m n : ℕ) → m < n → slice_get h.1 m ≡ Some a → slice_get h.1 n ≡ Some b → PlaceBefore a.place b.place) → (m n : ℕ) → m < n → slice_get (aside_of item h.0 ∷ h.1) m ≡ Some a → slice_get (aside_of item h.0 ∷ h.1) n ≡ Some b → PlaceBefore a.place b.place
    by rest m zero lt e f = absurd (omega arith)
    by rest zero (suc n) lt e f =
        let r = told-from facts items h.1 n b h.4 f in
        let first : aside_of item h.0 ≡ a = cc in
        subst (λ (p : Place). PlaceBefore p b.place) (ap (λ (x : Aside). x.place) first)
        (subst (λ (p : Place). PlaceBefore (item_place item) p) (ap (λ (x : Aside). x.place) (sym r.4)) (up.0 r.0 r.2))
    by rest (suc m) (suc n) lt e f = rest m n (omega arith) e f

-- of each item no reason holds, or it is told
told-all : (facts : Facts) (items : List Item) (asides : List Aside) (item : Item) → AreTold facts items asides → Contains items item → IsUnhindered facts item ⊎ IsTold facts asides item
told-all facts [] asides item told c = absurd (nowhere item c)
told-all facts (first ∷ items) asides item (inl h) c = ⊎_elim
    (λ (e : first ≡ item). inl (subst (λ (i : Item). IsUnhindered facts i) e h.0))
    (λ (rest : Contains items item). told-all facts items asides item h.1 rest)
    (cases first items item c)
told-all facts (first ∷ items) asides item (inr h) c = subst (λ (l : List Aside). IsUnhindered facts item ⊎ IsTold facts l item) (sym h.3) (⊎_elim
    (λ (e : first ≡ item). subst (λ (i : Item). IsUnhindered facts i ⊎ IsTold facts (aside_of first h.0 ∷ h.1) i) e (inr (record { reason = h.0; first = h.2; line = 0; told = refl })))
    (λ (rest : Contains items item). ⊎_elim
    (λ (u : IsUnhindered facts item). inl u)
    (λ (t : IsTold facts h.1 item). inr (record { reason = t.reason; first = t.first; line = suc t.line; told = t.told }))
    (told-all facts items h.1 item h.4 rest))
    (cases first items item c))

-- what is told of all items of the database is told of the facts
pub are-asides : (facts : Facts) (asides : List Aside) → IsStrictlySortedBy id_cmp (keys_of facts.database) → AreTold facts (items_of_entries facts.database) asides → AreAsides facts asides
are-asides facts asides up told = record {
  each = λ n aside e.
      let r = told-from facts (items_of_entries facts.database) asides n aside told e in
      record { item = r.0; is_item = item-from facts r.0 up r.2; reason = r.1; first = r.3; is = r.4 };
  ascending = λ m n a b lt e f. told-ascend facts (items_of_entries facts.database) asides m n a b (items-ascend facts.database up) told lt e f;
  all = λ item is. told-all facts (items_of_entries facts.database) asides item told (item-to facts item is);
}

-- the line of one more SID of an entry
pub adj-step : (facts : Facts) (id : LspId) (at : ℕ) (reach : Reach) (entry : Option Reason) (k : ℕ) (xs : List AdjSid) (d : AdjSid) (reason : Option Reason) (old now next : List Aside) → k < length xs → xs ≡ reach.adj → IsFoundReason (HoldsFor facts (OfPart (at_part id at) (part.Reach reach))) entry → IsAdjReason entry xs k (get_or xs k d) reason → next ≡ now ++ asides_for (sid_place (at_part id at) k) (matter.AdjSid (get_or xs k d).sid) reason → IsRestOf facts (adj_item (at_part id at) reach) k xs old now → IsRestOf facts (adj_item (at_part id at) reach) (k + 1) xs old next
adj-step facts id at reach entry k xs d reason old now next lt same verdict own pushed rest =
    rest-next facts (adj_item (at_part id at) reach) k xs (get_or xs k d) old now next lt (get-any xs k (get_or xs k d) d lt) rest
    (adds-line facts (OfAdj (at_part id at) reach k (get_or xs k d)) reason now next (by entry reason verdict own) pushed)
  where
    by : (entry reason : Option Reason) → IsFoundReason (HoldsFor facts (OfPart (at_part id at) (part.Reach reach))) entry → IsAdjReason entry xs k (get_or xs k d) reason → IsFoundReason (HoldsFor facts (OfAdj (at_part id at) reach k (get_or xs k d))) reason
    by None reason v o = adj-own facts (at_part id at) reach k (get_or xs k d) reason v (subst (λ (sids : List AdjSid). IsFoundReason (AdjFails sids k (get_or xs k d)) reason) same o)
    by (Some r) reason v o = subst (λ (q : Option Reason). IsFoundReason (HoldsFor facts (OfAdj (at_part id at) reach k (get_or xs k d))) q) (sym o) (adj-aside facts (at_part id at) reach k (get_or xs k d) r v)

-- the line of one more SID of a prefix
pub prefix-step : (facts : Facts) (id : LspId) (at : ℕ) (prefix : Prefix) (k : ℕ) (xs : List PrefixSid) (d : PrefixSid) (reason : Option Reason) (old now next : List Aside) → k < length xs → IsFoundReason (HoldsFor facts (OfPrefix (at_part id at) prefix k (get_or xs k d))) reason → next ≡ now ++ asides_for (sid_place (at_part id at) k) (matter.PrefixSid (get_or xs k d).sid) reason → IsRestOf facts (prefix_item (at_part id at) prefix) k xs old now → IsRestOf facts (prefix_item (at_part id at) prefix) (k + 1) xs old next
prefix-step facts id at prefix k xs d reason old now next lt verdict pushed rest =
    rest-next facts (prefix_item (at_part id at) prefix) k xs (get_or xs k d) old now next lt (get-any xs k (get_or xs k d) d lt) rest
    (adds-line facts (OfPrefix (at_part id at) prefix k (get_or xs k d)) reason now next verdict pushed)

-- a part, and then its SIDs
pub adds-part : (facts : Facts) (id : LspId) (at : ℕ) (said : Part) (reason : Option Reason) (old mid new : List Aside) → IsFoundReason (HoldsFor facts (OfPart (at_part id at) said)) reason → mid ≡ old ++ asides_for (part_place (at_part id at)) (matter_of_part said) reason → AddsTold facts (sid_items (at_part id at) said) mid new → AddsTold facts (part_items id at said) old new
adds-part facts id at said reason old mid new verdict pushed sids =
    adds-both facts (OfPart (at_part id at) said ∷ []) (sid_items (at_part id at) said) old mid new
    (adds-line facts (OfPart (at_part id at) said) reason old mid verdict pushed) sids

-- a part without SIDs
pub adds-none : (facts : Facts) (place : PartPlace) (said : Part) (old : List Aside) → ((reach : Reach) → said ≡ part.Reach reach → ⊥) → ((prefix : Prefix) → said ≡ part.Prefix prefix → ⊥) → AddsTold facts (sid_items place said) old old
adds-none facts place (part.Reach reach) old p q = absurd (p reach refl)
adds-none facts place (part.Prefix prefix) old p q = absurd (q prefix refl)
adds-none facts place _ old p q = record { told = []; are = refl; appended = sym (append-nil old) }

-- a part of extended IS reachability with its SIDs
pub adds-reach : (facts : Facts) (id : LspId) (at : ℕ) (said : Part) (reach : Reach) (reason : Option Reason) (what : Matter) (old mid new : List Aside) → said ≡ part.Reach reach → IsFoundReason (HoldsFor facts (OfPart (at_part id at) said)) reason → what ≡ matter_of_part said → mid ≡ old ++ asides_for (part_place (at_part id at)) what reason → (IsFoundReason (HoldsFor facts (OfPart (at_part id at) (part.Reach reach))) reason → AddsTold facts (each_from (adj_item (at_part id at) reach) 0 reach.adj) mid new) → AddsTold facts (part_items id at said) old new
adds-reach facts id at said reach reason what old mid new e verdict is_what pushed sids =
    adds-part facts id at said reason old mid new verdict
    (pushed ∙ ap (λ (m : Matter). old ++ asides_for (part_place (at_part id at)) m reason) is_what)
    (subst (λ (s : Part). AddsTold facts (sid_items (at_part id at) s) mid new) (sym e)
    (sids (subst (λ (s : Part). IsFoundReason (HoldsFor facts (OfPart (at_part id at) s)) reason) e verdict)))

-- a prefix with its SIDs
pub adds-prefix : (facts : Facts) (id : LspId) (at : ℕ) (said : Part) (prefix : Prefix) (standing : Standing) (reason : Option Reason) (what : Matter) (old mid new : List Aside) → said ≡ part.Prefix prefix → PartStands facts standing (at_part id at) said → IsFoundReason (HoldsFor facts (OfPart (at_part id at) said)) reason → what ≡ matter_of_part said → mid ≡ old ++ asides_for (part_place (at_part id at)) what reason → (PartStands facts standing (at_part id at) (part.Prefix prefix) → AddsTold facts (each_from (prefix_item (at_part id at) prefix) 0 prefix.sids) mid new) → AddsTold facts (part_items id at said) old new
adds-prefix facts id at said prefix standing reason what old mid new e stands verdict is_what pushed sids =
    adds-part facts id at said reason old mid new verdict
    (pushed ∙ ap (λ (m : Matter). old ++ asides_for (part_place (at_part id at)) m reason) is_what)
    (subst (λ (s : Part). AddsTold facts (sid_items (at_part id at) s) mid new) (sym e)
    (sids (subst (λ (s : Part). PartStands facts standing (at_part id at) s) e stands)))

-- any other part
pub adds-other : (facts : Facts) (id : LspId) (at : ℕ) (said : Part) (reason : Option Reason) (what : Matter) (old mid : List Aside) → ((reach : Reach) → said ≡ part.Reach reach → ⊥) → ((prefix : Prefix) → said ≡ part.Prefix prefix → ⊥) → IsFoundReason (HoldsFor facts (OfPart (at_part id at) said)) reason → what ≡ matter_of_part said → mid ≡ old ++ asides_for (part_place (at_part id at)) what reason → AddsTold facts (part_items id at said) old mid
adds-other facts id at said reason what old mid p q verdict is_what pushed =
    adds-part facts id at said reason old mid mid verdict
    (pushed ∙ ap (λ (m : Matter). old ++ asides_for (part_place (at_part id at)) m reason) is_what)
    (adds-none facts (at_part id at) said mid p q)

-- a part of an LSP of this standing
zero-from : (n : ℕ) → (n ≢ 0 → ⊥) → n ≡ 0
zero-from zero h = refl
zero-from (suc n) h = absurd (h (λ e. omega arith))

pub stands-at : (facts : Facts) (id : LspId) (standing : Standing) (at : ℕ) (said : Part) (parts : List Part) → IsStrictlySortedBy id_cmp (keys_of facts.database) → IsStanding facts id standing → parts ≡ parts_under facts id → at < length parts → said ≡ get_or parts at said → PartStands facts standing (at_part id at) said
stands-at facts id (SetAside reason) at said parts up stands e lt is = stands
stands-at facts id (Own choice) at said parts up stands e lt is = (
  stands.0,
  record {
    order = up;
    chosen = stands.1;
    real = zero-from id.pseudonode (λ other. stands.0 Lan other);
    at = ap (λ (ps : List Part). slice_get ps at) (sym e) ∙ slice_get_read parts (length parts) at said refl lt is;
  },
)

-- the parts of an LSP of the database
pub parts-there : (facts : Facts) (id : LspId) (stored : Stored) (shared : Lsp) (slice : List Part) → IsStrictlySortedBy id_cmp (keys_of facts.database) → Contains facts.database (id, stored) → stored.live ≡ Some shared → slice ≡ shared.parts → slice ≡ parts_under facts id
parts-there facts id stored shared slice up there live e =
    e ∙ ap parts_of (sym live) ∙ ap parts_in (sym (stored-there facts.database (id, stored) up there))

-- what is told of a live LSP is told of its parts
pub adds-live : (facts : Facts) (id : LspId) (stored : Stored) (shared : Lsp) (slice : List Part) (old new : List Aside) → stored.live ≡ Some shared → slice ≡ shared.parts → AddsTold facts (each_from (part_items id) 0 slice) old new → AddsTold facts (entry_items (id, stored)) old new
adds-live facts id stored shared slice old new live e adds =
    subst (λ (items : List Item). AddsTold facts items old new) (ap (each_from (part_items id) 0) (e ∙ ap parts_of (sym live))) adds

-- nothing is told of one that isn't live
pub adds-purged : (facts : Facts) (id : LspId) (stored : Stored) (old : List Aside) → stored.live ≡ None → AddsTold facts (entry_items (id, stored)) old old
adds-purged facts id stored old live =
    let none : [] ≡ entry_items (id, stored) = ap (λ (o : Option Lsp). each_from (part_items id) 0 (parts_of o)) (sym live) in
    subst (λ (items : List Item). AddsTold facts items old old) none (record { told = []; are = refl; appended = sym (append-nil old) })

pub within-first : (facts : Facts) (first : LspId × Stored) (es rest : List (LspId × Stored)) → ((entry : LspId × Stored) → Contains es entry → Contains facts.database entry) → es ≡ first ∷ rest → Contains facts.database first
within-first facts first es rest within step = within first (subst (λ (l : List (LspId × Stored)). Contains l first) (sym step) (here first rest))

pub within-next : (facts : Facts) (first : LspId × Stored) (es rest : List (LspId × Stored)) → ((entry : LspId × Stored) → Contains es entry → Contains facts.database entry) → es ≡ first ∷ rest → (entry : LspId × Stored) → Contains rest entry → Contains facts.database entry
within-next facts first es rest within step entry c = within entry (subst (λ (l : List (LspId × Stored)). Contains l entry) (sym step) (later first rest entry c))

-- what is told of the rest of the LSPs makes up what is told of all
abbrev pub IsRestOfAll : Facts → List (LspId × Stored) → List Aside → Type 0
IsRestOfAll facts es now = (more : List Aside) → AreTold facts (items_of_entries es) more → AreTold facts (items_of_entries facts.database) (now ++ more)

pub entry-next : (facts : Facts) (entry : LspId × Stored) (es rest : List (LspId × Stored)) (now told : List Aside) → es ≡ entry ∷ rest → AreTold facts (entry_items entry) told → IsRestOfAll facts es now → IsRestOfAll facts rest (now ++ told)
entry-next facts entry es rest now told step is all more of_rest =
    let both : AreTold facts (items_of_entries es) (told ++ more) =
    subst (λ (l : List (LspId × Stored)). AreTold facts (items_of_entries l) (told ++ more)) (sym step)
    (told-append facts (entry_items entry) (items_of_entries rest) told more is of_rest) in
    subst (λ (l : List Aside). AreTold facts (items_of_entries facts.database) l) (sym (append_assoc now told more)) (all (told ++ more) both)

pub account-next : (facts : Facts) (entry : LspId × Stored) (es rest : List (LspId × Stored)) (now next : List Aside) → es ≡ entry ∷ rest → AddsTold facts (entry_items entry) now next → IsRestOfAll facts es now → IsRestOfAll facts rest next
account-next facts entry es rest now next step adds all =
    subst (λ (l : List Aside). IsRestOfAll facts rest l) (sym adds.appended) (entry-next facts entry es rest now adds.told step adds.are all)

pub account-end : (facts : Facts) (es : List (LspId × Stored)) (now : List Aside) → es ≡ [] → IsRestOfAll facts es now → AreTold facts (items_of_entries facts.database) now
account-end facts es now e all =
    subst (λ (l : List Aside). AreTold facts (items_of_entries facts.database) l) (append-nil now)
    (all [] (subst (λ (l : List (LspId × Stored)). AreTold facts (items_of_entries l) []) (sym e) refl))

-- what a step adds, where it doesn't fail
pub on-ok : {X E : Type 0} (r : Result X E) (P Q : Type 0) → (P → Q) → OnOk r P → OnOk r Q
on-ok (Ok x) P Q f h = f h
on-ok (Err e) P Q f h = h
