-- Facts have one account: each item has one first reason, places ascend, and one entry alone gives a link.
use Rattle.std.proofs.Common.{◌≡◌, ℕ, zero, suc, ◌+◌, ◌<◌, ◌≤◌, ◌⊎◌, inl, inr, ⊎_elim, Bool, true, false, cond, filter, List, [], ◌∷◌, ◌++◌, length, get_or, refl, arith, ap, sym, ◌∙◌, subst, Option, Some, None}
use Rattle.std.specs.Prelude.{Contains, ◌==◌, count_by, slice_get}
use Rattle.std.specs.List.{cons_option, filter_map, flat_map}
use Rattle.std.specs.Ordering.{is_eq}
use Rattle.std.specs.declared.cmp.Ordering.TheVariants.{Less}
use Rattle.std.proofs.lemmas.Bool.{cases_eq, cases_order}
use Rattle.std.proofs.lemmas.Cmp.{tied_itself}
use Rattle.std.proofs.lemmas.List.{ext_get_or}
use Rattle.std.proofs.lemmas.List.Elements.{filter_map-append}
use Rattle.std.proofs.lemmas.List.Sums.{length-filter}
use Rattle.std.proofs.lemmas.Option.{none-some, same_Some, slice_get-get_or}
use Rattle.sr_model.specs.declared.name.LinkKey.{LinkKey}
use Rattle.sr_model.specs.declared.rule.DomainRule.TheVariants.{DuplicateLink}
use Rattle.sr_model.specs.Key.{mirror}
use Rattle.sr_model.specs.KeyOrder.{same_key}
use Rattle.sr_model.proofs.KeyOrderLemmas.{key_total}
use Rattle.sr_model.specs.Graph.{link_at}
use Rattle.sr_model.specs.Label.{Net}
use Rattle.sr_subtlv.specs.declared.adj_sid.AdjSid.{AdjSid}
use Rattle.sr_lsp.specs.declared.lsp.LspId.{LspId}
use Rattle.sr_lsp.specs.declared.reach.Reach.{Reach}
use Rattle.sr_lsp.specs.declared.table.Part.{Part}
use Rattle.sr_lsp.specs.declared.table.Part.TheVariants as part
use Rattle.sr_lsdb.specs.declared.facts.Stored.{Stored}
use Rattle.sr_lsdb.specs.declared.facts.Facts.{Facts}
use Rattle.sr_lsdb.specs.Order.{id_cmp}
use Rattle.sr_lsdb.proofs.OrderLemmas.{id_total}
use Rattle.sr_laws.proofs.Ascending.{AreAmong, ascending-one}
use Rattle.sr_lsdb.specs.declared.announcement.Announcement.{Announcement}
use Rattle.sr_domain.specs.declared.links.FoundLink.{FoundLink}
use Rattle.sr_lsdb.specs.Announcement.{announced_by, announcement_of}
use Rattle.sr_domain.specs.Announced.{announced_in, announcements_of, counts, is_announced, parts_of, two_way_of}
use Rattle.sr_domain.specs.Links.{link_by, link_of, links_of}
use Rattle.sr_domain.specs.Net.{IsNetOf}
use Rattle.sr_domain.proofs.MemberLemmas.{here, later, picked-to}
use Rattle.sr_account.specs.declared.aside.Aside.{Aside}
use Rattle.sr_account.specs.declared.aside.Place.{Place}
use Rattle.sr_account.specs.declared.aside.Reason.{Reason}
use Rattle.sr_account.specs.declared.aside.Reason.TheVariants.{Lan, Absent, Pseudonode, Itself, NeighbourAbsent, OneWay, Identity, MaximumMetric, Down, NotHost, NoSid, Silent, Algorithm, WrongForm, Flags, Backup, NotLeast, NotFirst, NoneUsed, NoGroups, NoLink, LinkUnused, HostName}
use Rattle.sr_account.specs.declared.sources.LinkSource.{LinkSource}
use Rattle.sr_account.specs.Items.{IsPartAt, Item, PartPlace, PlaceBefore, SidBefore}
use Rattle.sr_account.specs.Reasons.{AdjFails, IsFirstReason, IsUnhindered, reason_rank}
use Rattle.sr_account.specs.Asides.{AreAsides, IsTold, aside_of}
use Rattle.sr_account.specs.Sources.{AreFlagsOf, AreSources, IsSourceOf}
use Rattle.sr_account.specs.Filling.{no_source}
use Rattle.sr_account.proofs.SearchLaw.{Decided, at-place, flat-to, place-of}
use Rattle.sr_account.proofs.PlaceLaw.{before-itself, decided-id, entry-from, part-one}
use Rattle.sr_account.proofs.ReachUsed.{IsSoundEntry, entry-sound}
use Rattle.sr_account.proofs.AdjUsed.{label-there, sid-first, sid-least, sid-says}
use Rattle.sr_domain.proofs.MemberLemmas.{filtered-to}

-- ---- the first reason

-- the reason before which this many come
abbrev reason_at : ℕ → Reason
reason_at n = (cond (n == 0) Lan (cond (n == 1) Absent (cond (n == 2) Pseudonode (cond (n == 3) Itself (cond (n == 4) NeighbourAbsent (cond (n == 5) OneWay (cond (n == 6) Identity (cond (n == 7) MaximumMetric (cond (n == 8) Down (cond (n == 9) NotHost (cond (n == 10) NoSid (cond (n == 11) Silent (cond (n == 12) Algorithm (cond (n == 13) WrongForm (cond (n == 14) Flags (cond (n == 15) Backup (cond (n == 16) NotLeast (cond (n == 17) NotFirst (cond (n == 18) NoneUsed (cond (n == 19) NoGroups (cond (n == 20) NoLink (cond (n == 21) LinkUnused HostName))))))))))))))))))))))

rank-back : (r : Reason) → reason_at (reason_rank r) ≡ r
rank-back Lan = refl
rank-back Absent = refl
rank-back Pseudonode = refl
rank-back Itself = refl
rank-back NeighbourAbsent = refl
rank-back OneWay = refl
rank-back Identity = refl
rank-back MaximumMetric = refl
rank-back Down = refl
rank-back NotHost = refl
rank-back NoSid = refl
rank-back Silent = refl
rank-back Algorithm = refl
rank-back WrongForm = refl
rank-back Flags = refl
rank-back Backup = refl
rank-back NotLeast = refl
rank-back NotFirst = refl
rank-back NoneUsed = refl
rank-back NoGroups = refl
rank-back NoLink = refl
rank-back LinkUnused = refl
rank-back HostName = refl

rank-one : (r s : Reason) → reason_rank r ≡ reason_rank s → r ≡ s
rank-one r s e = sym (rank-back r) ∙ ap reason_at e ∙ rank-back s

-- an item has one first reason
pub reason-one : (facts : Facts) (item : Item) (r s : Reason) → IsFirstReason facts item r → IsFirstReason facts item s → r ≡ s
reason-one facts item r s one two = ⊎_elim
    (λ (same : reason_rank r ≡ reason_rank s). rank-one r s same)
    (λ (apart : (reason_rank r < reason_rank s) ⊎ (reason_rank s < reason_rank r)). ⊎_elim
    (λ (less : reason_rank r < reason_rank s). absurd (two.first r less one.holds))
    (λ (less : reason_rank s < reason_rank r). absurd (one.first s less two.holds))
    apart)
    (cases_order (reason_rank r) (reason_rank s))

-- ---- the order of places

sid-trans : (a b c : Option ℕ) → SidBefore a b → SidBefore b c → SidBefore a c
sid-trans None None c x y = absurd x
sid-trans None (Some j) None x y = absurd y
sid-trans None (Some j) (Some k) x y = tt
sid-trans (Some i) None c x y = absurd x
sid-trans (Some i) (Some j) None x y = absurd y
sid-trans (Some i) (Some j) (Some k) x y = omega arith

-- by part, then by SID
abbrev LaterPart : Place → Place → Type 0
LaterPart a b = (a.part < b.part) ⊎ ((a.part ≡ b.part) × SidBefore a.sid b.sid)

part-trans : (a b c : Place) → LaterPart a b → LaterPart b c → LaterPart a c
part-trans a b c (inl x) (inl y) = inl (omega arith)
part-trans a b c (inl x) (inr y) = let same : b.part ≡ c.part = y.0 in inl (omega arith)
part-trans a b c (inr x) (inl y) = let same : a.part ≡ b.part = x.0 in inl (omega arith)
part-trans a b c (inr x) (inr y) = inr (x.0 ∙ y.0, sid-trans a.sid b.sid c.sid x.1 y.1)

before-trans : (a b c : Place) → PlaceBefore a b → PlaceBefore b c → PlaceBefore a c
before-trans a b c (inl x) (inl y) = inl (id_total.trans a.id b.id c.id x y)
before-trans a b c (inl x) (inr y) = inl (subst (λ (i : LspId). id_cmp a.id i ≡ Less) y.0 x)
before-trans a b c (inr x) (inl y) = inl (subst (λ (i : LspId). id_cmp i c.id ≡ Less) (sym x.0) y)
before-trans a b c (inr x) (inr y) = inr (x.0 ∙ y.0, part-trans a b c x.1 y.1)

-- ---- one account

aside-among : (facts : Facts) (one two : List Aside) → AreAsides facts one → AreAsides facts two → AreAmong one two
aside-among facts one two a b k aside at =
    let line = a.each k aside at in
    ⊎_elim
    (λ (free : IsUnhindered facts line.item). absurd (free line.reason line.first.holds))
    (λ (told : IsTold facts two line.item). (told.line, told.told ∙ ap (λ (r : Reason). Some (aside_of line.item r)) (reason-one facts line.item told.reason line.reason told.first line.first) ∙ ap Some (sym line.is)))
    (b.all line.item line.is_item)

pub asides-one : (facts : Facts) (one two : List Aside) → AreAsides facts one → AreAsides facts two → one ≡ two
asides-one facts one two a b = ascending-one (λ (x y : Aside). PlaceBefore x.place y.place)
    (λ (x : Aside). before-itself x.place)
    (λ (x y z : Aside). before-trans x.place y.place z.place)
    one two a.ascending b.ascending (aside-among facts one two a b) (aside-among facts two one b a)

-- ---- two elements of a list

-- two places of the list have elements of which the fact holds
abbrev HasTwo : {X : Type 0} → (X → Type 0) → List X → Type 0
HasTwo P [] = ⊥
HasTwo P (x ∷ xs) = (P x × ((y : _) × Contains xs y × P y)) ⊎ HasTwo P xs

two-at : {X : Type 0} (P : X → Type 0) (xs : List X) (i j : ℕ) (x y : X) → i < j → slice_get xs i ≡ Some x → slice_get xs j ≡ Some y → P x → P y → HasTwo P xs
two-at P [] i j x y lt a b p q = absurd (none-some x a)
two-at P (z ∷ zs) i zero x y lt a b p q = absurd (omega arith)
two-at P (z ∷ zs) zero (suc j) x y lt a b p q = inl (subst P (sym (same_Some z x a)) p, (y, at-place zs j y b, q))
two-at P (z ∷ zs) (suc i) (suc j) x y lt a b p q = inr (two-at P zs i j x y (omega arith) a b p q)

-- what is made of such an element
abbrev IsMade : {X Y : Type 0} → (X → Option Y) → (Y → Type 0) → X → Type 0
IsMade {X} {Y} f P x = (y : Y) × (f x ≡ Some y) × P y

two-picked : {X Y : Type 0} (f : X → Option Y) (P : Y → Type 0) (xs : List X) → HasTwo (IsMade f P) xs → HasTwo P (filter_map f xs)
two-picked f P [] two = two
two-picked {X} {Y} f P (x ∷ xs) two = by (f x) refl (λ t. two-picked f P xs t) two
  where
    by : (o : Option Y) → f x ≡ o → (HasTwo (IsMade f P) xs → HasTwo P (filter_map f xs)) → HasTwo (IsMade f P) (x ∷ xs) → HasTwo P (cons_option o (filter_map f xs))
    by None e rest (inl now) = absurd (none-some now.0.0 (sym e ∙ now.0.1))
    by None e rest (inr later_on) = rest later_on
    by (Some y) e rest (inl now) =
        let same : y ≡ now.0.0 = same_Some y now.0.0 (sym e ∙ now.0.1) in
        let other = now.1 in
        inl (subst P (sym same) now.0.2, (other.2.0, picked-to f xs other.0 other.2.0 other.1 other.2.1, other.2.2))
    by (Some y) e rest (inr later_on) = inr (rest later_on)

two-filtered : {X : Type 0} (p : X → Bool) (P : X → Type 0) (xs : List X) → HasTwo (λ x. (p x ≡ true) × P x) xs → HasTwo P (filter p xs)
two-filtered p P [] two = two
two-filtered {X} p P (x ∷ xs) two = by (p x) refl (λ t. two-filtered p P xs t) two
  where
    by : (b : Bool) → p x ≡ b → (HasTwo (λ y. (p y ≡ true) × P y) xs → HasTwo P (filter p xs)) → HasTwo (λ y. (p y ≡ true) × P y) (x ∷ xs) → HasTwo P (cond b (x ∷ filter p xs) (filter p xs))
    by false e rest (inl now) = let bad : false ≡ true = sym e ∙ now.0.0 in absurd (cc)
    by false e rest (inr later_on) = rest later_on
    by true e rest (inl now) = inl (now.0.1, (now.1.0, filtered-to p xs now.1.0 now.1.1 now.1.2.0, now.1.2.1))
    by true e rest (inr later_on) = inr (rest later_on)

two-long : {X : Type 0} (P : X → Type 0) (xs : List X) → HasTwo P xs → 2 ≤ length xs
two-long P [] two = absurd two
two-long P (x ∷ []) (inl now) = let lt : now.1.1.0 < 0 = now.1.1.1 in absurd (omega arith)
two-long P (x ∷ []) (inr two) = absurd two
two-long P (x ∷ y ∷ xs) two = omega arith

-- ---- all parts that count, with their places

abbrev placed : LspId → ℕ → List Part → List (PartPlace × Part)
placed id k [] = []
placed id k (x ∷ parts) = (record { id = id; part = k }, x) ∷ placed id (suc k) parts

placed-to : (id : LspId) (k : ℕ) (parts : List Part) (j : ℕ) (x : Part) → slice_get parts j ≡ Some x → (n : ℕ) → n ≡ k + j → Contains (placed id k parts) (record { id = id; part = n }, x)
placed-to id k [] j x at n is = absurd (none-some x at)
placed-to id k (y ∷ parts) zero x at n is =
    let first : k ≡ n = omega arith in
    let same : y ≡ x = same_Some y x at in
    subst (λ (z : PartPlace × Part). Contains (placed id k (y ∷ parts)) z) (ap (λ (m : ℕ). let z : PartPlace × Part = (record { id = id; part = m }, y) in z) first ∙ ap (λ (w : Part). let z : PartPlace × Part = (record { id = id; part = n }, w) in z) same)
    (here (record { id = id; part = k }, y) (placed id (suc k) parts))
placed-to id k (y ∷ parts) (suc j) x at n is = later (record { id = id; part = k }, y) (placed id (suc k) parts) (record { id = id; part = n }, x) (placed-to id (suc k) parts j x at n (omega arith))

abbrev own_placed : Facts → LspId × Stored → List (PartPlace × Part)
own_placed facts entry = cond (counts facts entry.0) (placed entry.0 0 (parts_of entry.1.live)) []

-- what a part announces
abbrev said_by : PartPlace × Part → Option Announcement
said_by z = announced_by z.0.id.system z.1

placed-said : (id : LspId) (k : ℕ) (parts : List Part) → filter_map said_by (placed id k parts) ≡ filter_map (announced_by id.system) parts
placed-said id k [] = refl
placed-said id k (x ∷ parts) = ap (cons_option (announced_by id.system x)) (placed-said id (suc k) parts)

own-said : (facts : Facts) (entry : LspId × Stored) → filter_map said_by (own_placed facts entry) ≡ cond (counts facts entry.0) (filter_map (announced_by entry.0.system) (parts_of entry.1.live)) []
own-said facts entry = by (counts facts entry.0)
  where
    by : (b : Bool) → filter_map said_by (cond b (placed entry.0 0 (parts_of entry.1.live)) []) ≡ cond b (filter_map (announced_by entry.0.system) (parts_of entry.1.live)) []
    by true = placed-said entry.0 0 (parts_of entry.1.live)
    by false = refl

all-said : (facts : Facts) (es : List (LspId × Stored)) → filter_map said_by (flat_map (own_placed facts) es) ≡ announced_in facts es
all-said facts [] = refl
all-said facts (e ∷ es) =
    filter_map-append said_by (own_placed facts e) (flat_map (own_placed facts) es)
    ∙ ap (λ (xs : List Announcement). xs ++ filter_map said_by (flat_map (own_placed facts) es)) (own-said facts e)
    ∙ ap (λ (xs : List Announcement). cond (counts facts e.0) (filter_map (announced_by e.0.system) (parts_of e.1.live)) [] ++ xs) (all-said facts es)

placed-there : (facts : Facts) (place : PartPlace) (x : Part) → IsPartAt facts place x → counts facts place.id ≡ true → Contains (flat_map (own_placed facts) facts.database) (place, x)
placed-there facts place x at counted =
    let e = entry-from facts place x at in
    let parts : List Part = parts_of e.0.live in
    let own : Contains (own_placed facts (place.id, e.0)) (place, x) = subst (λ (b : Bool). Contains (cond b (placed place.id 0 parts) []) (place, x)) (sym counted) (placed-to place.id 0 parts place.part x e.2 place.part (omega arith)) in
    flat-to (own_placed facts) facts.database (place.id, e.0) (place, x) e.1 own

-- ---- one entry gives a link

module _ (facts : Facts) (net : Net) (is : IsNetOf facts net) (key : LinkKey) where
  -- the link has the key
  abbrev OfKey : FoundLink → Type 0
  OfKey link = (same_key key link.key ≡ true) × Unit {0}

  abbrev IsBoth : Announcement → Bool
  IsBoth a = is_announced (announcements_of facts) (mirror a.key)

  -- the part gives a link of the key
  abbrev GivesKey : PartPlace × Part → Type 0
  GivesKey = IsMade said_by (λ (a : Announcement). (IsBoth a ≡ true) × IsMade (link_by facts) OfKey a)

  gives-key : (place : PartPlace) (reach : Reach) (a : Announcement) → IsSoundEntry facts place reach a → a.key ≡ key → GivesKey (place, part.Reach reach)
  gives-key place reach a sound named = (a, sound.announces, (sound.both, (link_of facts a, ap (λ (b : Bool). cond b (Some (link_of facts a)) None) sound.used, (ap (same_key key) named ∙ ap is_eq (tied_itself key_total key), tt))))

  -- no two parts do
  never_two : HasTwo GivesKey (flat_map (own_placed facts) facts.database) → ⊥
  never_two two =
      let announced : HasTwo (λ (a : Announcement). (IsBoth a ≡ true) × IsMade (link_by facts) OfKey a) (announcements_of facts) = subst (λ (xs : List Announcement). HasTwo (λ (a : Announcement). (IsBoth a ≡ true) × IsMade (link_by facts) OfKey a) xs) (all-said facts facts.database) (two-picked said_by (λ (a : Announcement). (IsBoth a ≡ true) × IsMade (link_by facts) OfKey a) (flat_map (own_placed facts) facts.database) two) in
      let both : HasTwo (IsMade (link_by facts) OfKey) (two_way_of facts) = two-filtered IsBoth (IsMade (link_by facts) OfKey) (announcements_of facts) announced in
      let links : HasTwo OfKey (links_of facts) = two-picked (link_by facts) OfKey (two_way_of facts) both in
      let same : HasTwo (λ (link : FoundLink). Unit {0}) (filter (λ (link : FoundLink). same_key key link.key) (links_of facts)) = two-filtered (λ (link : FoundLink). same_key key link.key) (λ (link : FoundLink). Unit {0}) (links_of facts) links in
      let few : 2 ≤ length (filter (λ (link : FoundLink). same_key key link.key) (links_of facts)) = two-long (λ (link : FoundLink). Unit {0}) (filter (λ (link : FoundLink). same_key key link.key) (links_of facts)) same in
      let counted : length (filter (λ (link : FoundLink). same_key key link.key) (links_of facts)) ≡ count_by (λ (link : FoundLink). same_key key link.key) (links_of facts) = length-filter (λ (link : FoundLink). same_key key link.key) (links_of facts) in
      is.kept (DuplicateLink 0 0) (omega arith) key (subst (λ (n : ℕ). 2 ≤ n) counted few)

  decided-place : (p q : PartPlace) → Decided (p ≡ q)
  decided-place p q = by (decided-id p.id q.id) (cases_eq p.part q.part)
    where
      by : Decided (p.id ≡ q.id) → Decided (p.part ≡ q.part) → Decided (p ≡ q)
      by (inl a) (inl b) = inl (ap (λ (i : LspId). let z : PartPlace = record { id = i; part = p.part } in z) a ∙ ap (λ (k : ℕ). let z : PartPlace = record { id = q.id; part = k } in z) b)
      by (inl a) (inr differ) = inr (λ same. differ (ap (λ (z : PartPlace). z.part) same))
      by (inr differ) b = inr (λ same. differ (ap (λ (z : PartPlace). z.id) same))

  -- two sound entries of the key stand at one place
  place-one : (p q : PartPlace) (x y : Reach) (a b : Announcement) → IsPartAt facts p (part.Reach x) → IsPartAt facts q (part.Reach y) → IsSoundEntry facts p x a → IsSoundEntry facts q y b → a.key ≡ key → b.key ≡ key → p ≡ q
  place-one p q x y a b at there one two named too = ⊎_elim (λ (same : p ≡ q). same) (λ (differ : p ≡ q → ⊥). absurd (never_two (apart differ))) (decided-place p q)
    where
      apart : (p ≡ q → ⊥) → HasTwo GivesKey (flat_map (own_placed facts) facts.database)
      apart differ =
          let i = place-of (flat_map (own_placed facts) facts.database) (p, part.Reach x) (placed-there facts p (part.Reach x) at one.lsp) in
          let j = place-of (flat_map (own_placed facts) facts.database) (q, part.Reach y) (placed-there facts q (part.Reach y) there two.lsp) in
          ⊎_elim
          (λ (same : i.0 ≡ j.0).
          let element : Some (p, part.Reach x) ≡ Some (q, part.Reach y) = sym i.1 ∙ ap (slice_get (flat_map (own_placed facts) facts.database)) same ∙ j.1 in
          absurd (differ (ap (λ (z : PartPlace × Part). z.0) (same_Some (p, part.Reach x) (q, part.Reach y) element))))
          (λ (order : (i.0 < j.0) ⊎ (j.0 < i.0)). ⊎_elim
          (λ (less : i.0 < j.0). two-at GivesKey (flat_map (own_placed facts) facts.database) i.0 j.0 (p, part.Reach x) (q, part.Reach y) less i.1 j.1 (gives-key p x a one named) (gives-key q y b two too))
          (λ (less : j.0 < i.0). two-at GivesKey (flat_map (own_placed facts) facts.database) j.0 i.0 (q, part.Reach y) (p, part.Reach x) less j.1 i.1 (gives-key q y b two too) (gives-key p x a one named))
          order)
          (cases_order i.0 j.0)

-- ---- one source

module _ (sids : List AdjSid) (j k : ℕ) (one two : AdjSid) (at : slice_get sids j ≡ Some one) (there : slice_get sids k ≡ Some two) (free : (r : Reason) → AdjFails sids j one r → ⊥) (clear : (r : Reason) → AdjFails sids k two r → ⊥) where
  labels-same : (label-there sids j one at free).0 ≡ (label-there sids k two there clear).0
  labels-same = same_Some (label-there sids j one at free).0 (label-there sids k two there clear).0 (sym (sid-least sids j one at free) ∙ sid-least sids k two there clear)

  not_before : j < k → ⊥
  not_before less = sid-first sids k two there clear j one less at (sid-says sids j one at free ∙ ap Some labels-same)

-- the flags of the label of an entry
sid-one : (sids : List AdjSid) (j k : ℕ) (one two : AdjSid) → slice_get sids j ≡ Some one → slice_get sids k ≡ Some two → ((r : Reason) → AdjFails sids j one r → ⊥) → ((r : Reason) → AdjFails sids k two r → ⊥) → one ≡ two
sid-one sids j k one two at there free clear = ⊎_elim
    (λ (same : j ≡ k). same_Some one two (sym at ∙ ap (slice_get sids) same ∙ there))
    (λ (order : (j < k) ⊎ (k < j)). ⊎_elim
    (λ (less : j < k). absurd (not_before sids j k one two at there free clear less))
    (λ (less : k < j). absurd (not_before sids k j two one there at clear free less))
    order)
    (cases_order j k)

flags-one : (facts : Facts) (place : PartPlace) (reach : Reach) (a b : Option ℕ) → AreFlagsOf facts place reach a → AreFlagsOf facts place reach b → a ≡ b
flags-one facts place reach None None x y = refl
flags-one facts place reach None (Some flags) x y =
    let own = λ (r : Reason) (fails : AdjFails reach.adj y.0 y.1 r). y.3 r (inr (inr fails)) in
    absurd (none-some (label-there reach.adj y.0 y.1 y.2 own).0 (sym x ∙ sid-least reach.adj y.0 y.1 y.2 own))
flags-one facts place reach (Some flags) None x y =
    let own = λ (r : Reason) (fails : AdjFails reach.adj x.0 x.1 r). x.3 r (inr (inr fails)) in
    absurd (none-some (label-there reach.adj x.0 x.1 x.2 own).0 (sym y ∙ sid-least reach.adj x.0 x.1 x.2 own))
flags-one facts place reach (Some flags) (Some others) x y =
    let same : x.1 ≡ y.1 = sid-one reach.adj x.0 y.0 x.1 y.1 x.2 y.2 (λ r fails. x.3 r (inr (inr fails))) (λ r fails. y.3 r (inr (inr fails))) in
    ap Some (x.4 ∙ ap (λ (sid : AdjSid). sid.flags) same ∙ sym y.4)

source-one : (facts : Facts) (net : Net) → IsNetOf facts net → (l : ℕ) (s t : LinkSource) → IsSourceOf facts net l s → IsSourceOf facts net l t → s ≡ t
source-one facts net is l s t one two =
    let a : Announcement = announcement_of one.place.id.system one.reach in
    let b : Announcement = announcement_of two.place.id.system two.reach in
    let sound : IsSoundEntry facts one.place one.reach a = entry-sound facts one.place one.reach (λ r fails. one.used r (inl fails)) (λ r fails. one.used r (inr fails)) a refl in
    let firm : IsSoundEntry facts two.place two.reach b = entry-sound facts two.place two.reach (λ r fails. two.used r (inl fails)) (λ r fails. two.used r (inr fails)) b refl in
    let place : one.place ≡ two.place = place-one facts net is (link_at net.graph l).key one.place two.place one.reach two.reach a b one.at two.at sound firm (sym one.key) (sym two.key) in
    let said : part.Reach one.reach ≡ part.Reach two.reach = part-one facts one.place two.place (part.Reach one.reach) (part.Reach two.reach) one.at two.at place in
    let reach : one.reach ≡ two.reach = cc in
    let flags : AreFlagsOf facts two.place two.reach s.flags = subst (λ (r : Reach). AreFlagsOf facts two.place r s.flags) reach (subst (λ (p : PartPlace). AreFlagsOf facts p one.reach s.flags) place one.flags) in
    let metric : s.metric ≡ t.metric = one.metric ∙ ap (λ (r : Reach). r.metric) reach ∙ sym two.metric in
    ap (λ (m : ℕ). let z : LinkSource = record { metric = m; flags = s.flags } in z) metric
    ∙ ap (λ (f : Option ℕ). let z : LinkSource = record { metric = t.metric; flags = f } in z) (flags-one facts two.place two.reach s.flags t.flags flags two.flags)

pub sources-one : (facts : Facts) (net : Net) (one two : List LinkSource) → IsNetOf facts net → AreSources facts net one → AreSources facts net two → one ≡ two
sources-one facts net one two is a b = ext_get_or no_source one two (a.long ∙ sym b.long) (λ l lt.
    let same : length one ≡ length two = a.long ∙ sym b.long in
    let s : LinkSource = get_or one l no_source in
    let t : LinkSource = get_or two l no_source in
    source-one facts net is l s t (a.each l s (slice_get-get_or one l no_source lt)) (b.each l t (slice_get-get_or two l no_source (omega arith))))
