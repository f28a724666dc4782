-- What is announced of links: the SID that gives a label, the entry that gives a link, and the table that they fill.
use Rattle.std.proofs.Common.{◌≡◌, ℕ, ◌+◌, ◌<◌, ◌≤◌, ◌⊎◌, inl, inr, ⊎_elim, Bool, true, false, not, List, [], ◌∷◌, length, get_or, set, refl, arith, ap, sym, ◌∙◌, subst, Option, Some, None}
use Rattle.std.specs.Prelude.{◌≢◌, Contains, MatchOption, ◌==◌, ◌&&◌, is_some, min, slice_get}
use Rattle.std.specs.Option.{option_eq, option_or}
use Rattle.std.proofs.lemmas.Bool.{and_parts, cases_eq, cases_lt, eqb-true, eqb-false, false≢true}
use Rattle.std.proofs.lemmas.List.{get_or-set_other, get_or-set_same, length-set}
use Rattle.std.proofs.lemmas.Option.{cond_some, get_or_from_slice_get, none-some, same_Some, slice_get-get_or, slice_get_within}
use Rattle.sr_model.specs.declared.name.LinkKey.{LinkKey}
use Rattle.sr_model.specs.Key.{mirror}
use Rattle.sr_model.specs.Graph.{Graph, IsNamed, link_count}
use Rattle.sr_model.specs.Label.{Net}
use Rattle.sr_laws.proofs.Keys.{key-one}
use Rattle.sr_subtlv.specs.declared.adj_sid.AdjSid.{AdjSid}
use Rattle.sr_lsp.specs.declared.lsp.LspId.{LspId}
use Rattle.sr_lsp.specs.declared.lsp.Lsp.{Lsp}
use Rattle.sr_lsp.specs.declared.reach.Reach.{Reach}
use Rattle.sr_lsp.specs.declared.table.Part.{Part}
use Rattle.sr_lsp.specs.declared.table.Part.TheVariants as part
use Rattle.sr_lsdb.specs.declared.facts.Stored.{Stored}
use Rattle.sr_lsdb.specs.declared.facts.Facts.{Facts}
use Rattle.sr_lsdb.specs.declared.announcement.Announcement.{Announcement}
use Rattle.sr_domain.specs.declared.links.FoundLink.{FoundLink}
use Rattle.sr_lsdb.specs.Announcement.{adj_label, adj_sid_label, adj_sid_labels, announcement_of, least, lesser}
use Rattle.sr_domain.specs.Announced.{announcements_of, counts, is_announced, is_present, parts_of}
use Rattle.sr_domain.specs.Links.{effective_metric, link_of}
use Rattle.sr_domain.specs.Net.{IsNetOf}
use Rattle.sr_domain.proofs.MemberLemmas.{cases, here, later, nowhere, picked-from}
use Rattle.sr_account.specs.declared.aside.Reason.{Reason}
use Rattle.sr_account.specs.declared.sources.LinkSource.{LinkSource}
use Rattle.sr_account.specs.Items.{IsPartAt, PartPlace, parts_in, parts_under}
use Rattle.sr_account.specs.Laws.{IsInOrder}
use Rattle.sr_account.specs.Reasons.{LspFails, ReachFails}
use Rattle.sr_account.specs.Sources.{AreFlagsOf, AreSources, IsSourceOf}
use Rattle.sr_account.specs.Used.{GivesLink, IsNodeOfLsp}
use Rattle.sr_account.specs.Filling.{AreCountedParts, AreFirstFlags, AreLabelFlags, GivesSource, IsEntryDone, IsFilled, IsFilledTo, IsPut, IsSaidBy, IsSaidOf, IsWalkedTo, NoSidGives, no_source, source_at}
use Rattle.sr_account.proofs.SearchLaw.{place-of}
use Rattle.sr_account.proofs.PlaceLaw.{entry-from, stored-there}
use Rattle.sr_account.proofs.LinkLaw.{announced-from, announced-to, counted, found-to, link-from, link-to, node-to}
use Rattle.sr_account.proofs.ReachUsed.{lsp-free, reach-free}
use Rattle.sr_account.proofs.AdjUsed.{has_clear, sid-free}

-- ---- the first SID that gives a label

-- no SID before place i gives the label
abbrev pub NoneGives : Bool → ℕ → List AdjSid → ℕ → Type 0
NoneGives backup label sids i = (j : ℕ) (other : AdjSid) → j < i → slice_get sids j ≡ Some other → adj_sid_label backup other ≢ Some label

some-eq : (o : Option ℕ) (n : ℕ) → option_eq ◌==◌ o (Some n) ≡ true → o ≡ Some n
some-eq None n e = absurd (false≢true e)
some-eq (Some m) n e = ap Some (eqb-true m n e)

some-ne : (o : Option ℕ) (n : ℕ) → option_eq ◌==◌ o (Some n) ≡ false → o ≢ Some n
some-ne None n e same = none-some n same
some-ne (Some m) n e same = eqb-false m n e (same_Some m n same)

pub first-there : (backup : Bool) (label : ℕ) (sids : List AdjSid) (k : ℕ) (d : AdjSid) (given : Option ℕ) → k < length sids → given ≡ adj_sid_label backup (get_or sids k d) → option_eq ◌==◌ given (Some label) ≡ true → NoneGives backup label sids k → AreFirstFlags backup label sids (get_or sids k d).flags
first-there backup label sids k d given within is same none = (
  k,
  get_or sids k d,
  record { among = slice_get-get_or sids k d within; gives = sym is ∙ some-eq given label same; first = none },
  refl,
)

pub first-more : (backup : Bool) (label : ℕ) (sids : List AdjSid) (i : ℕ) (d : AdjSid) (given : Option ℕ) → given ≡ adj_sid_label backup (get_or sids i d) → option_eq ◌==◌ given (Some label) ≡ false → NoneGives backup label sids i → NoneGives backup label sids (i + 1)
first-more backup label sids i d given is differ none = λ j other lt at says. ⊎_elim
    (λ (before : j < i). none j other before at says)
    (λ (after : i ≤ j).
    let same : j ≡ i = omega arith in
    let other_is : get_or sids i d ≡ other = get_or_from_slice_get sids i other d (ap (slice_get sids) (sym same) ∙ at) in
    some-ne given label differ (is ∙ ap (adj_sid_label backup) other_is ∙ says))
    (cases_lt j i)

pub first-none : (backup : Bool) (label : ℕ) (sids : List AdjSid) (i : ℕ) → length sids ≤ i → NoneGives backup label sids i → NoSidGives backup label sids
first-none backup label sids i all none = λ k sid at says. none k sid (let lt : k < length sids = slice_get_within sids k sid at in omega arith) at says

-- ---- the SID that gives the adjacency label

least-has : (xs : List ℕ) (m : ℕ) → least xs ≡ Some m → Contains xs m
least-has [] m e = absurd (none-some m e)
least-has (x ∷ xs) m e = by (least xs) refl (λ n h. least-has xs n h) e
  where
    low : (y : ℕ) → Contains xs y → min y x ≡ m → Contains (x ∷ xs) m
    low y c is = ⊎_elim
        (λ (less : y < x). let same : y ≡ m = omega arith in later x xs m (subst (λ (n : ℕ). Contains xs n) same c))
        (λ (more : x ≤ y). let same : x ≡ m = omega arith in subst (λ (n : ℕ). Contains (x ∷ xs) n) same (here x xs))
        (cases_lt y x)

    by : (o : Option ℕ) → least xs ≡ o → ((n : ℕ) → least xs ≡ Some n → Contains xs n) → lesser o x ≡ Some m → Contains (x ∷ xs) m
    by None is rest h = subst (λ (n : ℕ). Contains (x ∷ xs) n) (same_Some x m h) (here x xs)
    by (Some y) is rest h = low y (rest y is) (same_Some (min y x) m h)

counting-least : (sids : List AdjSid) → least (adj_sid_labels (not (has_clear sids)) sids) ≡ adj_label sids
counting-least sids = by (least (adj_sid_labels false sids)) refl
  where
    by : (o : Option ℕ) → least (adj_sid_labels false sids) ≡ o → least (adj_sid_labels (not (is_some o)) sids) ≡ option_or o (least (adj_sid_labels true sids))
    by None e = refl
    by (Some x) e = e

pub flags-told : (sids : List AdjSid) (backup : Bool) (label : ℕ) (found : Option ℕ) → backup ≡ not (has_clear sids) → least (adj_sid_labels backup sids) ≡ Some label → MatchOption found (NoSidGives backup label sids) (AreFirstFlags backup label sids) → AreLabelFlags sids found
flags-told sids backup label None is some none =
    let r = picked-from (adj_sid_label backup) sids label (least-has (adj_sid_labels backup sids) label some) in
    let at = place-of sids r.0 r.1 in
    absurd (none at.0 r.0 at.1 r.2)
flags-told sids backup label (Some flags) is some there =
    let first = there.2 in
    let own : adj_label sids ≡ Some label = sym (counting-least sids) ∙ ap (λ (b : Bool). least (adj_sid_labels b sids)) (sym is) ∙ some in (
      there.0,
      there.1,
      first.among,
      sid-free sids there.0 there.1 label own (ap (λ (b : Bool). adj_sid_label b there.1) (sym is) ∙ first.gives) (λ j other lt at says. first.first j other lt at (ap (λ (b : Bool). adj_sid_label b other) is ∙ says)),
      there.3,
    )

-- ---- the entry that gives a link

-- flags of the entry's own SIDs
flags-used : (facts : Facts) (place : PartPlace) (reach : Reach) (flags : Option ℕ) → ((r : Reason) → LspFails facts place.id r → ⊥) → ((r : Reason) → ReachFails facts place.id.system reach r → ⊥) → AreLabelFlags reach.adj flags → AreFlagsOf facts place reach flags
flags-used facts place reach None clear free none = none
flags-used facts place reach (Some flags) clear free there = (there.0, there.1, there.2, λ r. ⊎_elim (clear r) (⊎_elim (free r) (there.3 r)), there.4)

module _ (facts : Facts) (net : Net) (is : IsNetOf facts net) (up : IsInOrder facts) (place : PartPlace) (real : place.id.pseudonode ≡ 0) (present : is_present facts place.id.system ≡ true) (reach : Reach) (at : IsPartAt facts place (part.Reach reach)) (l : ℕ) (gives : GivesSource facts net.graph place.id.system (part.Reach reach) l) where
  a_is : announcement_of place.id.system reach ≡ gives.announcement
  a_is = (cond_some ((reach.pseudonode == 0) && not (reach.neighbour == place.id.system)) (announcement_of place.id.system reach) gives.announcement gives.announced).1

  reach_real : reach.pseudonode ≡ 0
  reach_real = eqb-true reach.pseudonode 0 (and_parts (reach.pseudonode == 0) (not (reach.neighbour == place.id.system)) (cond_some ((reach.pseudonode == 0) && not (reach.neighbour == place.id.system)) (announcement_of place.id.system reach) gives.announcement gives.announced).0).0

  there : Contains (announcements_of facts) gives.announcement
  there = announced-to facts place (part.Reach reach) gives.announcement at (counted facts place.id real present) gives.announced

  both : is_announced (announcements_of facts) (mirror gives.announcement.key) ≡ true
  both =
      let found = link-from facts net is l gives.within in
      let key : found.a.key ≡ gives.announcement.key = ap (λ (x : FoundLink). x.key) found.is ∙ gives.key in
      ap (λ (k : LinkKey). is_announced (announcements_of facts) (mirror k)) (sym key) ∙ found.both

  node : (v : ℕ) × IsNodeOfLsp net place.id v
  node = let v = node-to facts net is place.id.system present in (v.0, record { real = real; within = v.1; system = v.2 })

  given : (m : ℕ) × GivesLink facts net place.id reach m
  given =
      let m = link-to facts net is (link_of facts gives.announcement) (found-to facts gives.announcement there both gives.used) in (
        m.0,
        record {
          node = node.0;
          of_node = node.1;
          real = reach_real;
          within = m.1;
          key = ap (λ (x : FoundLink). x.key) (sym m.2) ∙ ap (λ (b : Announcement). b.key) (sym a_is);
          metric_is = ap (λ (x : FoundLink). x.metric) (sym m.2) ∙ ap (effective_metric facts) (sym a_is);
        },
      )

  source-made : (source : LinkSource) → IsSaidOf reach source → IsSourceOf facts net l source
  source-made source said =
      let clear = lsp-free facts net up is place.id node.0 node.1 in
      let free = reach-free facts net up is place.id reach given.0 given.1 in
      record {
        place = place;
        reach = reach;
        at = at;
        used = λ r. ⊎_elim (clear r) (free r);
        key = gives.key ∙ ap (λ (b : Announcement). b.key) (sym a_is);
        metric = said.metric;
        flags = flags-used facts place reach source.flags clear free said.flags;
      }

-- what a part of an LSP that counts announces of its link
source-used : (facts : Facts) (net : Net) → IsNetOf facts net → IsInOrder facts → (id : LspId) → counts facts id ≡ true → (k : ℕ) (said : Part) (l : ℕ) (source : LinkSource) → slice_get (parts_under facts id) k ≡ Some said → GivesSource facts net.graph id.system said l → IsSaidBy said source → IsSourceOf facts net l source
source-used facts net is up id counted k said l source at gives says =
    let lsp = and_parts (id.pseudonode == 0) (is_present facts id.system) counted in
    source-made facts net is up (record { id = id; part = k }) (eqb-true id.pseudonode 0 lsp.0) lsp.1 says.0
    (at ∙ ap Some says.1)
    l
    (subst (λ (x : Part). GivesSource facts net.graph id.system x l) says.1 gives)
    source
    says.2

-- ---- the table

-- the slot of the link that the part gives is written
pub put-given : (facts : Facts) (graph : Graph) (node : ℕ) (said : Part) (l : ℕ) (sources : List LinkSource) (source : LinkSource) → IsNamed graph → length sources ≡ link_count graph → GivesSource facts graph node said l → IsSaidBy said source → IsPut facts graph node said sources (set sources l source)
put-given facts graph node said l sources source named long gives says = record {
  long = length-set sources l source;
  each = λ m. ⊎_elim
      (λ (same : m ≡ l).
      let within : l < length sources = (let lt : l < link_count graph = gives.within in omega arith) in
      let at : source_at (set sources l source) m ≡ source = ap (source_at (set sources l source)) same ∙ get_or-set_same sources l source no_source within in
      inl (subst (λ (n : ℕ). GivesSource facts graph node said n) (sym same) gives, (says.0, says.1, subst (λ (s : LinkSource). IsSaidOf says.0 s) (sym at) says.2)))
      (λ (differ : m ≢ l). inr (
        λ other. differ (one m other),
        get_or-set_other sources l m source no_source differ,
      ))
      (cases_eq m l);
}
  where
    one : (m : ℕ) → GivesSource facts graph node said m → m ≡ l
    one m other =
        let same : other.announcement ≡ gives.announcement = same_Some other.announcement gives.announcement (sym other.announced ∙ gives.announced) in
        key-one graph named m l other.within gives.within (other.key ∙ ap (λ (a : Announcement). a.key) same ∙ sym gives.key)

pub filled-none : (facts : Facts) (net : Net) (id : LspId) (sources : List LinkSource) → IsFilledTo facts net id 0 sources sources
filled-none facts net id sources = record { long = refl; kept = λ l filled. filled; each = λ k said l lt at gives. absurd (omega arith) }

pub filled-less : (facts : Facts) (net : Net) (id : LspId) (m n : ℕ) (old new : List LinkSource) → m ≤ n → IsFilledTo facts net id n old new → IsFilledTo facts net id m old new
filled-less facts net id m n old new le filled = record { long = filled.long; kept = filled.kept; each = λ k said l lt at gives. filled.each k said l (omega arith) at gives }

-- one more part
pub filled-more : (facts : Facts) (net : Net) → IsNetOf facts net → IsInOrder facts → (id : LspId) (parts : List Part) → AreCountedParts facts id parts → (i : ℕ) (said : Part) (old mid new : List LinkSource) → i < length parts → said ≡ get_or parts i said → IsFilledTo facts net id i old mid → IsPut facts net.graph id.system said mid new → IsFilledTo facts net id (i + 1) old new
filled-more facts net is up id parts are i said old mid new within said_is so_far put = record {
  long = put.long ∙ so_far.long;
  kept = λ l filled. stays l (so_far.kept l filled);
  each = λ k other l lt at gives. ⊎_elim
      (λ (before : k < i). stays l (so_far.each k other l before at gives))
      (λ (after : i ≤ k).
      let same : k ≡ i = omega arith in
      let both : Some other ≡ Some said = sym at ∙ ap (slice_get (parts_under facts id)) same ∙ stands in
      fresh l (subst (λ (x : Part). GivesSource facts net.graph id.system x l) (same_Some other said both) gives))
      (cases_lt k i);
}
  where
    stands : slice_get (parts_under facts id) i ≡ Some said
    stands = ap (λ (xs : List Part). slice_get xs i) are.stand ∙ slice_get-get_or parts i said within ∙ ap Some (sym said_is)

    written : (l : ℕ) → GivesSource facts net.graph id.system said l → IsSaidBy said (source_at new l) → IsFilled facts net new l
    written l gives says = source-used facts net is up id are.counted i said l (source_at new l) stands gives says

    stays : (l : ℕ) → IsFilled facts net mid l → IsFilled facts net new l
    stays l filled = ⊎_elim
        (λ (now : GivesSource facts net.graph id.system said l × IsSaidBy said (source_at new l)). written l now.0 now.1)
        (λ (kept : (GivesSource facts net.graph id.system said l → ⊥) × (source_at new l ≡ source_at mid l)). subst (IsSourceOf facts net l) (sym kept.1) filled)
        (put.each l)

    fresh : (l : ℕ) → GivesSource facts net.graph id.system said l → IsFilled facts net new l
    fresh l gives = ⊎_elim
        (λ (now : GivesSource facts net.graph id.system said l × IsSaidBy said (source_at new l)). written l now.0 now.1)
        (λ (kept : (GivesSource facts net.graph id.system said l → ⊥) × (source_at new l ≡ source_at mid l)). absurd (kept.0 gives))
        (put.each l)

-- ---- the walk

-- before the first entry
pub walked-none : (facts : Facts) (net : Net) (sources : List LinkSource) → length sources ≡ link_count net.graph → IsWalkedTo facts net facts.database sources
walked-none facts net sources long = record { long = long; among = λ entry there. there; each = λ entry there. inl there }

-- the parts of an entry of the database
pub parts-counted : (facts : Facts) → IsInOrder facts → (entry : LspId × Stored) (lsp : Lsp) (parts : List Part) → Contains facts.database entry → entry.0.pseudonode ≡ 0 → is_present facts entry.0.system ≡ true → entry.1.live ≡ Some lsp → parts ≡ lsp.parts → AreCountedParts facts entry.0 parts
parts-counted facts up entry lsp parts there real present live same = record {
  counted = counted facts entry.0 real present;
  stand = ap parts_in (stored-there facts up entry there) ∙ ap parts_of live ∙ sym same;
}

-- the next entry stands in the database
pub next-there : (facts : Facts) (net : Net) (entry : LspId × Stored) (left rest : List (LspId × Stored)) (sources : List LinkSource) → left ≡ entry ∷ rest → IsWalkedTo facts net left sources → Contains facts.database entry
next-there facts net entry left rest sources is so_far = so_far.among entry (subst (λ (xs : List (LspId × Stored)). Contains xs entry) (sym is) (here entry rest))

-- an entry that isn't live, or doesn't count, gives no link
pub silent-done : (facts : Facts) (net : Net) (entry : LspId × Stored) (sources : List LinkSource) → entry.1.live ≡ None → IsEntryDone facts net sources entry
silent-done facts net entry sources silent = λ k said l counted at gives. absurd (none-some said (ap (λ (o : Option Lsp). slice_get (parts_of o) k) (sym silent) ∙ at))

pub absent-done : (facts : Facts) (net : Net) (entry : LspId × Stored) (sources : List LinkSource) → is_present facts entry.0.system ≡ false → IsEntryDone facts net sources entry
absent-done facts net entry sources absent = λ k said l counted at gives. absurd (false≢true (sym absent ∙ (and_parts (entry.0.pseudonode == 0) (is_present facts entry.0.system) counted).1))

pub unreal-done : (facts : Facts) (net : Net) (entry : LspId × Stored) (sources : List LinkSource) → entry.0.pseudonode ≢ 0 → IsEntryDone facts net sources entry
unreal-done facts net entry sources unreal = λ k said l counted at gives. absurd (unreal (eqb-true entry.0.pseudonode 0 (and_parts (entry.0.pseudonode == 0) (is_present facts entry.0.system) counted).0))

-- the next entry is done
pub walked-more : (facts : Facts) (net : Net) (entry : LspId × Stored) (rest : List (LspId × Stored)) (old new : List LinkSource) → length new ≡ length old → ((l : ℕ) → IsFilled facts net old l → IsFilled facts net new l) → IsEntryDone facts net new entry → IsWalkedTo facts net (entry ∷ rest) old → IsWalkedTo facts net rest new
walked-more facts net entry rest old new long kept done so_far = record {
  long = long ∙ so_far.long;
  among = λ e there. so_far.among e (later entry rest e there);
  each = λ e there. by e (so_far.each e there);
}
  where
    by : (e : LspId × Stored) → Contains (entry ∷ rest) e ⊎ IsEntryDone facts net old e → Contains rest e ⊎ IsEntryDone facts net new e
    by e (inr before) = inr (λ k said l counted at gives. kept l (before k said l counted at gives))
    by e (inl there) = ⊎_elim
        (λ (same : entry ≡ e). inr (subst (IsEntryDone facts net new) same done))
        (λ (later_on : Contains rest e). inl later_on)
        (cases entry rest e there)

pub entry-filled : (facts : Facts) (net : Net) → IsInOrder facts → (entry : LspId × Stored) (count : ℕ) (old new : List LinkSource) → Contains facts.database entry → length (parts_of entry.1.live) ≤ count → IsFilledTo facts net entry.0 count old new → IsEntryDone facts net new entry
entry-filled facts net up entry count old new there all filled = λ k said l counted at gives.
    let lt : k < length (parts_of entry.1.live) = slice_get_within (parts_of entry.1.live) k said at in
    filled.each k said l (omega arith) (ap (λ (o : Option Stored). slice_get (parts_in o) k) (stored-there facts up entry there) ∙ at) gives

-- after the last entry each slot is filled: each link has an entry that gives it
pub walked-all : (facts : Facts) (net : Net) (sources : List LinkSource) → IsInOrder facts → IsNetOf facts net → IsWalkedTo facts net [] sources → AreSources facts net sources
walked-all facts net sources up is so_far = record {
  long = so_far.long;
  each = λ l source at. subst (IsSourceOf facts net l) (get_or_from_slice_get sources l source no_source at) (filled l (let lt : l < length sources = slice_get_within sources l source at in omega (arith, so_far.long)));
}
  where
    done : (entry : LspId × Stored) → Contains facts.database entry → IsEntryDone facts net sources entry
    done entry there = ⊎_elim (λ (never : Contains [] entry). absurd (nowhere entry never)) (λ (d : IsEntryDone facts net sources entry). d) (so_far.each entry there)

    filled : (l : ℕ) → l < link_count net.graph → IsFilled facts net sources l
    filled l within =
        let found = link-from facts net is l within in
        let at = announced-from facts up found.a found.there in
        let e = entry-from facts at.place at.said at.at in
        done (at.place.id, e.0) e.1 at.place.part at.said l (counted facts at.place.id at.real at.present) e.2
        (record { announcement = found.a; announced = at.announces; used = found.used; within = within; key = sym (ap (λ (x : FoundLink). x.key) found.is) })
