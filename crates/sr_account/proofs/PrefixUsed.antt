-- A Prefix-SID gives its node the index exactly where no reason holds of it and of its LSP, and a prefix where one of its
-- SIDs does: the index is the least that the node's own LSPs give.
use Rattle.std.proofs.Common.{◌≡◌, ℕ, ◌<◌, ◌≤◌, ◌⊎◌, inl, inr, ⊎_elim, Bool, true, false, cond, List, [], refl, arith, ap, sym, ◌∙◌, subst, Option, Some, None}
use Rattle.std.specs.Prelude.{Contains, MatchOption, ◌==◌, slice_get}
use Rattle.std.specs.List.{flat_map}
use Rattle.std.proofs.lemmas.Bool.{and_from, cases_eq, cases_lt, eq-eqb, eqb-true, false≢true}
use Rattle.std.proofs.lemmas.Option.{cond_some, none-some, same_Some}
use Rattle.sr_model.specs.Label.{Labels, Net}
use Rattle.sr_wire.specs.declared.registry.TheConstants.{ADDRESS_BITS}
use Rattle.sr_subtlv.specs.declared.sid.Sid.{Sid}
use Rattle.sr_subtlv.specs.declared.sid.Sid.TheVariants.{Index, Label}
use Rattle.sr_subtlv.specs.declared.prefix_sid.PrefixSid.{PrefixSid}
use Rattle.sr_lsp.specs.declared.prefix.Prefix.{Prefix}
use Rattle.sr_lsp.specs.declared.table.Part.{Part}
use Rattle.sr_lsp.specs.declared.table.Part.TheVariants as part
use Rattle.sr_lsp.specs.declared.lsp.LspId.{LspId}
use Rattle.sr_lsdb.specs.declared.facts.Stored.{Stored}
use Rattle.sr_lsdb.specs.declared.facts.Facts.{Facts}
use Rattle.sr_domain.specs.declared.nodes.NodeSid.{NodeSid}
use Rattle.sr_domain.specs.Announced.{parts_of}
use Rattle.sr_domain.specs.Nodes.{index_of, is_of_node, is_own, labels_of, node_sid_by, node_sid_of, node_sid_with, own_parts, parts_of_node, sid_in}
use Rattle.sr_domain.specs.Least.{IsFirstLeastSid, candidates, host_sids}
use Rattle.sr_domain.specs.Net.{IsNetOf}
use Rattle.sr_domain.proofs.FlatLemmas.{node_sid-least}
use Rattle.sr_domain.proofs.MemberLemmas.{nowhere, picked-from, picked-to}
use Rattle.sr_account.specs.declared.aside.Place.{Place}
use Rattle.sr_account.specs.declared.aside.Reason.{Reason}
use Rattle.sr_account.specs.declared.aside.Reason.TheVariants.{NotHost, NoSid, Algorithm, WrongForm, Flags, NotLeast, NotFirst, NoneUsed}
use Rattle.sr_account.specs.Items.{IsPartAt, PartPlace, PlaceBefore, sid_place}
use Rattle.sr_account.specs.Laws.{IsInOrder}
use Rattle.sr_account.specs.Reasons.{IsCandidate, LspFails, PrefixFails, PrefixSidFails}
use Rattle.sr_account.specs.Used.{GivesIndex, GivesIndexBySid}
use Rattle.sr_account.proofs.SearchLaw.{Decided, at-place, decided-both, decided-like, flat-from, flat-to, place-of, search-places, stable}
use Rattle.sr_account.proofs.PlaceLaw.{decided-before, entry-from, entry-to, part-one, search-parts}
use Rattle.sr_account.proofs.LinkLaw.{labels-node}
use Rattle.sr_account.proofs.ReachUsed.{node-used}
use Rattle.sr_account.proofs.ItemLemmas.{own-is}

-- ---- the node's own parts

own-part-to : (facts : Facts) (node : ℕ) (place : PartPlace) (said : Part) → place.id.system ≡ node → place.id.pseudonode ≡ 0 → IsPartAt facts place said → Contains (parts_of_node facts node) said
own-part-to facts node place said own real at =
    let entry = entry-from facts place said at in
    let parts : List Part = parts_of entry.0.live in
    let is : is_own node place.id ≡ true = and_from (place.id.system == node) (place.id.pseudonode == 0) (eq-eqb place.id.system node own) (eq-eqb place.id.pseudonode 0 real) in
    let there : Contains (own_parts node (place.id, entry.0)) said = subst (λ (b : Bool). Contains (cond b parts []) said) (sym is) (at-place parts place.part said entry.2) in
    flat-to (own_parts node) facts.database (place.id, entry.0) said entry.1 there

-- where one of the node's own parts stands
record IsOwnPart (facts : Facts) (node : ℕ) (said : Part) : Type 0 where
  place : PartPlace
  own : place.id.system ≡ node
  real : place.id.pseudonode ≡ 0
  at : IsPartAt facts place said

own-part-from : (facts : Facts) → IsInOrder facts → (node : ℕ) (said : Part) → Contains (parts_of_node facts node) said → IsOwnPart facts node said
own-part-from facts up node said c =
    let r = flat-from (own_parts node) facts.database said c in
    by r.0 r.1 (is_own node r.0.0) refl r.2
  where
    by : (entry : LspId × Stored) → Contains facts.database entry → (b : Bool) → is_own node entry.0 ≡ b → Contains (cond b (parts_of entry.1.live) []) said → IsOwnPart facts node said
    by entry there false own h = absurd (nowhere said h)
    by entry there true own h =
        let at = place-of (parts_of entry.1.live) said h in
        let is = own-is node entry.0 own in
        record { place = record { id = entry.0; part = at.0 }; own = is.0; real = is.1; at = entry-to facts up entry at.0 said there at.1 }

-- ---- candidates

candidate-to : (facts : Facts) (node : ℕ) (place : PartPlace) (k index : ℕ) → IsCandidate facts node place k index → (given : NodeSid) × Contains (candidates facts node) given × (given.index ≡ index)
candidate-to facts node place k index is =
    let given = is.gives in
    let there : Contains (parts_of_node facts node) (part.Prefix is.prefix) = own-part-to facts node place (part.Prefix is.prefix) is.own is.real is.at in
    let sid : Contains (host_sids (part.Prefix is.prefix)) is.sid = subst (λ (b : Bool). Contains (cond b is.prefix.sids []) is.sid) (sym (eq-eqb is.prefix.length ADDRESS_BITS is.host)) (at-place is.prefix.sids k is.sid is.among) in
    let sids : List PrefixSid = flat_map host_sids (parts_of_node facts node) in
    (given.0, picked-to node_sid_by sids is.sid given.0 (flat-to host_sids (parts_of_node facts node) (part.Prefix is.prefix) is.sid there sid) given.1, given.2)

candidate-from : (facts : Facts) → IsInOrder facts → (node : ℕ) (given : NodeSid) → Contains (candidates facts node) given → (place : PartPlace) × (k : ℕ) × IsCandidate facts node place k given.index
candidate-from facts up node given c =
    let r = picked-from node_sid_by (flat_map host_sids (parts_of_node facts node)) given c in
    let p = flat-from host_sids (parts_of_node facts node) r.0 r.1 in
    by p.0 (own-part-from facts up node p.0 p.1) r.0 r.2 p.2
  where
    by : (said : Part) → IsOwnPart facts node said → (sid : PrefixSid) → node_sid_by sid ≡ Some given → Contains (host_sids said) sid → (place : PartPlace) × (k : ℕ) × IsCandidate facts node place k given.index
    by (part.Prefix prefix) is sid gives there = host (prefix.length == ADDRESS_BITS) refl there
      where
        host : (b : Bool) → (prefix.length == ADDRESS_BITS) ≡ b → Contains (cond b prefix.sids []) sid → (place : PartPlace) × (k : ℕ) × IsCandidate facts node place k given.index
        host false e h = absurd (nowhere sid h)
        host true e h =
            let at = place-of prefix.sids sid h in (
              is.place,
              at.0,
              record {
                own = is.own;
                real = is.real;
                prefix = prefix;
                at = is.at;
                host = eqb-true prefix.length ADDRESS_BITS e;
                sid = sid;
                among = at.1;
                gives = (given, gives, refl);
              },
            )
    by (part.Reach reach) is sid gives there = absurd (nowhere sid there)
    by (part.Name name) is sid gives there = absurd (nowhere sid there)
    by (part.Risk risk) is sid gives there = absurd (nowhere sid there)
    by (part.Capability capability) is sid gives there = absurd (nowhere sid there)

-- the least of the candidates gives the node its index
record IsLeastOf (facts : Facts) (node : ℕ) (s : NodeSid) : Type 0 where
  chosen : node_sid_of facts node ≡ Some s
  there : Contains (candidates facts node) s
  least : (other : NodeSid) → Contains (candidates facts node) other → s.index ≤ other.index

least-from : (facts : Facts) (node : ℕ) (s : NodeSid) → node_sid_of facts node ≡ Some s → IsFirstLeastSid (candidates facts node) s → IsLeastOf facts node s
least-from facts node s e first = record {
  chosen = e;
  there = at-place (candidates facts node) first.place s first.stands;
  least = λ other c. let p = place-of (candidates facts node) other c in first.least p.0 other p.1;
}

least-index : (facts : Facts) (node : ℕ) (given : NodeSid) → Contains (candidates facts node) given → (s : NodeSid) × IsLeastOf facts node s
least-index facts node given c = by (node_sid_of facts node) refl (node_sid-least facts node)
  where
    by : (o : Option NodeSid) → node_sid_of facts node ≡ o → MatchOption o (candidates facts node ≡ []) (IsFirstLeastSid (candidates facts node)) → (s : NodeSid) × IsLeastOf facts node s
    by None e none = absurd (nowhere given (subst (λ (xs : List NodeSid). Contains xs given) none c))
    by (Some s) e first = (s, least-from facts node s e first)

-- ---- what decides between candidates

-- some candidate has a lesser index
abbrev HasLesser : Facts → ℕ → ℕ → Type 0
HasLesser facts node index = (other : PartPlace) × (j lesser : ℕ) × IsCandidate facts node other j lesser × (lesser < index)

-- some candidate before the place has the index
abbrev HasEarlier : Facts → ℕ → ℕ → Place → Type 0
HasEarlier facts node index at = (other : PartPlace) × (j : ℕ) × IsCandidate facts node other j index × PlaceBefore (sid_place other j) at

decided-lesser : (facts : Facts) → IsInOrder facts → (node index : ℕ) → Decided (HasLesser facts node index)
decided-lesser facts up node index = by (node_sid_of facts node) refl (node_sid-least facts node)
  where
    by : (o : Option NodeSid) → node_sid_of facts node ≡ o → MatchOption o (candidates facts node ≡ []) (IsFirstLeastSid (candidates facts node)) → Decided (HasLesser facts node index)
    by None e none = inr (λ r. let c = candidate-to facts node r.0 r.1 r.2 r.3 in nowhere c.0 (subst (λ (xs : List NodeSid). Contains xs c.0) none c.1))
    by (Some s) e first =
        let is = least-from facts node s e first in
        ⊎_elim
        (λ (less : s.index < index). let c = candidate-from facts up node s is.there in inl (c.0, c.1, s.index, c.2, less))
        (λ (more : index ≤ s.index). inr (λ r.
        let c = candidate-to facts node r.0 r.1 r.2 r.3 in
        let low : s.index ≤ c.0.index = is.least c.0 c.1 in
        let same : c.0.index ≡ r.2 = c.2 in
        let less : r.2 < index = r.4 in
        let bad : ⊥ = omega arith in
        bad))
        (cases_lt s.index index)

-- the SID gives the index
abbrev Gives : PrefixSid → ℕ → Type 0
Gives sid index = (given : NodeSid) × (node_sid_by sid ≡ Some given) × (given.index ≡ index)

decided-gives : (sid : PrefixSid) (index : ℕ) → Decided (Gives sid index)
decided-gives sid index = by (node_sid_by sid) refl
  where
    by : (o : Option NodeSid) → node_sid_by sid ≡ o → Decided (Gives sid index)
    by None e = inr (λ r. none-some r.0 (sym e ∙ r.1))
    by (Some s) e = decided-like
        (λ (same : s.index ≡ index). (s, e, same))
        (λ (r : Gives sid index). let given : s ≡ r.0 = same_Some s r.0 (sym e ∙ r.1) in ap (λ (x : NodeSid). x.index) given ∙ r.2)
        (cases_eq s.index index)

module _ (facts : Facts) (node index : ℕ) (at : Place) (other : PartPlace) where
  -- a SID of this part is a candidate with the index, before the place
  abbrev Stands : Type 0
  Stands = (j : ℕ) × IsCandidate facts node other j index × PlaceBefore (sid_place other j) at

  -- the SID gives the index, and stands before the place
  abbrev Told : Prefix → ℕ → PrefixSid → Type 0
  Told prefix j sid = Gives sid index × PlaceBefore (sid_place other j) at

  -- the prefix is one of the node's own, and some SID of it does so
  abbrev Holds : Prefix → Type 0
  Holds prefix =
      ((other.id.system ≡ node) × (other.id.pseudonode ≡ 0))
      × ((prefix.length ≡ ADDRESS_BITS) × ((j : ℕ) × (sid : PrefixSid) × (slice_get prefix.sids j ≡ Some sid) × Told prefix j sid))

  decided-prefix : (prefix : Prefix) → IsPartAt facts other (part.Prefix prefix) → Decided Stands
  decided-prefix prefix there = decided-like forth back
      (decided-both
      (decided-both (cases_eq other.id.system node) (cases_eq other.id.pseudonode 0))
      (decided-both (cases_eq prefix.length ADDRESS_BITS)
      (search-places (Told prefix) prefix.sids (λ j sid stands. decided-both (decided-gives sid index) (decided-before (sid_place other j) at)))))
    where
      forth : Holds prefix → Stands
      forth r = (
        r.1.1.0,
        record {
          own = r.0.0;
          real = r.0.1;
          prefix = prefix;
          at = there;
          host = r.1.0;
          sid = r.1.1.1;
          among = r.1.1.2;
          gives = r.1.1.3.0;
        },
        r.1.1.3.1,
      )

      back : Stands → Holds prefix
      back r =
          let c = r.1 in
          let said : part.Prefix c.prefix ≡ part.Prefix prefix = part-one facts other other (part.Prefix c.prefix) (part.Prefix prefix) c.at there refl in
          let same : prefix ≡ c.prefix = cc in
          ((c.own, c.real), (ap (λ (p : Prefix). p.length) same ∙ c.host, (r.0, c.sid, ap (λ (p : Prefix). slice_get p.sids r.0) same ∙ c.among, (c.gives, r.2))))

  decided-part : (said : Part) → IsPartAt facts other said → Decided Stands
  decided-part (part.Prefix prefix) there = decided-prefix prefix there
  decided-part (part.Reach reach) there = inr (λ r. let said : part.Prefix r.1.prefix ≡ part.Reach reach = part-one facts other other (part.Prefix r.1.prefix) (part.Reach reach) r.1.at there refl in absurd (cc))
  decided-part (part.Name name) there = inr (λ r. let said : part.Prefix r.1.prefix ≡ part.Name name = part-one facts other other (part.Prefix r.1.prefix) (part.Name name) r.1.at there refl in absurd (cc))
  decided-part (part.Risk risk) there = inr (λ r. let said : part.Prefix r.1.prefix ≡ part.Risk risk = part-one facts other other (part.Prefix r.1.prefix) (part.Risk risk) r.1.at there refl in absurd (cc))
  decided-part (part.Capability capability) there = inr (λ r. let said : part.Prefix r.1.prefix ≡ part.Capability capability = part-one facts other other (part.Prefix r.1.prefix) (part.Capability capability) r.1.at there refl in absurd (cc))

decided-earlier : (facts : Facts) → IsInOrder facts → (node index : ℕ) (at : Place) → Decided (HasEarlier facts node index at)
decided-earlier facts up node index at = decided-like
    (λ r. (r.0, r.3.0, r.3.1, r.3.2))
    (λ r. (r.0, part.Prefix r.2.prefix, r.2.at, (r.1, r.2, r.3)))
    (search-parts facts up (λ other said. Stands facts node index at other) (λ other said there. decided-part facts node index at other said there))

-- ---- SIDs

given-to : (sid : PrefixSid) (index : ℕ) → sid.algorithm ≡ 0 → sid.sid ≡ Index index → is_of_node sid.flags ≡ true → node_sid_by sid ≡ Some (node_sid_with sid.flags index)
given-to sid index zero form own =
    ap (λ (b : Bool). cond b (sid_in sid.flags sid.sid) None) (eq-eqb sid.algorithm 0 zero)
    ∙ ap (sid_in sid.flags) form
    ∙ ap (λ (b : Bool). cond b (Some (node_sid_with sid.flags index)) None) own

-- what a SID that gives an index is
record IsGiving (sid : PrefixSid) (given : NodeSid) : Type 0 where
  zero : sid.algorithm ≡ 0
  form : sid.sid ≡ Index given.index
  own : is_of_node sid.flags ≡ true

given-from : (sid : PrefixSid) (given : NodeSid) → node_sid_by sid ≡ Some given → IsGiving sid given
given-from sid given e = by (sid.algorithm == 0) refl e
  where
    in_form : sid.algorithm ≡ 0 → (s : Sid) → sid.sid ≡ s → sid_in sid.flags s ≡ Some given → IsGiving sid given
    in_form zero (Label label) is h = absurd (none-some given h)
    in_form zero (Index index) is h =
        let c = cond_some (is_of_node sid.flags) (node_sid_with sid.flags index) given h in
        record { zero = zero; form = is ∙ ap (λ (x : NodeSid). Index x.index) c.1; own = c.0 }

    by : (b : Bool) → (sid.algorithm == 0) ≡ b → cond b (sid_in sid.flags sid.sid) None ≡ Some given → IsGiving sid given
    by false z h = absurd (none-some given h)
    by true z h = in_form (eqb-true sid.algorithm 0 z) sid.sid refl h

module _ (facts : Facts) (place : PartPlace) (prefix : Prefix) (k : ℕ) (sid : PrefixSid) where
  -- some reason holds of the SID
  abbrev SidFails : Type 0
  SidFails = (r : Reason) × PrefixSidFails facts place prefix k sid r

  -- none does
  abbrev SidFree : Type 0
  SidFree = (r : Reason) → PrefixSidFails facts place prefix k sid r → ⊥

  sid-free_by : (index : ℕ) → sid.sid ≡ Index index → prefix.length ≡ ADDRESS_BITS → sid.algorithm ≡ 0 → is_of_node sid.flags ≡ true → (HasLesser facts place.id.system index → ⊥) → (HasEarlier facts place.id.system index (sid_place place k) → ⊥) → SidFree
  sid-free_by index form host zero own none first NotHost fails = fails host
  sid-free_by index form host zero own none first Algorithm fails = fails zero
  sid-free_by index form host zero own none first WrongForm fails = let bad : Label fails.0 ≡ Index index = sym fails.1 ∙ form in absurd (cc)
  sid-free_by index form host zero own none first Flags fails = false≢true (sym fails ∙ own)
  sid-free_by index form host zero own none first NotLeast fails =
      let same : Index fails.0 ≡ Index index = sym fails.1 ∙ form in
      let number : fails.0 ≡ index = cc in
      none (fails.2, fails.3, fails.4, fails.5, subst (λ (i : ℕ). fails.4 < i) number fails.6)
  sid-free_by index form host zero own none first NotFirst fails =
      let same : Index fails.0 ≡ Index index = sym fails.1 ∙ form in
      let number : fails.0 ≡ index = cc in
      first (fails.2, fails.3, subst (λ (i : ℕ). IsCandidate facts place.id.system fails.2 fails.3 i) number fails.4, fails.5)
  sid-free_by index form host zero own none first _ fails = fails

  decided-sid : IsInOrder facts → SidFails ⊎ SidFree
  decided-sid up = in_form sid.sid refl
    where
      between : (index : ℕ) → sid.sid ≡ Index index → prefix.length ≡ ADDRESS_BITS → sid.algorithm ≡ 0 → is_of_node sid.flags ≡ true → Decided (HasLesser facts place.id.system index) → Decided (HasEarlier facts place.id.system index (sid_place place k)) → SidFails ⊎ SidFree
      between index form host zero own (inl r) earlier = inl (NotLeast, (index, form, r.0, r.1, r.2, r.3, r.4))
      between index form host zero own (inr none) (inl r) = inl (NotFirst, (index, form, r.0, r.1, r.2, r.3))
      between index form host zero own (inr none) (inr first) = inr (sid-free_by index form host zero own none first)

      flagged : (index : ℕ) → sid.sid ≡ Index index → prefix.length ≡ ADDRESS_BITS → sid.algorithm ≡ 0 → (b : Bool) → is_of_node sid.flags ≡ b → SidFails ⊎ SidFree
      flagged index form host zero false own = inl (Flags, own)
      flagged index form host zero true own = between index form host zero own (decided-lesser facts up place.id.system index) (decided-earlier facts up place.id.system index (sid_place place k))

      numbered : (index : ℕ) → sid.sid ≡ Index index → Decided (prefix.length ≡ ADDRESS_BITS) → Decided (sid.algorithm ≡ 0) → SidFails ⊎ SidFree
      numbered index form (inr long) zero = inl (NotHost, long)
      numbered index form (inl host) (inr other) = inl (Algorithm, other)
      numbered index form (inl host) (inl zero) = flagged index form host zero (is_of_node sid.flags) refl

      in_form : (s : Sid) → sid.sid ≡ s → SidFails ⊎ SidFree
      in_form (Label label) is = inl (WrongForm, (label, is))
      in_form (Index index) is = numbered index is (cases_eq prefix.length ADDRESS_BITS) (cases_eq sid.algorithm 0)

pub prefix-sid-used : (facts : Facts) (net : Net) → IsInOrder facts → IsNetOf facts net → (place : PartPlace) (prefix : Prefix) (k : ℕ) (sid : PrefixSid) → IsPartAt facts place (part.Prefix prefix) → slice_get prefix.sids k ≡ Some sid → ((r : Reason) → LspFails facts place.id r → ⊥) → ((r : Reason) → PrefixSidFails facts place prefix k sid r → ⊥) → GivesIndex facts net place prefix k sid
prefix-sid-used facts net up is place prefix k sid at stands clear free = in_form sid.sid refl
  where
    host : prefix.length ≡ ADDRESS_BITS
    host = stable (cases_eq prefix.length ADDRESS_BITS) (free NotHost)

    own : is_of_node sid.flags ≡ true
    own = by (is_of_node sid.flags) refl
      where
        by : (b : Bool) → is_of_node sid.flags ≡ b → b ≡ true
        by true e = refl
        by false e = absurd (free Flags e)

    in_form : (s : Sid) → sid.sid ≡ s → GivesIndex facts net place prefix k sid
    in_form (Label label) form = absurd (free WrongForm (label, form))
    in_form (Index index) form =
        let v = node-used facts net is place.id clear in
        let node : ℕ = place.id.system in
        let given : NodeSid = node_sid_with sid.flags index in
        let given_is : node_sid_by sid ≡ Some given = given-to sid index (stable (cases_eq sid.algorithm 0) (free Algorithm)) form own in
        let candidate : IsCandidate facts node place k index = record { own = refl; real = v.1.real; prefix = prefix; at = at; host = host; sid = sid; among = stands; gives = (given, given_is, refl) } in
        let c = candidate-to facts node place k index candidate in
        let s = least-index facts node c.0 c.1 in
        let low : s.0.index ≤ c.0.index = s.1.least c.0 c.1 in
        let same : c.0.index ≡ index = c.2 in
        let lesser = candidate-from facts up node s.0 s.1.there in
        let never_less : s.0.index < index → ⊥ = λ less. free NotLeast (index, form, lesser.0, lesser.1, s.0.index, lesser.2, less) in
        let number : s.0.index ≡ index = ⊎_elim (λ (less : s.0.index < index). absurd (never_less less)) (λ (more : index ≤ s.0.index). let e : s.0.index ≡ index = omega arith in e) (cases_lt s.0.index index) in
        record {
          node = v.0;
          of_node = v.1;
          host = host;
          given = given;
          given_is = given_is;
          index_is =
              ap (λ (x : Labels). x.index) (labels-node facts net is v.0 v.1.within ∙ ap (labels_of facts) v.1.system)
              ∙ ap index_of s.1.chosen
              ∙ ap Some number;
          first = λ other j earlier before. free NotFirst (index, form, other, j, earlier, before);
        }

pub prefix-sid-free : (facts : Facts) (net : Net) → IsNetOf facts net → (place : PartPlace) (prefix : Prefix) (k : ℕ) (sid : PrefixSid) → GivesIndex facts net place prefix k sid → (r : Reason) → PrefixSidFails facts place prefix k sid r → ⊥
prefix-sid-free facts net is place prefix k sid gives = sid-free_by facts place prefix k sid gives.given.index giving.form gives.host giving.zero giving.own none (λ r. gives.first r.0 r.1 r.2 r.3)
  where
    giving : IsGiving sid gives.given
    giving = given-from sid gives.given gives.given_is

    none : HasLesser facts place.id.system gives.given.index → ⊥
    none r =
        let c = candidate-to facts place.id.system r.0 r.1 r.2 r.3 in
        let s = least-index facts place.id.system c.0 c.1 in
        let chosen : Some s.0.index ≡ Some gives.given.index =
        sym (ap (λ (x : Labels). x.index) (labels-node facts net is gives.node gives.of_node.within ∙ ap (labels_of facts) gives.of_node.system) ∙ ap index_of s.1.chosen)
        ∙ gives.index_is in
        let number : s.0.index ≡ gives.given.index = same_Some s.0.index gives.given.index chosen in
        let low : s.0.index ≤ c.0.index = s.1.least c.0 c.1 in
        let same : c.0.index ≡ r.2 = c.2 in
        let less : r.2 < gives.given.index = r.4 in
        omega arith

-- ---- prefixes

pub prefix-used : (facts : Facts) (net : Net) → IsInOrder facts → IsNetOf facts net → (place : PartPlace) (prefix : Prefix) → IsPartAt facts place (part.Prefix prefix) → ((r : Reason) → LspFails facts place.id r → ⊥) → ((r : Reason) → PrefixFails facts place prefix r → ⊥) → GivesIndexBySid facts net place prefix
prefix-used facts net up is place prefix at clear free = by (search-places (λ k sid. SidFree facts place prefix k sid) prefix.sids (λ k sid stands. turned (decided-sid facts place prefix k sid up) (λ fails sound. sound fails.0 fails.1)))
  where
    turned : {P : Type 0} {Q : Type 0} → P ⊎ Q → (P → Q → ⊥) → Q ⊎ (Q → ⊥)
    turned (inl p) apart = inr (λ q. apart p q)
    turned (inr q) apart = inl q

    by : Decided ((k : ℕ) × (sid : PrefixSid) × (slice_get prefix.sids k ≡ Some sid) × SidFree facts place prefix k sid) → GivesIndexBySid facts net place prefix
    by (inl r) = (r.0, r.1, r.2, prefix-sid-used facts net up is place prefix r.0 r.1 at r.2 clear r.3)
    by (inr none) = absurd (free NoneUsed (λ k sid stands. fails (decided-sid facts place prefix k sid up) (λ sound. none (k, sid, stands, sound))))
      where
        fails : {P : Type 0} {Q : Type 0} → P ⊎ Q → (Q → ⊥) → P
        fails (inl p) never = p
        fails (inr q) never = absurd (never q)

pub prefix-free : (facts : Facts) (net : Net) → IsNetOf facts net → (place : PartPlace) (prefix : Prefix) → GivesIndexBySid facts net place prefix → (r : Reason) → PrefixFails facts place prefix r → ⊥
prefix-free facts net is place prefix gives NotHost fails = fails gives.3.host
prefix-free facts net is place prefix gives NoSid fails = none-some gives.1 (ap (λ (xs : List PrefixSid). slice_get xs gives.0) (sym fails) ∙ gives.2)
prefix-free facts net is place prefix gives NoneUsed fails =
    let f = fails gives.0 gives.1 gives.2 in
    prefix-sid-free facts net is place prefix gives.0 gives.1 gives.3 f.0 f.1
prefix-free facts net is place prefix gives _ fails = fails
