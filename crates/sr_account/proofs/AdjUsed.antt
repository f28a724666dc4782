-- An adjacency SID gives its link the adjacency label exactly where no reason holds of it, of its entry and of its LSP.
use Rattle.std.proofs.Common.{◌≡◌, ℕ, ◌<◌, ◌⊎◌, inl, inr, ⊎_elim, Bool, true, false, cond, not, List, [], ◌∷◌, refl, arith, ap, sym, ◌∙◌, Option, Some, None}
use Rattle.std.specs.Prelude.{◌≢◌, Contains, ◌&&◌, bit_and, is_some, slice_get}
use Rattle.std.proofs.lemmas.Bool.{and_from, and_parts, cases_eq, eq-eqb, eqb-true, false≢true}
use Rattle.std.proofs.lemmas.Nat.Bits.{and_pow, bit_at-lt}
use Rattle.std.proofs.lemmas.Option.{cond_some, none-some, same_Some}
use Rattle.sr_model.specs.Label.{Net, adj_at}
use Rattle.sr_laws.proofs.Keys.{key-one}
use Rattle.sr_subtlv.specs.declared.sid.Sid.{Sid}
use Rattle.sr_subtlv.specs.declared.sid.Sid.TheVariants.{Index, Label}
use Rattle.sr_subtlv.specs.declared.adj_sid.AdjSid.{AdjSid}
use Rattle.sr_lsp.specs.declared.reach.Reach.{Reach}
use Rattle.sr_lsp.specs.declared.table.Part.TheVariants as part
use Rattle.sr_lsdb.specs.declared.facts.Facts.{Facts}
use Rattle.sr_lsdb.specs.Announcement.{adj_label, adj_sid_label, adj_sid_labels, is_backup_as, is_for_one, label_in, least, lesser}
use Rattle.sr_domain.specs.Net.{IsNetOf}
use Rattle.sr_domain.proofs.MemberLemmas.{nowhere, picked-to}
use Rattle.sr_account.specs.declared.aside.Reason.{Reason}
use Rattle.sr_account.specs.declared.aside.Reason.TheVariants.{WrongForm, Flags, Backup, NotLeast, NotFirst}
use Rattle.sr_account.specs.Items.{IsPartAt, PartPlace}
use Rattle.sr_account.specs.Laws.{IsInOrder}
use Rattle.sr_account.specs.Reasons.{AdjFails, LspFails, ReachFails}
use Rattle.sr_account.specs.Used.{GivesAdjLabel, GivesLink, counting_label}
use Rattle.sr_account.proofs.SearchLaw.{Decided, at-place, stable}
use Rattle.sr_account.proofs.ReachUsed.{lsp-free, reach-free, reach-used}

-- ---- flags and labels

-- the flag B is clear or set
backup-cases : (flags : ℕ) → (is_backup_as false flags ≡ true) ⊎ (is_backup_as true flags ≡ true)
backup-cases flags = ⊎_elim
    (λ (clear : bit_and flags 64 ≡ 0). inl (eq-eqb (bit_and flags 64) 0 clear))
    (λ (other : bit_and flags 64 ≡ 0 → ⊥). inr (eq-eqb (bit_and flags 64) 64 (set other)))
    (cases_eq (bit_and flags 64) 0)
  where
    set : (bit_and flags 64 ≢ 0) → bit_and flags 64 ≡ 64
    set other = omega (arith, and_pow flags 6, bit_at-lt flags 6)

-- and not both
backup-one : (flags : ℕ) (a b : Bool) → is_backup_as a flags ≡ true → is_backup_as b flags ≡ true → a ≡ b
backup-one flags true true x y = refl
backup-one flags false false x y = refl
backup-one flags true false x y = let set : bit_and flags 64 ≡ 64 = eqb-true (bit_and flags 64) 64 x in let clear : bit_and flags 64 ≡ 0 = eqb-true (bit_and flags 64) 0 y in absurd (omega arith)
backup-one flags false true x y = let set : bit_and flags 64 ≡ 64 = eqb-true (bit_and flags 64) 64 y in let clear : bit_and flags 64 ≡ 0 = eqb-true (bit_and flags 64) 0 x in absurd (omega arith)

-- the SID gives the label, with its flag B as asked
record SaysLabel (backup : Bool) (sid : AdjSid) (label : ℕ) : Type 0 where
  form : sid.sid ≡ Label label
  one : is_for_one sid.flags ≡ true
  flag : is_backup_as backup sid.flags ≡ true

label-from : (backup : Bool) (sid : AdjSid) (label : ℕ) → adj_sid_label backup sid ≡ Some label → SaysLabel backup sid label
label-from backup sid label e = by sid.sid refl e
  where
    by : (s : Sid) → sid.sid ≡ s → label_in backup sid.flags s ≡ Some label → SaysLabel backup sid label
    by (Index index) is h = absurd (none-some label h)
    by (Label t) is h =
        let c = cond_some (is_for_one sid.flags && is_backup_as backup sid.flags) t label h in
        let flags = and_parts (is_for_one sid.flags) (is_backup_as backup sid.flags) c.0 in
        record { form = is ∙ ap Label c.1; one = flags.0; flag = flags.1 }

label-to : (backup : Bool) (sid : AdjSid) (label : ℕ) → SaysLabel backup sid label → adj_sid_label backup sid ≡ Some label
label-to backup sid label says =
    ap (label_in backup sid.flags) says.form
    ∙ ap (λ (b : Bool). cond b (Some label) None) (and_from (is_for_one sid.flags) (is_backup_as backup sid.flags) says.one says.flag)

some-there : (xs : List ℕ) (x : ℕ) → Contains xs x → is_some (least xs) ≡ true
some-there [] x c = absurd (nowhere x c)
some-there (y ∷ xs) x c = by (least xs)
  where
    by : (o : Option ℕ) → is_some (lesser o y) ≡ true
    by None = refl
    by (Some z) = refl

decided-some : (o : Option ℕ) (n : ℕ) → Decided (o ≡ Some n)
decided-some None n = inr (λ e. none-some n e)
decided-some (Some m) n = ⊎_elim (λ (e : m ≡ n). inl (ap Some e)) (λ (ne : m ≡ n → ⊥). inr (λ e. ne (same_Some m n e))) (cases_eq m n)

-- an entry has labels without the flag B
abbrev pub has_clear : List AdjSid → Bool
has_clear sids = is_some (least (adj_sid_labels false sids))

-- ---- a SID of which no reason holds

module _ (sids : List AdjSid) (k : ℕ) (sid : AdjSid) (at : slice_get sids k ≡ Some sid) (free : (r : Reason) → AdjFails sids k sid r → ⊥) where
  pub label-there : (label : ℕ) × (sid.sid ≡ Label label)
  label-there = by sid.sid refl
    where
      by : (s : Sid) → sid.sid ≡ s → (label : ℕ) × (sid.sid ≡ Label label)
      by (Index index) is = absurd (free WrongForm (index, is))
      by (Label label) is = (label, is)

  for_one : is_for_one sid.flags ≡ true
  for_one = by (is_for_one sid.flags) refl
    where
      by : (b : Bool) → is_for_one sid.flags ≡ b → b ≡ true
      by true is = refl
      by false is = absurd (free Flags is)

  -- its flag B is as those that count have it
  flag-counts : is_backup_as (not (has_clear sids)) sid.flags ≡ true
  flag-counts = by (has_clear sids) refl (backup-cases sid.flags)
    where
      by : (b : Bool) → has_clear sids ≡ b → (is_backup_as false sid.flags ≡ true) ⊎ (is_backup_as true sid.flags ≡ true) → is_backup_as (not b) sid.flags ≡ true
      by true has (inl clear) = clear
      by true has (inr set) = absurd (free Backup (set, has))
      by false has (inr set) = set
      by false has (inl clear) =
          let says : adj_sid_label false sid ≡ Some label-there.0 = label-to false sid label-there.0 (record { form = label-there.1; one = for_one; flag = clear }) in
          let there : has_clear sids ≡ true = some-there (adj_sid_labels false sids) label-there.0 (picked-to (adj_sid_label false) sids sid label-there.0 (at-place sids k sid at) says) in
          absurd (false≢true (sym has ∙ there))

  pub sid-says : counting_label sids sid ≡ Some label-there.0
  sid-says = label-to (not (has_clear sids)) sid label-there.0 (record { form = label-there.1; one = for_one; flag = flag-counts })

  pub sid-least : adj_label sids ≡ Some label-there.0
  sid-least = stable (decided-some (adj_label sids) label-there.0) (λ ne. free NotLeast (label-there.0, label-there.1, ne))

  pub sid-first : (j : ℕ) (other : AdjSid) → j < k → slice_get sids j ≡ Some other → counting_label sids other ≢ Some label-there.0
  sid-first j other before there says = free NotFirst (not (has_clear sids), label-there.0, sid-says, j, other, before, there, says)

pub adj-used : (facts : Facts) (net : Net) → IsNetOf facts net → (place : PartPlace) (reach : Reach) (k : ℕ) (sid : AdjSid) → IsPartAt facts place (part.Reach reach) → slice_get reach.adj k ≡ Some sid → ((r : Reason) → LspFails facts place.id r → ⊥) → ((r : Reason) → ReachFails facts place.id.system reach r → ⊥) → ((r : Reason) → AdjFails reach.adj k sid r → ⊥) → GivesAdjLabel facts net place.id reach k sid
adj-used facts net is place reach k sid stands at clear free own =
    let r = reach-used facts net is place reach stands clear free in
    record {
      link = r.0;
      gives = r.1;
      label = (label-there reach.adj k sid at own).0;
      label_is = r.2 ∙ sid-least reach.adj k sid at own;
      said = sid-says reach.adj k sid at own;
      first = sid-first reach.adj k sid at own;
    }

-- ---- a SID that gives the label

-- the label of a link is that of the entry that gives it
label-same : (facts : Facts) (net : Net) → IsInOrder facts → IsNetOf facts net → (place : PartPlace) (reach : Reach) (l : ℕ) → IsPartAt facts place (part.Reach reach) → GivesLink facts net place.id reach l → adj_at net l ≡ adj_label reach.adj
label-same facts net up is place reach l at gives =
    let r = reach-used facts net is place reach at (lsp-free facts net up is place.id gives.node gives.of_node) (reach-free facts net up is place.id reach l gives) in
    let link = r.1 in
    let same : l ≡ r.0 = key-one net.graph is.accepted.named l r.0 gives.within link.within (gives.key ∙ sym link.key) in
    ap (adj_at net) same ∙ r.2

module _ (sids : List AdjSid) (k : ℕ) (sid : AdjSid) (label : ℕ) (least_is : adj_label sids ≡ Some label) (said : counting_label sids sid ≡ Some label) (first : (j : ℕ) (other : AdjSid) → j < k → slice_get sids j ≡ Some other → counting_label sids other ≢ Some label) where
  says : SaysLabel (not (has_clear sids)) sid label
  says = label-from (not (has_clear sids)) sid label said

  pub sid-free : (r : Reason) → AdjFails sids k sid r → ⊥
  sid-free WrongForm fails = let bad : Index fails.0 ≡ Label label = sym fails.1 ∙ says.form in absurd (cc)
  sid-free Flags fails = false≢true (sym fails ∙ says.one)
  sid-free Backup fails =
      let same : true ≡ not (has_clear sids) = backup-one sid.flags true (not (has_clear sids)) fails.0 says.flag in
      false≢true (sym (same ∙ ap not fails.1))
  sid-free NotLeast fails = let same : Label fails.0 ≡ Label label = sym fails.1 ∙ says.form in let number : fails.0 ≡ label = cc in fails.2 (least_is ∙ ap Some (sym number))
  sid-free NotFirst fails =
      let own = label-from fails.0 sid fails.1 fails.2 in
      let flag : fails.0 ≡ not (has_clear sids) = backup-one sid.flags fails.0 (not (has_clear sids)) own.flag says.flag in
      let same : Label fails.1 ≡ Label label = sym own.form ∙ says.form in
      let number : fails.1 ≡ label = cc in
      first fails.3 fails.4 fails.5 fails.6 (ap (λ (b : Bool). adj_sid_label b fails.4) (sym flag) ∙ fails.7 ∙ ap Some number)
  sid-free _ fails = fails

pub adj-free : (facts : Facts) (net : Net) → IsInOrder facts → IsNetOf facts net → (place : PartPlace) (reach : Reach) (k : ℕ) (sid : AdjSid) → IsPartAt facts place (part.Reach reach) → GivesAdjLabel facts net place.id reach k sid → (r : Reason) → AdjFails reach.adj k sid r → ⊥
adj-free facts net up is place reach k sid at gives =
    sid-free reach.adj k sid gives.label
    (sym (label-same facts net up is place reach gives.link at gives.gives) ∙ gives.label_is)
    gives.said
    gives.first
