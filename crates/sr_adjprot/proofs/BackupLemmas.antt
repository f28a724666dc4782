-- The other label of a link: from announcements in lists to what the facts give.
use Rattle.std.proofs.Common.{◌≡◌, ℕ, ◌<◌, ◌≤◌, ◌⊎◌, ⊎_elim, Bool, true, false, cond, List, [], ◌∷◌, ◌++◌, length, ◌+◌, take, get_or, refl, arith, ap, inl, inr, sym, ◌∙◌, subst, Option, Some, None}
use Rattle.std.specs.Prelude.{◌≢◌, Contains, MatchOption, is_some, min, not, ◌&&◌}
use Rattle.std.proofs.lemmas.Bool.{cases_lt, eqb-true, eqb-false, false≢true}
use Rattle.std.proofs.lemmas.List.{take_more}
use Rattle.std.proofs.lemmas.List.Elements.{Contains-append_left, Contains-append_right, Contains-append_cases}
use Rattle.std.proofs.lemmas.Option.{same_Some}
use Rattle.sr_model.specs.declared.name.LinkKey.{LinkKey}
use Rattle.sr_model.specs.KeyOrder.{same_key}
use Rattle.sr_model.specs.Case.{key_at}
use Rattle.sr_model.specs.Label.{Net, adj_at}
use Rattle.sr_lsdb.specs.declared.facts.Facts.{Facts}
use Rattle.sr_lsdb.specs.declared.announcement.Announcement.{Announcement}
use Rattle.sr_lsdb.specs.Announcement.{announcement_of, adj_sid_labels, least, lesser}
use Rattle.sr_domain.specs.Links.{is_in_use}
use Rattle.sr_domain.proofs.MemberLemmas.{here, cases, nowhere, picked-from, picked-to}
use Rattle.sr_adjprot.specs.declared.protected.Flagged.{Flagged}
use Rattle.sr_adjprot.specs.Backup.{GivesBackup, IsBackupLabel}
use Rattle.sr_adjprot.specs.Protected.{flagged_of, is_own_label, label_beside, labels_beside, IsLeastOf}
use Rattle.sr_adjprot.proofs.EligibleLemmas.{some-there, there-some, found-from, found-announces, found-to}
use Rattle.sr_domain.proofs.KeyLemmas.{same-from, same-itself}

-- ---- the least of numbers

-- with one number more, the lesser of it and the least of the others
least-with : (x : ℕ) (xs ys : List ℕ) → ((z : ℕ) → Contains ys z → (x ≡ z) ⊎ Contains xs z) → Contains ys x → ((z : ℕ) → Contains xs z → Contains ys z) → (o : Option ℕ) → IsLeastOf xs o → IsLeastOf ys (lesser o x)
least-with x xs ys cut first rest None none = (
  first,
  λ z there. ⊎_elim
      (λ (same : x ≡ z). let le : x ≤ z = omega arith in le)
      (λ (old : Contains xs z). absurd (nowhere z (subst (λ (r : List ℕ). Contains r z) none old)))
      (cut z there),
)
least-with x xs ys cut first rest (Some y) is = ⊎_elim
    (λ (lt : x < y). by x (omega arith) (omega arith) (omega arith) first)
    (λ (ge : y ≤ x). by y (omega arith) (omega arith) (omega arith) (rest y is.0))
    (cases_lt x y)
  where
    by : (m : ℕ) → min y x ≡ m → m ≤ x → m ≤ y → Contains ys m → IsLeastOf ys (Some (min y x))
    by m e low high there = (
      subst (λ (k : ℕ). Contains ys k) (sym e) there,
      λ z in_ys. ⊎_elim
          (λ (same : x ≡ z). let le : min y x ≤ z = omega arith in le)
          (λ (old : Contains xs z). let more : y ≤ z = is.1 z old in let le : min y x ≤ z = omega arith in le)
          (cut z in_ys),
    )

-- with one number more behind the others
least-push : (x : ℕ) (xs : List ℕ) (o : Option ℕ) → IsLeastOf xs o → IsLeastOf (xs ++ x ∷ []) (lesser o x)
least-push x xs o is =
    least-with x xs (xs ++ x ∷ [])
    (λ z c. ⊎_elim
    (λ (old : Contains xs z). inr old)
    (λ (new : Contains (x ∷ []) z). ⊎_elim (λ (same : x ≡ z). inl same) (λ (none : Contains [] z). absurd (nowhere z none)) (cases x [] z new))
    (Contains-append_cases xs (x ∷ []) z c))
    (Contains-append_right xs (x ∷ []) x (here x []))
    (λ z c. Contains-append_left xs (x ∷ []) z c)
    o is

-- the number at place k is the next
pub least-take : (xs : List ℕ) (k : ℕ) (o found : Option ℕ) → k < length xs → found ≡ lesser o (get_or xs k 0) → IsLeastOf (take k xs) o → IsLeastOf (take (k + 1) xs) found
least-take xs k o found lt e is = rw (e, take_more xs k 0 lt) (least-push (get_or xs k 0) (take k xs) o is)

-- ---- labels beside others

-- the label is the link's own exactly where the two are the same
own-is : (own : Option ℕ) (t : ℕ) → is_own_label own t ≡ true → own ≡ Some t
own-is None t e = absurd (false≢true e)
own-is (Some s) t e = ap Some (eqb-true s t e)

not-own : (own : Option ℕ) (t : ℕ) → is_own_label own t ≡ false → own ≢ Some t
not-own None t e same = absurd (cc)
not-own (Some s) t e same = eqb-false s t e (same_Some s t same)

other-not_own : (own : Option ℕ) (t : ℕ) → own ≢ Some t → is_own_label own t ≡ false
other-not_own own t ne = by (is_own_label own t) refl
  where
    by : (b : Bool) → is_own_label own t ≡ b → b ≡ false
    by true e = absurd (ne (own-is own t e))
    by false e = refl

-- what is said of an announcement from which label t is listed for the link of the key
record IsBeside (key : LinkKey) (own : Option ℕ) (one : Flagged) (t : ℕ) : Type 0 where
  clear : one.clear ≡ true
  key_is : key ≡ one.announcement.key
  label : one.label ≡ t
  other : own ≢ Some t

beside-is : (key : LinkKey) (own : Option ℕ) (one : Flagged) (t : ℕ) → label_beside key own one ≡ Some t → IsBeside key own one t
beside-is key own one t e = by one.clear (same_key key one.announcement.key) (is_own_label own one.label) refl refl refl e
  where
    by : (c s o : Bool) → one.clear ≡ c → same_key key one.announcement.key ≡ s → is_own_label own one.label ≡ o → cond (c && s && not o) (Some one.label) None ≡ Some t → IsBeside key own one t
    by true true false c s o h =
        let label : one.label ≡ t = same_Some one.label t h in
        record { clear = c; key_is = same-from key one.announcement.key s; label = label; other = subst (λ (k : ℕ). own ≢ Some k) label (not-own own one.label o) }
    by true true true c s o h = absurd (cc)
    by true false o c s p h = absurd (cc)
    by false s o c k p h = absurd (cc)

-- a label that is listed for the link is given
beside-from : (facts : Facts) (net : Net) (l t : ℕ) → Contains (labels_beside facts (key_at net.graph l) (adj_at net l)) t → GivesBackup facts net l t
beside-from facts net l t there =
    let at = picked-from (label_beside (key_at net.graph l) (adj_at net l)) (flagged_of facts) t there in
    let b = beside-is (key_at net.graph l) (adj_at net l) at.0 t at.2 in
    let f = found-from facts at.0 at.1 in
    let p = f.says in
    record {
      node = f.entry.0.system;
      reach = p.reach;
      announced = found-announces facts at.0 f;
      used = ap (is_in_use facts) p.announced ∙ p.used;
      named = ap (λ (x : Announcement). x.key) p.announced ∙ sym b.key_is;
      clear = there-some (adj_sid_labels false p.reach.adj) (sym p.clear ∙ b.clear);
      given = p.label ∙ ap Some b.label;
      other = b.other;
    }

-- a label that is given for the link is listed
beside-to : (facts : Facts) (net : Net) (l t : ℕ) → GivesBackup facts net l t → Contains (labels_beside facts (key_at net.graph l) (adj_at net l)) t
beside-to facts net l t gives =
    let key : LinkKey = key_at net.graph l in
    let own : Option ℕ = adj_at net l in
    let a : Announcement = announcement_of gives.node gives.reach in
    let clear : Bool = is_some (least (adj_sid_labels false gives.reach.adj)) in
    let f = found-to facts gives.node gives.reach gives.announced gives.used (ap is_some gives.given) in
    let one : Flagged = record { announcement = a; label = f.0; clear = clear } in
    let label : f.0 ≡ t = same_Some f.0 t (sym f.1 ∙ gives.given) in
    let both : clear ≡ true = some-there (adj_sid_labels false gives.reach.adj) gives.clear in
    let same : same_key key a.key ≡ true = ap (same_key key) gives.named ∙ same-itself key in
    let other : is_own_label own f.0 ≡ false = ap (is_own_label own) label ∙ other-not_own own t gives.other in
    let listed : label_beside key own one ≡ Some f.0 = rw (both, same, other) refl in
    picked-to (label_beside key own) (flagged_of facts) one t f.2 (listed ∙ ap Some label)

-- the least label that is listed for the link is the least that is given
pub beside-least : (facts : Facts) (net : Net) (l : ℕ) (found : Option ℕ) → IsLeastOf (labels_beside facts (key_at net.graph l) (adj_at net l)) found → MatchOption found ((t : ℕ) → GivesBackup facts net l t → ⊥) (IsBackupLabel facts net l)
beside-least facts net l None none = λ t gives. nowhere t (subst (λ (xs : List ℕ). Contains xs t) none (beside-to facts net l t gives))
beside-least facts net l (Some t) is = record {
  gives = beside-from facts net l t is.0;
  least = λ s gives. is.1 s (beside-to facts net l s gives);
}
