-- The first reason that holds, kind by kind.
use Rattle.std.proofs.Common.{◌≡◌, ◌≢◌, ℕ, ◌<◌, ◌≤◌, ◌⊎◌, inl, inr, ⊎_elim, ◌==◌, Bool, true, false, List, [], map, filter, Option, Some, None, length, arith, ap, sym, ◌∙◌}
use Rattle.std.specs.List.{list_any}
use Rattle.std.specs.Ordering.{eq_by_cmp}
use Rattle.sr_model.specs.declared.name.LinkKey.{LinkKey}
use Rattle.sr_model.specs.Key.{mirror}
use Rattle.sr_model.specs.KeyOrder.{same_key}
use Rattle.sr_subtlv.specs.declared.adj_sid.AdjSid.{AdjSid}
use Rattle.sr_lsp.specs.declared.lsp.LspId.{LspId}
use Rattle.sr_lsp.specs.declared.reach.Reach.{Reach}
use Rattle.sr_lsp.specs.declared.risk.Risk.{Risk}
use Rattle.sr_lsp.specs.declared.table.Part.TheVariants as part
use Rattle.sr_lsdb.specs.declared.facts.Facts.{Facts}
use Rattle.sr_lsdb.specs.declared.announcement.Announcement.{Announcement}
use Rattle.sr_domain.specs.declared.risks.RiskName.{RiskName}
use Rattle.sr_lsdb.specs.Announcement.{announcement_of}
use Rattle.sr_domain.specs.Announced.{announcements_of, is_announced, is_present}
use Rattle.sr_domain.specs.Groups.{name_of, same_name}
use Rattle.sr_domain.proofs.KeyLemmas.{any-to, any-from}
use Rattle.sr_account.specs.declared.aside.Reason.{Reason}
use Rattle.sr_account.specs.declared.aside.Reason.TheVariants.{Lan, Absent, Pseudonode, Itself, NeighbourAbsent, OneWay, Identity, MaximumMetric, Down, WrongForm, Flags, Backup, NotLeast, NotFirst, NoGroups, NoLink, LinkUnused}
use Rattle.sr_account.specs.declared.survey.Ends.{Ends}
use Rattle.sr_account.specs.declared.survey.Survey.{Survey}
use Rattle.sr_account.specs.Items.{PartPlace}
use Rattle.sr_account.specs.Items.Item.{OfPart, OfAdj}
use Rattle.sr_account.specs.Reasons.{AdjFails, HoldsFor, LspFails, ReachFails, RiskFails, reason_rank}
use Rattle.sr_account.specs.Steps.{AnnouncementFails, IsFirstOf, IsSurvey, IsFoundReason, NoReason, ends_cmp, ends_of, has_link, names_in}
use Rattle.sr_account.proofs.SearchLemmas.{ends-found, ends-said, is_named, linked-used, named-any, sorted-same, used-linked}
use Rattle.sr_domain.proofs.MemberLemmas.{filtered-from, filtered-to}

-- none of the reasons of a lower rank holds
abbrev pub NoneBelow : (Reason → Type 0) → ℕ → Type 0
NoneBelow Fails n = (reason : Reason) → reason_rank reason < n → Fails reason → ⊥

rank-small : (reason : Reason) → reason_rank reason < 23
rank-small Lan = omega arith
rank-small _ = omega arith

pub none-at-all : (Fails : Reason → Type 0) → NoneBelow Fails 23 → NoReason Fails
none-at-all Fails none reason h = none reason (rank-small reason) h

-- one kind of reasons after another, all of a higher rank
pub first-of-left : (A B : Reason → Type 0) (n : ℕ) (reason : Reason) → ((r : Reason) → A r → reason_rank r < n) → ((r : Reason) → B r → n ≤ reason_rank r) → IsFirstOf A reason → IsFirstOf (λ r. A r ⊎ B r) reason
first-of-left A B n reason low high first = record {
  holds = inl first.holds;
  first = λ earlier lt h. ⊎_elim (λ (a : A earlier). first.first earlier lt a) (λ (b : B earlier). let l : reason_rank reason < n = low reason first.holds in let u : n ≤ reason_rank earlier = high earlier b in omega arith) h;
}

pub verdict-right : (A B : Reason → Type 0) (o : Option Reason) → NoReason A → IsFoundReason B o → IsFoundReason (λ r. A r ⊎ B r) o
verdict-right A B None none verdict = λ r h. ⊎_elim (λ (a : A r). none r a) (λ (b : B r). verdict r b) h
verdict-right A B (Some reason) none first = record {
  holds = inr first.holds;
  first = λ earlier lt h. ⊎_elim (λ (a : A earlier). none earlier a) (λ (b : B earlier). first.first earlier lt b) h;
}

-- which ranks each kind has
pub lsp-low : (facts : Facts) (id : LspId) (reason : Reason) → LspFails facts id reason → reason_rank reason < 2
lsp-low facts id Lan h = omega arith
lsp-low facts id Absent h = omega arith
lsp-low facts id _ h = absurd h

reach-low : (facts : Facts) (node : ℕ) (reach : Reach) (reason : Reason) → ReachFails facts node reach reason → reason_rank reason < 9
reach-low facts node reach Pseudonode h = omega arith
reach-low facts node reach Itself h = omega arith
reach-low facts node reach NeighbourAbsent h = omega arith
reach-low facts node reach OneWay h = omega arith
reach-low facts node reach Identity h = omega arith
reach-low facts node reach MaximumMetric h = omega arith
reach-low facts node reach Down h = omega arith
reach-low facts node reach _ h = absurd h

adj-high : (sids : List AdjSid) (k : ℕ) (sid : AdjSid) (reason : Reason) → AdjFails sids k sid reason → 9 ≤ reason_rank reason
adj-high sids k sid WrongForm h = omega arith
adj-high sids k sid Flags h = omega arith
adj-high sids k sid Backup h = omega arith
adj-high sids k sid NotLeast h = omega arith
adj-high sids k sid NotFirst h = omega arith
adj-high sids k sid _ h = absurd h

-- what fails an entry fails its SIDs
entry-low : (facts : Facts) (place : PartPlace) (reach : Reach) (reason : Reason) → HoldsFor facts (OfPart place (part.Reach reach)) reason → reason_rank reason < 9
entry-low facts place reach reason h = ⊎_elim
    (λ (l : LspFails facts place.id reason). let lt : reason_rank reason < 2 = lsp-low facts place.id reason l in omega arith)
    (λ (r : ReachFails facts place.id.system reach reason). reach-low facts place.id.system reach reason r) h

again : (A B C : Type 0) → (A ⊎ B) ⊎ C → A ⊎ B ⊎ C
again A B C (inl (inl a)) = inl a
again A B C (inl (inr b)) = inr (inl b)
again A B C (inr c) = inr (inr c)

back : (A B C : Type 0) → A ⊎ B ⊎ C → (A ⊎ B) ⊎ C
back A B C (inl a) = inl (inl a)
back A B C (inr (inl b)) = inl (inr b)
back A B C (inr (inr c)) = inr c

entry-first : (facts : Facts) (place : PartPlace) (reach : Reach) (k : ℕ) (sid : AdjSid) (reason : Reason) → IsFirstOf (λ r. HoldsFor facts (OfPart place (part.Reach reach)) r ⊎ AdjFails reach.adj k sid r) reason → IsFirstOf (HoldsFor facts (OfAdj place reach k sid)) reason
entry-first facts place reach k sid reason first = record {
  holds = again (LspFails facts place.id reason) (ReachFails facts place.id.system reach reason) (AdjFails reach.adj k sid reason) first.holds;
  first = λ earlier lt h. first.first earlier lt (back (LspFails facts place.id earlier) (ReachFails facts place.id.system reach earlier) (AdjFails reach.adj k sid earlier) h);
}

pub adj-aside : (facts : Facts) (place : PartPlace) (reach : Reach) (k : ℕ) (sid : AdjSid) (reason : Reason) → IsFirstOf (HoldsFor facts (OfPart place (part.Reach reach))) reason → IsFirstOf (HoldsFor facts (OfAdj place reach k sid)) reason
adj-aside facts place reach k sid reason first = entry-first facts place reach k sid reason
    (first-of-left (HoldsFor facts (OfPart place (part.Reach reach))) (AdjFails reach.adj k sid) 9 reason (entry-low facts place reach) (adj-high reach.adj k sid) first)

pub adj-own : (facts : Facts) (place : PartPlace) (reach : Reach) (k : ℕ) (sid : AdjSid) (o : Option Reason) → NoReason (HoldsFor facts (OfPart place (part.Reach reach))) → IsFoundReason (AdjFails reach.adj k sid) o → IsFoundReason (HoldsFor facts (OfAdj place reach k sid)) o
adj-own facts place reach k sid None none verdict = λ r h. ⊎_elim
    (λ (a : HoldsFor facts (OfPart place (part.Reach reach)) r). none r a) (λ (b : AdjFails reach.adj k sid r). verdict r b)
    (back (LspFails facts place.id r) (ReachFails facts place.id.system reach r) (AdjFails reach.adj k sid r) h)
adj-own facts place reach k sid (Some reason) none verdict = entry-first facts place reach k sid reason
    (verdict-right (HoldsFor facts (OfPart place (part.Reach reach))) (AdjFails reach.adj k sid) (Some reason) none verdict)

-- the reasons of an announcement
pub announced-below : (facts : Facts) (a : Announcement) (n : ℕ) → (4 < n → AnnouncementFails facts a NeighbourAbsent → ⊥) → (5 < n → AnnouncementFails facts a OneWay → ⊥) → (6 < n → AnnouncementFails facts a Identity → ⊥) → (7 < n → AnnouncementFails facts a MaximumMetric → ⊥) → (8 < n → AnnouncementFails facts a Down → ⊥) → NoneBelow (AnnouncementFails facts a) n
announced-below facts a n p q r s t NeighbourAbsent lt h = p lt h
announced-below facts a n p q r s t OneWay lt h = q lt h
announced-below facts a n p q r s t Identity lt h = r lt h
announced-below facts a n p q r s t MaximumMetric lt h = s lt h
announced-below facts a n p q r s t Down lt h = t lt h
announced-below facts a n p q r s t _ lt h = absurd h

reach-some : (facts : Facts) (node : ℕ) (reach : Reach) (reason : Reason) → reach.pseudonode ≡ 0 → reach.neighbour ≢ node → ReachFails facts node reach reason → AnnouncementFails facts (announcement_of node reach) reason
reach-some facts node reach Pseudonode real other h = absurd (h real)
reach-some facts node reach Itself real other h = absurd (other h)
reach-some facts node reach NeighbourAbsent real other h = h
reach-some facts node reach OneWay real other h = h
reach-some facts node reach Identity real other h = h
reach-some facts node reach MaximumMetric real other h = h
reach-some facts node reach Down real other h = h
reach-some facts node reach _ real other h = absurd h

reach-all : (facts : Facts) (node : ℕ) (reach : Reach) (reason : Reason) → AnnouncementFails facts (announcement_of node reach) reason → ReachFails facts node reach reason
reach-all facts node reach NeighbourAbsent h = h
reach-all facts node reach OneWay h = h
reach-all facts node reach Identity h = h
reach-all facts node reach MaximumMetric h = h
reach-all facts node reach Down h = h
reach-all facts node reach _ h = absurd h

-- those of an entry that is an announcement
pub reach-announced : (facts : Facts) (node : ℕ) (reach : Reach) (o : Option Reason) → reach.pseudonode ≡ 0 → reach.neighbour ≢ node → IsFoundReason (AnnouncementFails facts (announcement_of node reach)) o → IsFoundReason (ReachFails facts node reach) o
reach-announced facts node reach None real other none = λ r h. none r (reach-some facts node reach r real other h)
reach-announced facts node reach (Some reason) real other first = record {
  holds = reach-all facts node reach reason first.holds;
  first = λ earlier lt h. first.first earlier lt (reach-some facts node reach earlier real other h);
}

-- the reasons of a shared-risk part
pub risk-below : (facts : Facts) (node : ℕ) (risk : Risk) (n : ℕ) → (2 < n → RiskFails facts node risk Pseudonode → ⊥) → (19 < n → RiskFails facts node risk NoGroups → ⊥) → (20 < n → RiskFails facts node risk NoLink → ⊥) → (21 < n → RiskFails facts node risk LinkUnused → ⊥) → NoneBelow (RiskFails facts node risk) n
risk-below facts node risk n p q r s Pseudonode lt h = p lt h
risk-below facts node risk n p q r s NoGroups lt h = q lt h
risk-below facts node risk n p q r s NoLink lt h = r lt h
risk-below facts node risk n p q r s LinkUnused lt h = s lt h
risk-below facts node risk n p q r s _ lt h = absurd h

-- what the names say
pub names-none : (facts : Facts) (survey : Survey) (node : ℕ) (risk : Risk) (items : List RiskName) → IsSurvey facts survey → items ≡ survey.names.items → false ≡ list_any (same_name (name_of node risk)) items → RiskFails facts node risk NoLink
names-none facts survey node risk items s e f a c named =
    let said = announcements_of facts in
    let none : false ≡ list_any (is_named (name_of node risk)) said = f ∙ sorted-same (names_in said) survey.names.items items (same_name (name_of node risk)) s.names e ∙ named-any (name_of node risk) said in
    let found : list_any (is_named (name_of node risk)) said ≡ true = any-from (is_named (name_of node risk)) said a c named in
    let bad : false ≡ true = none ∙ found in cc

pub names-some : (facts : Facts) (survey : Survey) (node : ℕ) (risk : Risk) (items : List RiskName) → IsSurvey facts survey → items ≡ survey.names.items → true ≡ list_any (same_name (name_of node risk)) items → RiskFails facts node risk NoLink → ⊥
names-some facts survey node risk items s e f h =
    let said = announcements_of facts in
    let found = any-to (is_named (name_of node risk)) said (sym (f ∙ sorted-same (names_in said) survey.names.items items (same_name (name_of node risk)) s.names e ∙ named-any (name_of node risk) said)) in
    h found.0 found.1 found.2

pub used-none : (facts : Facts) (survey : Survey) (node : ℕ) (risk : Risk) (items : List RiskName) → IsSurvey facts survey → items ≡ survey.used.items → false ≡ list_any (same_name (name_of node risk)) items → RiskFails facts node risk LinkUnused
used-none facts survey node risk items s e f a c named used =
    let said = filter (has_link facts) (announcements_of facts) in
    let none : false ≡ list_any (is_named (name_of node risk)) said = f ∙ sorted-same (names_in said) survey.used.items items (same_name (name_of node risk)) s.used e ∙ named-any (name_of node risk) said in
    let found : list_any (is_named (name_of node risk)) said ≡ true = any-from (is_named (name_of node risk)) said a (filtered-to (has_link facts) (announcements_of facts) a c (used-linked facts a used)) named in
    let bad : false ≡ true = none ∙ found in cc

pub used-some : (facts : Facts) (survey : Survey) (node : ℕ) (risk : Risk) (items : List RiskName) → IsSurvey facts survey → items ≡ survey.used.items → true ≡ list_any (same_name (name_of node risk)) items → RiskFails facts node risk LinkUnused → ⊥
used-some facts survey node risk items s e f h =
    let said = filter (has_link facts) (announcements_of facts) in
    let found = any-to (is_named (name_of node risk)) said (sym (f ∙ sorted-same (names_in said) survey.used.items items (same_name (name_of node risk)) s.used e ∙ named-any (name_of node risk) said)) in
    let kept = filtered-from (has_link facts) (announcements_of facts) found.0 found.1 in
    h found.0 kept.0 found.2 (linked-used facts found.0 kept.1)

-- what is looked up of an announcement
pub absent-not : (facts : Facts) (a : Announcement) → true ≡ is_present facts a.key.to → AnnouncementFails facts a NeighbourAbsent → ⊥
absent-not facts a e h = let bad : true ≡ false = e ∙ h in cc

pub ends-none : (facts : Facts) (survey : Survey) (a : Announcement) (items : List Ends) → IsSurvey facts survey → items ≡ survey.ends.items → false ≡ list_any (eq_by_cmp ends_cmp (record { from = a.key.to; to = a.key.from })) items → AnnouncementFails facts a OneWay
ends-none facts survey a items s e f link =
    let ends : Ends = record { from = a.key.to; to = a.key.from } in
    let bad : false ≡ true = f ∙ sorted-same (map ends_of (announcements_of facts)) survey.ends.items items (eq_by_cmp ends_cmp ends) s.ends e ∙ ends-found facts ends link in
    cc

pub ends-some : (facts : Facts) (survey : Survey) (a : Announcement) (items : List Ends) → IsSurvey facts survey → items ≡ survey.ends.items → true ≡ list_any (eq_by_cmp ends_cmp (record { from = a.key.to; to = a.key.from })) items → AnnouncementFails facts a OneWay → ⊥
ends-some facts survey a items s e f none =
    let ends : Ends = record { from = a.key.to; to = a.key.from } in
    none (ends-said facts ends (sym (f ∙ sorted-same (map ends_of (announcements_of facts)) survey.ends.items items (eq_by_cmp ends_cmp ends) s.ends e)))

pub key-asked : (facts : Facts) (survey : Survey) (a : Announcement) (key : LinkKey) (items : List LinkKey) (b : Bool) → IsSurvey facts survey → key ≡ mirror a.key → items ≡ survey.keys.items → b ≡ list_any (same_key key) items → is_announced (announcements_of facts) (mirror a.key) ≡ b
key-asked facts survey a key items b s is e f =
    sym (s.keys.each (mirror a.key))
    ∙ ap (λ (k : LinkKey). list_any (same_key k) survey.keys.items) (sym is)
    ∙ ap (list_any (same_key key)) (sym e)
    ∙ sym f

pub identity-not : (facts : Facts) (survey : Survey) (a : Announcement) (key : LinkKey) (items : List LinkKey) → IsSurvey facts survey → key ≡ mirror a.key → items ≡ survey.keys.items → true ≡ list_any (same_key key) items → AnnouncementFails facts a Identity → ⊥
identity-not facts survey a key items s is e f h = let bad : true ≡ false = sym (key-asked facts survey a key items true s is e f) ∙ h in cc

-- there are groups
pub risk-groups : (groups slice : List ℕ) → slice ≡ groups → false ≡ (length slice == 0) → groups ≡ [] → ⊥
risk-groups groups slice e some none = let bad : false ≡ true = some ∙ ap (λ (n : ℕ). n == 0) (ap length (e ∙ none)) in cc
