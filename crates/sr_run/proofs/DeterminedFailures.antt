-- Questions about a failure are told alike: spaces, repairs, the walks of repaired packets, and audits.
use Rattle.std.proofs.Common.{◌≡◌, ℕ, zero, suc, ◌+◌, ◌<◌, ◌≤◌, Bool, false, cond, List, [], ◌∷◌, ◌++◌, refl, sym, ap, subst, ◌∙◌, arith, ◌⊎◌, inl, inr, Some}
use Rattle.std.specs.Prelude.{codes, IsTrue, ◌↔◌}
use Rattle.std.specs.List.{filter, range_with_len}
use Rattle.std.proofs.lemmas.Bool.{false≢true}
use Rattle.sr_model.specs.declared.case.Case.{Case}
use Rattle.sr_model.specs.declared.link.LinkNo.{LinkNo}
use Rattle.sr_model.specs.declared.entry.Move.{Move}
use Rattle.sr_model.specs.declared.repair.Answer.{Answer}
use Rattle.sr_model.specs.declared.repair.Answer.TheVariants.{Least}
use Rattle.sr_model.specs.declared.repair.RepairList.{RepairList}
use Rattle.sr_model.specs.declared.audit.Item.{Item}
use Rattle.sr_model.specs.Audit.{AreLabelsOf, is_least, counts_of}
use Rattle.sr_model.specs.Case.{source_of}
use Rattle.sr_model.specs.Forward.{IsStack, RunBy, crossed}
use Rattle.sr_model.specs.Graph.{Graph, node_count, has, head}
use Rattle.sr_model.specs.Label.{Net}
use Rattle.sr_model.specs.Repair.{IsCaseAnswer}
use Rattle.sr_model.specs.Rule.{IsNet}
use Rattle.sr_laws.proofs.Answers.{case-answer-one}
use Rattle.sr_laws.proofs.Audits.{audit-one, labels_one}
use Rattle.sr_laws.proofs.Failures.{failed-one, test-same}
use Rattle.sr_laws.proofs.Stacks.{stack-one}
use Rattle.sr_spaces.specs.Sets.{IsP, IsExtendedP, IsQ}
use Rattle.sr_lsdb.specs.declared.facts.Facts.{Facts}
use Rattle.sr_adjprot.specs.declared.answer.AdjAnswer.{AdjAnswer}
use Rattle.sr_adjprot.specs.Active.{IsAdjAnswer}
use Rattle.sr_adjprot.proofs.AnswerLemmas.{adj-answer-one, backup-one}
use Rattle.sr_adjprot.proofs.MarkLemmas.{eligible-one}
use Rattle.sr_script.specs.declared.name.LinkName.{LinkName}
use Rattle.sr_script.specs.declared.name.RepairName.{RepairName}
use Rattle.sr_print.specs.Printed.{ended}
use Rattle.sr_print.specs.Spaces.{node_words, set_line, spaces_lines}
use Rattle.sr_print.specs.Told.{Told, spelled, is_refusal}
use Rattle.sr_print.specs.Told.Told.{Spaces, Repair, AdjRepair, AdjBackup, Walk, Uncovered, Summary, Audit}
use Rattle.sr_repair.specs.Version.{NumberedNet}
use Rattle.sr_run.specs.Failures.{AreCaseSpaces, IsActiveOf, IsRepaired, IsRepairWalked, TellsSpaces, TellsRepair, TellsAdjRepair, TellsAdjRepairOf, TellsAdjBackup, TellsAdjBackupOf, TellsRepairWalk, TellsSummary, TellsAudit}
use Rattle.sr_run.specs.Questions.{IsRefused}
use Rattle.sr_run.proofs.DeterminedTold.{AreAlike, alike, alike-refused}
use Rattle.sr_run.proofs.DeterminedNames.{of-named_link, of-failure, of-affected}
use Rattle.sr_run.proofs.DeterminedQuestions.{emptied-one, numbers-one}

-- ---- spaces

-- tests that agree on a range keep the same of it
filter-within : (p q : ℕ → Bool) (first count : ℕ) → ((v : ℕ) → first ≤ v → v < first + count → p v ≡ q v) → filter p (range_with_len first count) ≡ filter q (range_with_len first count)
filter-within p q first zero agree = refl
filter-within p q first (suc count) agree =
    let here : p first ≡ q first = agree first (omega arith) (omega arith) in
    let rest : filter p (range_with_len (first + 1) count) ≡ filter q (range_with_len (first + 1) count) = filter-within p q (first + 1) count (λ v low high. agree v (omega arith) (omega arith)) in
    ap (λ (t : Bool). cond t (first ∷ filter p (range_with_len (first + 1) count)) (filter p (range_with_len (first + 1) count))) here
    ∙ ap (λ (vs : List ℕ). cond (q first) (first ∷ vs) vs) rest

-- sets that agree on the nodes have the same line
line-one : (name : List ℕ) (g : Graph) (a b : List Bool) → ((v : ℕ) → v < node_count g → has a v ≡ has b v) → set_line name g a ≡ set_line name g b
line-one name g a b agree =
    ap (λ (nodes : List ℕ). ended (name ++ node_words g nodes)) (filter-within (has a) (has b) 0 (node_count g) (λ v low high. agree v (omega arith)))

-- tests of one thing agree
tests-agree : (g : Graph) (a b : List Bool) (In : ℕ → Type 0) → ((v : ℕ) → v < node_count g → IsTrue (has a v) ↔ In v) → ((v : ℕ) → v < node_count g → IsTrue (has b v) ↔ In v) → (v : ℕ) → v < node_count g → has a v ≡ has b v
tests-agree g a b In x y v within = test-same (has a v) (has b v) (λ t. (y v within).1 ((x v within).0 t)) (λ t. (x v within).1 ((y v within).0 t))

spaces-one : (g : Graph) (case : Case) (d : ℕ) (p extended q p' extended' q' : List Bool) → AreCaseSpaces g case d p extended q → AreCaseSpaces g case d p' extended' q' → spaces_lines g p extended q ≡ spaces_lines g p' extended' q'
spaces-one g case d p extended q p' extended' q' x y =
    let set : y.x ≡ x.x = failed-one g case y.x x.x y.failed x.failed in
    let first : set_line (codes "p") g p ≡ set_line (codes "p") g p' =
    line-one (codes "p") g p p' (tests-agree g p p' _ x.p_is (subst (λ (s : List Bool). IsP g s (source_of g case) p') set y.p_is)) in
    let second : set_line (codes "extended") g extended ≡ set_line (codes "extended") g extended' =
    line-one (codes "extended") g extended extended' (tests-agree g extended extended' _ x.extended_is (subst (λ (s : List Bool). IsExtendedP g s (source_of g case) extended') set y.extended_is)) in
    let third : set_line (codes "q") g q ≡ set_line (codes "q") g q' =
    line-one (codes "q") g q q' (tests-agree g q q' _ x.q_is (subst (λ (s : List Bool). IsQ g s d q') set y.q_is)) in
    three _ _ _ _ _ _ first second third
  where
    three : (i j k i' j' k' : List ℕ) → i ≡ i' → j ≡ j' → k ≡ k' → i ++ j ++ k ≡ i' ++ j' ++ k'
    three i j k i' j' k' e f h = cc

-- ---- repairs

-- a list that is the answer isn't another sort of answer
pub least-not_other : (answer : Answer) (list : RepairList) → answer ≡ Least list → is_least answer ≡ false → ⊥
least-not_other answer list e f = false≢true (sym f ∙ ap is_least e)

list-one : (a b : RepairList) → Least a ≡ Least b → a ≡ b
list-one a b e = cc

-- a link of one set of facts has one answer for packets under its label
active-one : (facts : Facts) (n : Net) (link : LinkNo) (answer other : AdjAnswer) → IsActiveOf facts n link answer → IsActiveOf facts n link other → answer ≡ other
active-one facts n link answer other p q =
    let tests : q.eligible ≡ p.eligible = eligible-one facts n q.eligible p.eligible q.are_eligible p.are_eligible in
    adj-answer-one n p.eligible link answer other p.answer_is (subst (λ (t : List Bool). IsAdjAnswer n t link other) tests q.answer_is)

-- the packet of a repair crosses one list of links
repair-walked-one : (n : Net) → IsNet n → (case : Case) (d choice : ℕ) (links more : List LinkNo) → IsRepairWalked n case d choice links → IsRepairWalked n case d choice more → links ≡ more
repair-walked-one n net case d choice links more p q =
    let list : q.list ≡ p.list = list-one q.list p.list (case-answer-one n case d (Least q.list) (Least p.list) q.answer p.answer) in
    let stack : IsStack n d p.list.first.0 p.list.segments q.labels = subst (λ (l : RepairList). IsStack n d l.first.0 l.segments q.labels) list q.stack in
    let labels : q.labels ≡ p.labels = stack-one n d p.list.first.0 p.list.segments q.labels p.labels stack p.stack in
    let set : q.x ≡ p.x = failed-one n.graph case q.x p.x q.failed p.failed in
    let run : RunBy n p.x choice (head n.graph p.list.first.0) p.labels q.moves d [] =
    subst (λ (x : List Bool). RunBy n x choice (head n.graph p.list.first.0) p.labels q.moves d []) set
    (subst (λ (t : List ℕ). RunBy n q.x choice (head n.graph p.list.first.0) t q.moves d []) labels
    (subst (λ (l : RepairList). RunBy n q.x choice (head n.graph l.first.0) q.labels q.moves d []) list q.run)) in
    let moves : p.moves ≡ q.moves = emptied-one n net p.x choice (head n.graph p.list.first.0) p.labels p.moves q.moves d d p.run run in
    let first : p.list.first.0 ≡ q.list.first.0 = ap (λ (l : RepairList). l.first.0) (sym list) in
    numbers-one links more (p.crosses ∙ ap (λ (ms : List Move). p.list.first.0 ∷ crossed ms) moves ∙ ap (λ (l : ℕ). l ∷ crossed q.moves) first ∙ sym q.crosses)

-- ---- the questions

-- P, extended P and Q are told
abbrev SpacesAre : Net → Told → Case → ℕ → Type 0
SpacesAre n told case d = (p : List Bool) × (extended : List Bool) × (q : List Bool) × AreCaseSpaces n.graph case d p extended q × (told ≡ Spaces n.graph p extended q)

-- the answer and its labels are told
abbrev RepairIs : Net → Told → Case → ℕ → Type 0
RepairIs n told case d = (answer : Answer) × (labels : List ℕ) × IsRepaired n case d answer labels × (told ≡ Repair n case d answer labels)

-- why there is no repair is told
abbrev IsUncovered : Net → Told → Case → ℕ → Type 0
IsUncovered n told case d = (answer : Answer) × IsCaseAnswer n case d answer × (is_least answer ≡ false) × (told ≡ Uncovered answer)

-- the links of the repaired packet are told
abbrev WalkIs : Net → ℕ → Told → Case → ℕ → Type 0
WalkIs n choice told case d = (links : List LinkNo) × IsRepairWalked n case d choice links × (told ≡ Walk n (source_of n.graph case) (Some links))

-- a case isn't covered, or its packet is walked
not-both : (n : Net) (choice : ℕ) (told other : Told) (case : Case) (d : ℕ) → IsUncovered n told case d → WalkIs n choice other case d → ⊥
not-both n choice told other case d x y = least-not_other x.0 y.1.list (case-answer-one n case d x.0 (Least y.1.list) x.1 y.1.answer) x.2

module _ (version : NumberedNet) (net : IsNet version.net) (a b : Told) where
  spaces-told : (case : Case) (d : ℕ) → SpacesAre version.net a case d → SpacesAre version.net b case d → AreAlike a b
  spaces-told case d x y = record {
    text = λ number. ap (spelled number) x.4 ∙ spaces-one version.net.graph case d x.0 x.1 x.2 y.0 y.1 y.2 x.3 y.3 ∙ sym (ap (spelled number) y.4);
    refusal = ap is_refusal x.4 ∙ sym (ap is_refusal y.4);
  }

  -- P, extended P and Q
  pub spaces-alike : (repair : RepairName) → TellsSpaces repair version a → TellsSpaces repair version b → AreAlike a b
  spaces-alike repair =
      of-failure (AreAlike a b) (IsRefused a) (IsRefused b) (alike-refused a b) version.net net.named repair
      (SpacesAre version.net a) (SpacesAre version.net b) spaces-told

  repair-told : (case : Case) (d : ℕ) → RepairIs version.net a case d → RepairIs version.net b case d → AreAlike a b
  repair-told case d x y =
      let answer : y.0 ≡ x.0 = case-answer-one version.net case d y.0 x.0 y.2.answer_is x.2.answer_is in
      let labels : x.1 ≡ y.1 = labels_one version.net d x.0 x.1 y.1 x.2.labels_are (subst (λ (r : Answer). AreLabelsOf version.net d r y.1) answer y.2.labels_are) in
      alike a b (Repair version.net case d x.0 x.1) (Repair version.net case d y.0 y.1) x.3 y.3
      (ap (λ (r : Answer). Repair version.net case d r x.1) (sym answer) ∙ ap (λ (ts : List ℕ). Repair version.net case d y.0 ts) labels)

  -- the answer and its labels
  pub repair-alike : (repair : RepairName) → TellsRepair repair version a → TellsRepair repair version b → AreAlike a b
  repair-alike repair =
      of-affected (AreAlike a b) (IsRefused a) (IsRefused b) (alike-refused a b) version.net net.named repair
      (RepairIs version.net a) (RepairIs version.net b) repair-told

  -- what is done with packets under an adjacency label
  pub adjrepair-alike : (name : LinkName) (facts : Facts) → TellsAdjRepair name facts version a → TellsAdjRepair name facts version b → AreAlike a b
  adjrepair-alike name facts =
      of-named_link (AreAlike a b) (IsRefused a) (IsRefused b) (alike-refused a b) version.net net.named name
      (λ link. TellsAdjRepairOf facts version.net link a) (λ link. TellsAdjRepairOf facts version.net link b)
      (λ link x y. alike a b (AdjRepair version.net link x.0) (AdjRepair version.net link y.0) x.2 y.2
      (ap (AdjRepair version.net link) (active-one facts version.net link x.0 y.0 x.1 y.1)))

  -- what is done with packets under the other label
  pub adjbackup-alike : (name : LinkName) (facts : Facts) → TellsAdjBackup name facts version a → TellsAdjBackup name facts version b → AreAlike a b
  adjbackup-alike name facts =
      of-named_link (AreAlike a b) (IsRefused a) (IsRefused b) (alike-refused a b) version.net net.named name
      (λ link. TellsAdjBackupOf facts version.net link a) (λ link. TellsAdjBackupOf facts version.net link b)
      (λ link x y. alike a b (AdjBackup version.net link x.0) (AdjBackup version.net link y.0) x.2 y.2
      (ap (AdjBackup version.net link) (backup-one facts version.net link x.0 y.0 x.1 y.1)))

  walk-told : (choice : ℕ) (case : Case) (d : ℕ) → IsUncovered version.net a case d ⊎ WalkIs version.net choice a case d → IsUncovered version.net b case d ⊎ WalkIs version.net choice b case d → AreAlike a b
  walk-told choice case d (inl x) (inl y) = alike a b (Uncovered x.0) (Uncovered y.0) x.3 y.3 (ap Uncovered (case-answer-one version.net case d x.0 y.0 x.1 y.1))
  walk-told choice case d (inl x) (inr y) = absurd (not-both version.net choice a b case d x y)
  walk-told choice case d (inr x) (inl y) = absurd (not-both version.net choice b a case d y x)
  walk-told choice case d (inr x) (inr y) =
      let from : ℕ = source_of version.net.graph case in
      alike a b (Walk version.net from (Some x.0)) (Walk version.net from (Some y.0)) x.2 y.2
      (ap (λ (links : List LinkNo). Walk version.net from (Some links)) (repair-walked-one version.net net case d choice x.0 y.0 x.1 y.1))

  -- the walk of the repaired packet
  pub repair-walk-alike : (repair : RepairName) (choice : ℕ) → TellsRepairWalk repair choice version a → TellsRepairWalk repair choice version b → AreAlike a b
  repair-walk-alike repair choice =
      of-affected (AreAlike a b) (IsRefused a) (IsRefused b) (alike-refused a b) version.net net.named repair
      (λ case d. IsUncovered version.net a case d ⊎ WalkIs version.net choice a case d) (λ case d. IsUncovered version.net b case d ⊎ WalkIs version.net choice b case d) (walk-told choice)

  -- the counts of the audit
  pub summary-alike : TellsSummary version a → TellsSummary version b → AreAlike a b
  summary-alike x y =
      alike a b (Summary version.number (counts_of x.0)) (Summary version.number (counts_of y.0)) x.2 y.2
      (ap (λ (items : List Item). Summary version.number (counts_of items)) (audit-one version.net x.0 y.0 x.1 y.1))

  -- the whole audit
  pub audit-alike : TellsAudit version a → TellsAudit version b → AreAlike a b
  audit-alike x y = alike a b (Audit version x.0) (Audit version y.0) x.2 y.2 (ap (Audit version) (audit-one version.net x.0 y.0 x.1 y.1))
