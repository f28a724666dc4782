-- The items of a case, each for one of its answers.
use Rattle.std.proofs.Common.{◌≡◌, ℕ, zero, suc, ◌<◌, ◌≤◌, ⊎_elim, List, [], ◌∷◌, length, Some, slice_get, refl, sym, ap, ◌∙◌, subst, arith}
use Rattle.std.specs.List.{AllZip}
use Rattle.std.specs.Prelude.{reverse}
use Rattle.std.proofs.lemmas.Bool.{cases_lt}
use Rattle.std.proofs.lemmas.List.{reverse-reverse}
use Rattle.std.proofs.lemmas.Option.{same_Some}
use Rattle.std.proofs.lemmas.Slice.Zip.{AllZip-long}
use Rattle.sr_model.specs.declared.case.Case.{Case}
use Rattle.sr_model.specs.declared.link.NodeNo.{NodeNo}
use Rattle.sr_model.specs.declared.audit.Item.{Item}
use Rattle.sr_model.specs.declared.repair.Answer.{Answer}
use Rattle.sr_model.specs.declared.repair.Answer.TheVariants.{Least, NoPath, NoList, TooDeep}
use Rattle.sr_model.specs.Audit.{AreLabelsOf, IsItem}
use Rattle.sr_model.specs.Case.{IsCase, IsAffected, source_of}
use Rattle.sr_model.specs.Forward.{IsStack}
use Rattle.sr_model.specs.Label.{Net}
use Rattle.sr_model.specs.Repair.{IsCaseAnswer, path_of}
use Rattle.sr_model.specs.Rule.{IsNet}
use Rattle.sr_laws.proofs.StacksThere.{stack-there}
use Rattle.sr_encode.specs.declared.answers.NodeAnswer.{NodeAnswer}
use Rattle.sr_encode.specs.Answered.{node_answer_at, destination_at, answer_at, AreAnswers}
use Rattle.sr_encode.proofs.AnswerLemmas.{affected-within}
use Rattle.sr_repair.specs.Items.{IsItemFor}
use Rattle.sr_audit.specs.Cases.{IsCaseAudit}

-- each item stands for the answer at its place
item-for : (n : Net) (case : Case) (answers : List NodeAnswer) (items : List Item) → AllZip (IsItemFor n case) answers items → (k : ℕ) (item : Item) → slice_get items k ≡ Some item → (k < length answers) × IsItemFor n case (node_answer_at answers k) item
item-for n case [] [] zip k item e = absurd {0} (cc)
item-for n case [] (x ∷ items) zip k item e = absurd zip
item-for n case (a ∷ answers) [] zip k item e = absurd zip
item-for n case (a ∷ answers) (x ∷ items) zip zero item e = (omega arith, subst (IsItemFor n case a) (same_Some _ _ e) zip.0)
item-for n case (a ∷ answers) (x ∷ items) zip (suc k) item e =
    let more = item-for n case answers items zip.1 k item e in
    (omega (arith, more.0), more.1)

-- what stands for an answer of the case is an item of the net
item-is : (n : Net) (case : Case) (entry : NodeAnswer) (item : Item) → IsCase n.graph case → IsAffected n case entry.destination.0 → IsCaseAnswer n case entry.destination.0 entry.answer → IsItemFor n case entry item → IsItem n item
item-is n case entry item within affected answer is = record {
  within = rw is.case within;
  affected = rw (is.case, is.dest) affected;
  answer = rw (is.case, is.dest, is.answer) answer;
  labels = rw (is.dest, is.answer) is.labels;
}

-- there is an item at each place
get-some : {X : Type 0} (xs : List X) (k : ℕ) → k < length xs → (x : X) × (slice_get xs k ≡ Some x)
get-some [] k lt = absurd (omega arith)
get-some (x ∷ xs) zero lt = (x, refl)
get-some (x ∷ xs) (suc k) lt = get-some xs k (omega arith)

-- the items for all answers are the audit of the case
pub items-audit : (n : Net) (case : Case) (answers : List NodeAnswer) (items : List Item) → IsCase n.graph case → AreAnswers n case answers → AllZip (IsItemFor n case) answers items → IsCaseAudit n case items
items-audit n case answers items within are zip = record {
  each = λ k item e.
      let at = item-for n case answers items zip k item e in
      (item-is n case (node_answer_at answers k) item within (are.affected k at.0) (are.answers k at.0) at.1, at.1.case);
  ascending = λ j k a b lt ea eb.
      let one = item-for n case answers items zip j a ea in
      let two = item-for n case answers items zip k b eb in
      rw (one.1.dest, two.1.dest) (are.ascending j k lt two.0);
  all = λ d affected.
      let at = are.all d affected in
      let there = get-some items at.0 (omega (arith, at.1, AllZip-long (IsItemFor n case) answers items zip)) in
      let is = item-for n case answers items zip at.0 there.0 there.1 in
      (at.0, there.0, there.1, ap (λ (v : NodeNo). v.0) is.1.dest ∙ at.2);
}

-- destinations ascend from 0 or above
answers-from : (n : Net) (case : Case) (answers : List NodeAnswer) → AreAnswers n case answers → (k : ℕ) → k < length answers → k ≤ destination_at answers k
answers-from n case answers are zero lt = omega arith
answers-from n case answers are (suc k) lt =
    let from = answers-from n case answers are k (omega arith) in
    let above = are.ascending k (suc k) (omega arith) lt in
    omega (arith, from, above)

-- there are no more answers than a graph has nodes
pub answers-few : (n : Net) (case : Case) (answers : List NodeAnswer) → IsNet n → AreAnswers n case answers → length answers ≤ 256
answers-few n case answers net are = ⊎_elim
    (λ (many : 256 < length answers).
    let from = answers-from n case answers are 256 many in
    absurd (omega (arith, from, affected-within n case (destination_at answers 256) net.nodes (are.affected 256 many), net.graph.few_nodes)))
    (λ few. few)
    (cases_lt 256 (length answers))

-- nor are there more items
pub items-few : (n : Net) (case : Case) (answers : List NodeAnswer) (items : List Item) → IsNet n → AreAnswers n case answers → AllZip (IsItemFor n case) answers items → length items ≤ 256
items-few n case answers items net are zip = omega (arith, answers-few n case answers net are, AllZip-long (IsItemFor n case) answers items zip)

-- an answer has labels
labels-there : (n : Net) (case : Case) (d : ℕ) (answer : Answer) → IsNet n → IsAffected n case d → IsCaseAnswer n case d answer → (labels : List ℕ) × AreLabelsOf n d answer labels
labels-there n case d (Least list) net affected is =
    let within = affected-within n case d net.nodes affected in
    let stack = stack-there n net is.failed (source_of n.graph case) d (path_of list) within affected.index is.answers.0.sound in
    (reverse stack.0, subst (IsStack n d list.first.0 list.segments) (sym (reverse-reverse stack.0)) stack.1)
labels-there n case d NoPath net affected is = ([], refl)
labels-there n case d NoList net affected is = ([], refl)
labels-there n case d (TooDeep k) net affected is = ([], refl)

-- an answer of the case has an item
item-there : (n : Net) (case : Case) (entry : NodeAnswer) → IsNet n → IsAffected n case entry.destination.0 → IsCaseAnswer n case entry.destination.0 entry.answer → (item : Item) × IsItemFor n case entry item
item-there n case entry net affected answer =
    let labels = labels-there n case entry.destination.0 entry.answer net affected answer in
    (record { case = case; dest = entry.destination; answer = entry.answer; labels = labels.0 }, record { case = refl; dest = refl; answer = refl; labels = labels.1 })

-- answers for affected destinations
abbrev AreEach : Net → Case → List NodeAnswer → Type 0
AreEach n case answers = (i : ℕ) → i < length answers → IsAffected n case (destination_at answers i) × IsCaseAnswer n case (destination_at answers i) (answer_at answers i)

each-there : (n : Net) (case : Case) (answers : List NodeAnswer) → IsNet n → AreEach n case answers → (items : List Item) × AllZip (IsItemFor n case) answers items
each-there n case [] net each = ([], tt)
each-there n case (a ∷ answers) net each =
    let here = each 0 (omega arith) in
    let first = item-there n case a net here.0 here.1 in
    let more = each-there n case answers net (λ i lt. each (suc i) (omega arith)) in
    (first.0 ∷ more.0, (first.1, more.1))

-- the answers of a case have items
pub items-there : (n : Net) (case : Case) (answers : List NodeAnswer) → IsNet n → AreAnswers n case answers → (items : List Item) × AllZip (IsItemFor n case) answers items
items-there n case answers net are = each-there n case answers net (λ i lt. (are.affected i lt, are.answers i lt))
