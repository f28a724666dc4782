-- A case has one reason for a destination.
use Rattle.std.proofs.Common.{◌≡◌, ℕ, ◌<◌, Bool, false, List, refl, arith, ap, sym, ◌∙◌, subst}
use Rattle.std.specs.Prelude.{count_by, slice_index_or}
use Rattle.sr_model.specs.declared.repair.Answer.{Answer}
use Rattle.sr_model.specs.declared.repair.Answer.TheVariants.{Least, NoPath, NoList, TooDeep}
use Rattle.sr_model.specs.Graph.{Graph, node_count}
use Rattle.sr_model.specs.Label.{Net}
use Rattle.sr_model.specs.Case.{source_of}
use Rattle.sr_model.specs.Repair.{Path}
use Rattle.sr_walks.proofs.Distances.{distance-unique}
use Rattle.sr_laws.proofs.Answers.{case-answer-one, least-one}
use Rattle.sr_laws.proofs.Failures.{failed-one, test-same, tests-same}
use Rattle.sr_why.specs.declared.reason.Cause.{Cause}
use Rattle.sr_why.specs.declared.reason.Cause.TheVariants.{NoPath as NoPathLeft, NoList as NoListSound, TooDeep as ListTooDeep}
use Rattle.sr_why.specs.declared.whole.WholeList.{WholeList}
use Rattle.sr_why.specs.Laws.{ReasonsAreDetermined}
use Rattle.sr_why.specs.Reasons.{AreReached, Explains, IsLeastIfLabelled, IsLeastList, IsReachedCount, IsReasonOf, path_of_list}
use Rattle.sr_why.proofs.SoundLemmas.{agree-labelled, list-agree}

reached_one : (g : Graph) (x : List Bool) (s : ℕ) (one two : List Bool) → AreReached g x s one → AreReached g x s two → one ≡ two
reached_one g x s one two a b =
    tests-same one two (a.long ∙ sym b.long) (λ v lt.
    let within : v < node_count g = omega (arith, a.long) in
    test-same (slice_index_or one v false) (slice_index_or two v false)
    (λ e. (b.each v within).1 ((a.each v within).0 e))
    (λ e. (a.each v within).1 ((b.each v within).0 e)))

count_one : (g : Graph) (x : List Bool) (s : ℕ) (one two : ℕ) → IsReachedCount g x s one → IsReachedCount g x s two → one ≡ two
count_one g x s one two a b =
    a.2 ∙ ap (λ (tests : List Bool). count_by (λ (test : Bool). test) tests) (reached_one g x s a.0 b.0 a.1 b.1) ∙ sym b.2

-- lists with the same first link, segments and cost are the same
whole_is : (a b : WholeList) → path_of_list a ≡ path_of_list b → a.cost ≡ b.cost → a ≡ b
whole_is a b e c =
    let f : a.first.0 ≡ b.first.0 = ap (λ (p : Path). p.first) e in
    let s : a.segments ≡ b.segments = ap (λ (p : Path). p.segments) e in
    let q : record { first = record { 0 = a.first.0 }; segments = a.segments; cost = a.cost } ≡ record { first = record { 0 = b.first.0 }; segments = b.segments; cost = b.cost } = rw (f, s, c) refl in
    q

least_list_one : (n : Net) (x : List Bool) (s d : ℕ) (a b : WholeList) → IsLeastList n x s d a → IsLeastList n x s d b → a ≡ b
least_list_one n x s d a b p q =
    whole_is a b (least-one n x s d (path_of_list a) (path_of_list b) p.least q.least) (distance-unique n.graph x s d a.cost b.cost p.costs q.costs)

-- two labelled nets have one least list
labelled_list_one : (n : Net) (x : List Bool) (s d : ℕ) (a b : WholeList) → IsLeastIfLabelled n x s d a → IsLeastIfLabelled n x s d b → a ≡ b
labelled_list_one n x s d a b p q =
    least_list_one q.0 x s d a b (list-agree p.0 q.0 (agree-labelled n p.0 q.0 p.1 q.1) x s d a p.2) q.2

-- reasons of one answer that explain the same are the same
explained_one : (n : Net) (x : List Bool) (s d : ℕ) (answer : Answer) (one two : Cause) → IsReasonOf answer one → IsReasonOf answer two → Explains n x s d one → Explains n x s d two → one ≡ two
explained_one n x s d (Least list) one two p q a b = p ∙ sym q
explained_one n x s d NoPath one two p q a b =
    p.1 ∙ ap NoPathLeft (count_one n.graph x s p.0 q.0 (rw p.1 at a) (rw q.1 at b)) ∙ sym q.1
explained_one n x s d NoList one two p q a b =
    p.1 ∙ ap NoListSound (labelled_list_one n x s d p.0 q.0 (rw p.1 at a) (rw q.1 at b)) ∙ sym q.1
explained_one n x s d (TooDeep k) one two p q a b =
    p.1 ∙ ap ListTooDeep (least_list_one n x s d p.0 q.0 (rw p.1 at a) (rw q.1 at b)) ∙ sym q.1

pub reasons-one : ReasonsAreDetermined
reasons-one n case d one two net a b =
    let s : ℕ = source_of n.graph case in
    let answer : a.answer ≡ b.answer = case-answer-one n case d a.answer b.answer a.answer_is b.answer_is in
    let failed : b.failed ≡ a.failed = failed-one n.graph case b.failed a.failed b.set a.set in
    explained_one n a.failed s d b.answer one two
    (subst (λ (k : Answer). IsReasonOf k one) answer a.of)
    b.of
    a.explains
    (subst (λ x. Explains n x s d two) failed b.explains)
