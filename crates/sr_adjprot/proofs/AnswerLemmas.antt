-- A link has one answer, and each answer delivers.
use Rattle.std.proofs.Common.{◌≡◌, ◌≢◌, ℕ, ◌+◌, ◌<◌, ◌≤◌, Bool, true, false, List, [], reverse, refl, arith, ap, sym, ◌∙◌, subst, None, Some}
use Rattle.std.specs.Prelude.{is_some}
use Rattle.std.proofs.lemmas.Bool.{false≢true}
use Rattle.std.specs.Prelude.{replicate}
use Rattle.std.proofs.lemmas.List.{reverse-reverse, get_or-replicate}
use Rattle.sr_model.specs.declared.link.LinkNo.{LinkNo}
use Rattle.sr_model.specs.declared.repair.Answer.{Answer}
use Rattle.sr_model.specs.declared.repair.Answer.TheVariants.{Least}
use Rattle.sr_model.specs.declared.repair.RepairList.{RepairList}
use Rattle.sr_model.specs.Audit.{is_least}
use Rattle.sr_model.specs.Graph.{has, link_count, tail, head, metric, link_at, IsLink}
use Rattle.sr_model.specs.Walk.{cost}
use Rattle.sr_model.specs.Case.{IsAffected}
use Rattle.sr_model.specs.Label.{Net, labels_at}
use Rattle.sr_model.specs.Rule.{IsNet}
use Rattle.sr_model.specs.Forward.{IsStack}
use Rattle.sr_walks.proofs.Distances.{distance-unique}
use Rattle.sr_laws.proofs.Answers.{case-answer-one}
use Rattle.sr_laws.proofs.Packets.{packet-delivers}
use Rattle.sr_laws.proofs.Stacks.{label-same, stack-one}
use Rattle.sr_laws.proofs.Steering.{steered-avoids}
use Rattle.sr_repair.proofs.DeliveryLemmas.{stack-delivers}
use Rattle.sr_adjprot.specs.declared.answer.AdjAnswer.{AdjAnswer}
use Rattle.sr_adjprot.specs.declared.answer.AdjAnswer.TheVariants.{Unprotected, NoIndex, Steer, Repair, Uncovered}
use Rattle.sr_adjprot.specs.Active.{adj_case, IsOwnHop, IsRedirected, IsAdjAnswer}
use Rattle.sr_adjprot.specs.Delivery.{AdjDelivers}
use Rattle.sr_adjprot.specs.Backup.{IsReplaced}
use Rattle.sr_adjprot.specs.Laws.{BackupsAreUnique}
use Rattle.sr_seq.proofs.ListLemmas.{none-not_some}

-- the lists and stacks of one answer are the same
repair_same : (n : Net) (l : LinkNo) (a b : RepairList) (labels more : List ℕ) → IsRedirected n l (Least a) → IsRedirected n l (Least b) → IsStack n (head n.graph l.0) a.first.0 a.segments (reverse labels) → IsStack n (head n.graph l.0) b.first.0 b.segments (reverse more) → Repair a labels ≡ Repair b more
repair_same n l a b labels more p q s t =
    let lists : a ≡ b = same a b (case-answer-one n (adj_case l) (head n.graph l.0) (Least a) (Least b) p.answer_is q.answer_is) in
    let moved : IsStack n (head n.graph l.0) b.first.0 b.segments (reverse labels) = subst (λ (list : RepairList). IsStack n (head n.graph l.0) list.first.0 list.segments (reverse labels)) lists s in
    let stacks : labels ≡ more = sym (reverse-reverse labels) ∙ ap reverse (stack-one n (head n.graph l.0) b.first.0 b.segments (reverse labels) (reverse more) moved t) ∙ reverse-reverse more in
    cc
  where
    same : (x y : RepairList) → Least x ≡ Least y → x ≡ y
    same x y e = cc

-- an answer that isn't a list isn't the list
not_list : (n : Net) (l : LinkNo) (a : RepairList) (b : Answer) → IsRedirected n l (Least a) → IsRedirected n l b → is_least b ≡ false → ⊥
not_list n l a b p q e = false≢true (sym e ∙ ap is_least (case-answer-one n (adj_case l) (head n.graph l.0) b (Least a) q.answer_is p.answer_is))

pub adj-answer-one : (n : Net) (eligible : List Bool) (l : LinkNo) (one two : AdjAnswer) → IsAdjAnswer n eligible l one → IsAdjAnswer n eligible l two → one ≡ two
adj-answer-one n e l Unprotected Unprotected p q = refl
adj-answer-one n e l Unprotected NoIndex p q = absurd (false≢true (sym p ∙ q.0))
adj-answer-one n e l Unprotected (Steer t c) p q = absurd (false≢true (sym p ∙ q.0.marked))
adj-answer-one n e l Unprotected (Repair list ts) p q = absurd (false≢true (sym p ∙ q.0.marked))
adj-answer-one n e l Unprotected (Uncovered a) p q = absurd (false≢true (sym p ∙ q.0.marked))
adj-answer-one n e l NoIndex Unprotected p q = absurd (false≢true (sym q ∙ p.0))
adj-answer-one n e l NoIndex NoIndex p q = refl
adj-answer-one n e l NoIndex (Steer t c) p q = absurd (none-not_some (labels_at n (head n.graph l.0)).index p.1 q.0.index)
adj-answer-one n e l NoIndex (Repair list ts) p q = absurd (none-not_some (labels_at n (head n.graph l.0)).index p.1 q.0.index)
adj-answer-one n e l NoIndex (Uncovered a) p q = absurd (none-not_some (labels_at n (head n.graph l.0)).index p.1 q.0.index)
adj-answer-one n e l (Steer t c) Unprotected p q = absurd (false≢true (sym q ∙ p.0.marked))
adj-answer-one n e l (Steer t c) NoIndex p q = absurd (none-not_some (labels_at n (head n.graph l.0)).index q.1 p.0.index)
adj-answer-one n e l (Steer t c) (Steer s d) p q =
    let labels : t ≡ s = label-same n (tail n.graph l.0) (head n.graph l.0) t s p.1.label_is q.1.label_is in
    let costs : c ≡ d = distance-unique n.graph [] (tail n.graph l.0) (head n.graph l.0) c d p.1.distance q.1.distance in
    cc
adj-answer-one n e l (Steer t c) (Repair list ts) p q = absurd (p.1.aside q.1.hop)
adj-answer-one n e l (Steer t c) (Uncovered a) p q = absurd (p.1.aside q.1.hop)
adj-answer-one n e l (Repair list ts) Unprotected p q = absurd (false≢true (sym q ∙ p.0.marked))
adj-answer-one n e l (Repair list ts) NoIndex p q = absurd (none-not_some (labels_at n (head n.graph l.0)).index q.1 p.0.index)
adj-answer-one n e l (Repair list ts) (Steer t c) p q = absurd (q.1.aside p.1.hop)
adj-answer-one n e l (Repair list ts) (Repair other us) p q = repair_same n l list other ts us p.1 q.1 p.2 q.2
adj-answer-one n e l (Repair list ts) (Uncovered a) p q = absurd (not_list n l list a p.1 q.1 q.2)
adj-answer-one n e l (Uncovered a) Unprotected p q = absurd (false≢true (sym q ∙ p.0.marked))
adj-answer-one n e l (Uncovered a) NoIndex p q = absurd (none-not_some (labels_at n (head n.graph l.0)).index q.1 p.0.index)
adj-answer-one n e l (Uncovered a) (Steer t c) p q = absurd (q.1.aside p.1.hop)
adj-answer-one n e l (Uncovered a) (Repair list ts) p q = absurd (not_list n l list a q.1 p.1 p.2)
adj-answer-one n e l (Uncovered a) (Uncovered b) p q = ap Uncovered (case-answer-one n (adj_case l) (head n.graph l.0) a b p.1.answer_is q.1.answer_is)

-- a link that is a next hop towards its own end doesn't lead back to its beginning
ends_apart : (n : Net) → IsNet n → (l : LinkNo) → l.0 < link_count n.graph → IsOwnHop n l → head n.graph l.0 ≢ tail n.graph l.0
ends_apart n r l within hop same =
    let link : IsLink n.graph (link_at n.graph l.0) = r.graph.each l.0 within in
    let costs : 0 < metric n.graph l.0 = link.2 in
    let none : metric n.graph l.0 + cost n.graph hop.more ≤ 0 = hop.shortest.1 [] (sym same) in
    omega arith

-- its end is affected in the link case
pub end-affected : (n : Net) → IsNet n → (l : LinkNo) → l.0 < link_count n.graph → is_some (labels_at n (head n.graph l.0)).index ≡ true → IsOwnHop n l → IsAffected n (adj_case l) (head n.graph l.0)
end-affected n r l within index hop = record {
  index = index;
  outside = record { source = ends_apart n r l within hop; failed = λ e. absurd (cc) };
  hop = hop;
}

pub adj-delivers : (n : Net) → IsNet n → (eligible : List Bool) (l : LinkNo) (answer : AdjAnswer) → l.0 < link_count n.graph → IsAdjAnswer n eligible l answer → AdjDelivers n l answer
adj-delivers n r e l Unprotected within a = tt
adj-delivers n r e l NoIndex within a = tt
adj-delivers n r e l (Steer label c) within a = λ x set rest ms v after run.
    packet-delivers n r x (tail n.graph l.0) (head n.graph l.0) label c (r.graph.each l.0 within).0
    (steered-avoids n.graph r.graph r.named (adj_case l) within refl x set c a.1.distance a.1.aside)
    a.1.distance a.1.label_is rest ms v after run
adj-delivers n r e l (Repair list labels) within a =
    stack-delivers n r (adj_case l) (head n.graph l.0) list (reverse labels) within (end-affected n r l within a.0.index a.1.hop) a.1.answer_is a.2
adj-delivers n r e l (Uncovered answer) within a = tt

-- an answer for an eligible label is one by any tests that say so
pub moved-answer : (n : Net) (e f : List Bool) (l : LinkNo) (a : AdjAnswer) → has e l.0 ≡ true → has f l.0 ≡ true → IsAdjAnswer n e l a → IsAdjAnswer n f l a
moved-answer n e f l Unprotected p q is = absurd (false≢true (sym is ∙ p))
moved-answer n e f l NoIndex p q is = (q, is.1)
moved-answer n e f l (Steer t c) p q is = (record { marked = q; index = is.0.index }, is.1)
moved-answer n e f l (Repair list ts) p q is = (record { marked = q; index = is.0.index }, is.1, is.2)
moved-answer n e f l (Uncovered a) p q is = (record { marked = q; index = is.0.index }, is.1, is.2)

-- what is an answer by all tests that say that the label is eligible is done with a packet under it
pub replaced-as : (n : Net) (l : LinkNo) (a : AdjAnswer) → ((e : List Bool) → has e l.0 ≡ true → IsAdjAnswer n e l a) → IsReplaced n l a
replaced-as n l a is =
    let all : List Bool = replicate (l.0 + 1) true in
    let marked : has all l.0 ≡ true = get_or-replicate (l.0 + 1) l.0 true false (omega arith) in
    (all, marked, is all marked)

-- one thing is done with a packet under an eligible label
pub replaced-one : (n : Net) (l : LinkNo) (one two : AdjAnswer) → IsReplaced n l one → IsReplaced n l two → one ≡ two
replaced-one n l one two p q = adj-answer-one n p.0 l one two p.2 (moved-answer n q.0 p.0 l two q.1 p.1 q.2)

-- a link has at most one label with the flag B beside its own, and one thing is done with a packet under it
pub backup-one : BackupsAreUnique
backup-one facts net l None None p q = refl
backup-one facts net l None (Some b) p q = absurd (p b.label q.0.gives)
backup-one facts net l (Some a) None p q = absurd (q a.label p.0.gives)
backup-one facts net l (Some a) (Some b) p q =
    let low : a.label ≤ b.label = p.0.least b.label q.0.gives in
    let high : b.label ≤ a.label = q.0.least a.label p.0.gives in
    let labels : a.label ≡ b.label = omega arith in
    let answers : a.answer ≡ b.answer = replaced-one net l a.answer b.answer p.1 q.1 in
    let same : record { label = a.label; answer = a.answer } ≡ record { label = b.label; answer = b.answer } = rw (labels, answers) refl in
    ap Some same
