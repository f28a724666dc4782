-- The labels of segments one by one, and the segments and answers that have labels.
use Rattle.std.proofs.Common.{◌≡◌, ℕ, ◌<◌, zero, suc, Bool, false, subst, List, [], ◌∷◌, ◌++◌, arith, drop}
use Rattle.sr_model.specs.declared.case.Case.{Case}
use Rattle.sr_model.specs.declared.repair.Segment.{Segment}
use Rattle.sr_model.specs.declared.repair.Segment.TheVariants.{Node, Adj}
use Rattle.sr_model.specs.declared.repair.RepairList.{RepairList}
use Rattle.sr_model.specs.declared.repair.Answer.{Answer}
use Rattle.sr_model.specs.declared.repair.Answer.TheVariants.{Least}
use Rattle.sr_model.specs.Graph.{link_count, head}
use Rattle.sr_model.specs.Label.{Net}
use Rattle.sr_model.specs.Repair.{Leads, IsCaseAnswer}
use Rattle.sr_model.specs.Forward.{IsLabels}
use Rattle.sr_model.specs.Audit.{is_least}
use Rattle.sr_laws.proofs.Answers.{case-answer-one}
use Rattle.sr_repair.specs.Stack.{CanLabel, HaveLabels, HasNoList}

-- the node segment of d
abbrev pub last : ℕ → Segment
last d = Node (record { 0 = d })

-- these are the labels of the first k segments, after which the packet is at this node
abbrev pub AreLabelled : Net → ℕ → List Segment → ℕ → ℕ → ℕ → List ℕ → Type 0
AreLabelled n start ss d k at ts =
    (more : List ℕ) → IsLabels n at (drop k ss ++ last d ∷ []) more → IsLabels n start (ss ++ last d ∷ []) (ts ++ more)

pub have-cons : (n : Net) (s : Segment) (ss : List Segment) → CanLabel n s → HaveLabels n ss → HaveLabels n (s ∷ ss)
have-cons n s ss here rest zero lt = here
have-cons n s ss here rest (suc k) lt = rest k (omega arith)

-- segments that lead on have labels
pub leads-labels : (n : Net) (x : List Bool) (u : ℕ) (ss : List Segment) (w c : ℕ) → Leads n x u ss w c → HaveLabels n ss
leads-labels n x u [] w c a = λ k lt. absurd (omega arith)
leads-labels n x u (Node v ∷ ss) w c a = have-cons n (Node v) ss (a.3, a.2) (leads-labels n x v.0 ss w a.1 a.7)
leads-labels n x u (Adj l ∷ ss) w c a = have-cons n (Adj l) ss (a.1, a.4) (leads-labels n x (head n.graph l.0) ss w a.0 a.5)

-- the list of an answer leaves by a link of the net, and its segments have labels
pub list-labels : (n : Net) (case : Case) (d : ℕ) (list : RepairList) → IsCaseAnswer n case d (Least list) → (list.first.0 < link_count n.graph) × HaveLabels n list.segments
list-labels n case d list a =
    let sound = a.answers.0.sound in
    (sound.within, leads-labels n a.failed (head n.graph list.first.0) list.segments sound.last sound.middle sound.leads)

-- where the answer of a case isn't a list, no list is its answer
pub other-answer : (n : Net) (case : Case) (d : ℕ) (answer : Answer) → IsCaseAnswer n case d answer → is_least answer ≡ false → HasNoList n case d
other-answer n case d answer a not = λ list affected b.
    let same : is_least (Least list) ≡ false = subst (λ (x : Answer). is_least x ≡ false) (case-answer-one n case d answer (Least list) a b) not in
    absurd {0} (cc)
