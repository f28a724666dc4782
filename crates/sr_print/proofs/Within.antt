-- What a caller owes the lines: nodes and links of the graph, and a cost that fits.
use Rattle.std.proofs.Common.{◌≡◌, ℕ, suc, ◌*◌, ◌<◌, ◌≤◌, Bool, List, [], ◌∷◌, length, get_or, arith, Option, Some, None}
use Rattle.std.specs.Prelude.{slice_get, IfSome}
use Rattle.std.proofs.lemmas.List.Elements.{All-nil, All-cons}
use Rattle.std.proofs.lemmas.Option.{slice_get-get_or}
use Rattle.sr_model.specs.declared.link.LinkNo.{LinkNo}
use Rattle.sr_model.specs.declared.entry.Entry.{Entry}
use Rattle.sr_model.specs.declared.entry.Entry.TheVariants.{Own, Null, Adj, Node}
use Rattle.sr_model.specs.declared.audit.Item.{Item}
use Rattle.sr_model.specs.declared.case.Case.{Case}
use Rattle.sr_model.specs.declared.repair.Segment.{Segment}
use Rattle.sr_model.specs.declared.repair.Segment.TheVariants.{Node as NodeSegment, Adj as AdjSegment}
use Rattle.sr_model.specs.declared.repair.Answer.{Answer}
use Rattle.sr_model.specs.declared.repair.Answer.TheVariants.{Least, NoPath, NoList, TooDeep}
use Rattle.sr_model.specs.Case.{source_of}
use Rattle.sr_model.specs.Graph.{Graph, head, link_count, metric, link_at, IsGraph, IsLink}
use Rattle.sr_model.specs.Label.{Net}
use Rattle.sr_model.specs.Repair.{Leads, IsAnswer, IsCaseAnswer}
use Rattle.sr_model.specs.Table.{IsEntry, IsLookup}
use Rattle.sr_model.specs.Walk.{cost, IsNextHop}
use Rattle.sr_fib.specs.Entries.{numbers}
use Rattle.sr_adjprot.specs.declared.answer.AdjAnswer.{AdjAnswer}
use Rattle.sr_adjprot.specs.declared.answer.AdjAnswer.TheVariants.{Unprotected, NoIndex, Steer, Repair, Uncovered}
use Rattle.sr_adjprot.specs.Active.{IsAdjAnswer, adj_case}
use Rattle.sr_insight.specs.declared.group.Group.{Group}
use Rattle.sr_insight.specs.declared.grouping.Grouping.{Grouping}
use Rattle.sr_insight.specs.Groups.{AreGroups}
use Rattle.sr_print.specs.Adjacencies.{IsActiveWithin}
use Rattle.sr_print.specs.Forwarding.{IsEntryWithin}
use Rattle.sr_print.specs.Insight.{AreGroupsWithin}
use Rattle.sr_print.specs.Links.{AreLinks}
use Rattle.sr_print.specs.Repairs.{IsSegment, AreSegments, IsAnswerWithin}

hop-within : (g : Graph) (x : List Bool) (u v l : ℕ) → IsNextHop g x u v l → l < link_count g
hop-within g x u v l hop = hop.shortest.0.0

-- next hops are links of the graph
pub hops-within : (g : Graph) (x : List Bool) (u v : ℕ) (links : List LinkNo) → ((i : ℕ) (l : LinkNo) → slice_get links i ≡ Some l → IsNextHop g x u v l.0) → AreLinks g links
hops-within g x u v links each = λ k d lt. hop-within g x u v (get_or links k d).0 (each k (get_or links k d) (slice_get-get_or links k d lt))

entry-within : (n : Net) (u t : ℕ) (e : Entry) → IsEntry n u t e → IsEntryWithin n.graph e
entry-within n u t Own is = tt
entry-within n u t Null is = tt
entry-within n u t (Adj link) is = is.0
entry-within n u t (Node b hops) is = (is.0.1, λ k d lt. hop-within n.graph [] u b.0 (get_or hops k d).0.0 ((is.2.each k (get_or hops k d) (slice_get-get_or hops k d lt)).0))

-- what a label table says of a label is within the graph
pub lookup-within : (n : Net) (u t : ℕ) (found : Option Entry) → IsLookup n u t found → IfSome found (IsEntryWithin n.graph)
lookup-within n u t None is = tt
lookup-within n u t (Some e) is = entry-within n u t e is

-- a link costs at most 16777214
pub cost-most : (g : Graph) (links : List LinkNo) → IsGraph g → AreLinks g links → cost g (numbers links) ≤ 16777214 * length links
cost-most g [] graph are = omega arith
cost-most g (l ∷ ls) graph are =
    let link : IsLink g (link_at g l.0) = graph.each l.0 (are 0 l (omega arith)) in
    let small : metric g l.0 < 16777215 = link.3 in
    let rest : cost g (numbers ls) ≤ 16777214 * length ls = cost-most g ls graph (λ k d lt. are (suc k) d (omega arith)) in
    omega (arith, small, rest)

-- segments that lead on are nodes and links of the graph
pub leads-within : (n : Net) (x : List Bool) (u : ℕ) (segments : List Segment) (w c : ℕ) → Leads n x u segments w c → AreSegments n.graph segments
leads-within n x u [] w c leads = All-nil (IsSegment n.graph)
leads-within n x u (NodeSegment v ∷ rest) w c leads = All-cons (IsSegment n.graph) (NodeSegment v) rest leads.3 (leads-within n x v.0 rest w leads.1 leads.7)
leads-within n x u (AdjSegment l ∷ rest) w c leads = All-cons (IsSegment n.graph) (AdjSegment l) rest leads.1 (leads-within n x (head n.graph l.0) rest w leads.0 leads.5)

answers-within : (n : Net) (x : List Bool) (s d : ℕ) (answer : Answer) → IsAnswer n x s d answer → IsAnswerWithin n.graph answer
answers-within n x s d (Least list) is =
    let sound = is.0.sound in
    (sound.within, leads-within n x (head n.graph list.first.0) list.segments sound.last sound.middle sound.leads)
answers-within n x s d NoPath is = tt
answers-within n x s d NoList is = tt
answers-within n x s d (TooDeep needed) is = tt

-- the answer of a case names nodes and links of the graph
pub answer-within : (n : Net) (case : Case) (d : ℕ) (answer : Answer) → IsCaseAnswer n case d answer → IsAnswerWithin n.graph answer
answer-within n case d answer is = answers-within n is.failed (source_of n.graph case) d answer is.answers

-- and so do those for packets under an adjacency label
pub active-within : (n : Net) (eligible : List Bool) (l : LinkNo) (answer : AdjAnswer) → IsAdjAnswer n eligible l answer → IsActiveWithin n.graph answer
active-within n eligible l Unprotected is = tt
active-within n eligible l NoIndex is = tt
active-within n eligible l (Steer label cost) is = tt
active-within n eligible l (Repair list labels) is = answer-within n (adj_case l) (head n.graph l.0) (Least list) is.1.answer_is
active-within n eligible l (Uncovered answer) is = is.2

-- the groups of an audit are those of kinds, nodes or links of the graph
pub groups-within : (grouping : Grouping) (g : Graph) (items : List Item) (groups : List Group) → AreGroups grouping g items groups → AreGroupsWithin grouping g groups
groups-within grouping g items groups are = λ k d lt. (are.each k (get_or groups k d) (slice_get-get_or groups k d lt)).0
