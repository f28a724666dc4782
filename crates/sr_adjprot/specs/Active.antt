-- What the router at the beginning of a link does with a packet whose top label is the link's adjacency label, when the
-- link fails (RFC 8402, 3.4: an adjacency segment may be protected; this project's rule how).
use Rattle.std.specs.Prelude.{◌≡◌, ℕ, Bool, true, false, List, [], None, is_some, reverse}
use Rattle.sr_model.specs.declared.link.LinkNo.{LinkNo}
use Rattle.sr_model.specs.declared.case.Case.{Case}
use Rattle.sr_model.specs.declared.case.Kind.TheVariants.{Link as LinkKind}
use Rattle.sr_model.specs.declared.repair.Answer.{Answer}
use Rattle.sr_model.specs.declared.repair.Answer.TheVariants.{Least}
use Rattle.sr_model.specs.Graph.{tail, head, has}
use Rattle.sr_model.specs.Walk.{IsDistance, IsNextHop}
use Rattle.sr_model.specs.Label.{Net, labels_at, IsLabel}
use Rattle.sr_model.specs.Repair.{IsCaseAnswer}
use Rattle.sr_model.specs.Forward.{IsStack}
use Rattle.sr_model.specs.Audit.{is_least}
use Rattle.sr_adjprot.specs.declared.answer.AdjAnswer.{AdjAnswer}
use Rattle.sr_adjprot.specs.declared.answer.AdjAnswer.TheVariants.{Unprotected, NoIndex, Steer, Repair, Uncovered}

-- the case in which the pair of link l fails
abbrev pub adj_case : LinkNo → Case
adj_case l = record { kind = LinkKind; link = l }

-- link l is a next hop of its beginning towards its end
abbrev pub IsOwnHop : Net → LinkNo → Type 0
IsOwnHop n l = IsNextHop n.graph [] (tail n.graph l.0) (head n.graph l.0) l.0

-- the label of link l may be replaced: it is eligible, and the link's end has a node index
pub record CanReplace (n : Net) (eligible : List Bool) (l : LinkNo) : Type 0 where
  pub marked : has eligible l.0 ≡ true
  pub index : is_some (labels_at n (head n.graph l.0)).index ≡ true

-- shortest walks to the end of link l don't begin with it: the label of that end at the beginning leads there, at the
-- distance
pub record IsSteered (n : Net) (l : LinkNo) (label cost : ℕ) : Type 0 where
  pub aside : IsOwnHop n l → ⊥
  pub label_is : IsLabel n (tail n.graph l.0) (head n.graph l.0) label
  pub distance : IsDistance n.graph [] (tail n.graph l.0) (head n.graph l.0) cost

-- some shortest walk to the end of link l begins with it, and this is the answer of the link case for that end
pub record IsRedirected (n : Net) (l : LinkNo) (answer : Answer) : Type 0 where
  pub hop : IsOwnHop n l
  pub answer_is : IsCaseAnswer n (adj_case l) (head n.graph l.0) answer

-- the first that holds: unprotected where the label isn't eligible; no index where the link's end has none; steered
-- where the link isn't a next hop towards its end; repaired, with the stack, where the answer of the link case for that
-- end is a list; else uncovered, with that answer (this project's rule)
abbrev pub IsAdjAnswer : Net → List Bool → LinkNo → AdjAnswer → Type 0
IsAdjAnswer n eligible l Unprotected = has eligible l.0 ≡ false
IsAdjAnswer n eligible l NoIndex = (has eligible l.0 ≡ true) × ((labels_at n (head n.graph l.0)).index ≡ None)
IsAdjAnswer n eligible l (Steer label cost) = CanReplace n eligible l × IsSteered n l label cost
IsAdjAnswer n eligible l (Repair list labels) =
    CanReplace n eligible l × IsRedirected n l (Least list)
    × IsStack n (head n.graph l.0) list.first.0 list.segments (reverse labels)
IsAdjAnswer n eligible l (Uncovered answer) =
    CanReplace n eligible l × IsRedirected n l answer × (is_least answer ≡ false)
