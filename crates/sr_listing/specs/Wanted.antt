-- Those items of an audit that are wanted.
use Rattle.std.specs.Prelude.{◌≡◌, ℕ, ◌<◌, ◌==◌, ◌&&◌, Bool, List, ◌++◌, filter}
use Rattle.sr_model.specs.declared.audit.Counts.{Counts}
use Rattle.sr_model.specs.declared.audit.Item.{Item}
use Rattle.sr_model.specs.declared.case.Case.{Case}
use Rattle.sr_model.specs.declared.case.Kind.TheVariants.{Node as NodeKind}
use Rattle.sr_model.specs.Audit.{IsAudit, counts_of, rank_of}
use Rattle.sr_model.specs.Case.{IsCase}
use Rattle.sr_model.specs.Graph.{Graph, node_count, head}
use Rattle.sr_model.specs.Label.{Net}
use Rattle.sr_print.specs.Repairs.{item_lines}
use Rattle.sr_print.specs.Insight.{repairs_line}
use Rattle.sr_listing.specs.declared.wanted.Wanted.{Wanted}
use Rattle.sr_listing.specs.declared.wanted.Wanted.TheVariants.{OfCase, OfNode}

-- the items of a case are wanted: those of the one case; or those of each node case whose failed node, at which the
-- protected link ends, is this
abbrev pub is_wanted : Graph → Wanted → Case → Bool
is_wanted g (OfCase wanted) case = (rank_of case.kind == rank_of wanted.kind) && (case.link.0 == wanted.link.0)
is_wanted g (OfNode node) case = (rank_of case.kind == rank_of NodeKind) && (head g case.link.0 == node.0)

-- the wanted ones of these items
abbrev pub wanted_items : Graph → Wanted → List Item → List Item
wanted_items g wanted items = filter (λ (item : Item). is_wanted g wanted item.case) items

-- what is wanted is of the graph
abbrev pub IsWantedOf : Graph → Wanted → Type 0
IsWantedOf g (OfCase case) = IsCase g case
IsWantedOf g (OfNode node) = node.0 < node_count g

-- the wanted items of the audit were appended, and how many of them are of each sort
pub record PutsWanted (n : Net) (wanted : Wanted) (before after : List ℕ) : Type 0 where
  pub items : List Item
  pub audit : IsAudit n items
  pub lines : after ≡ before ++ item_lines n (wanted_items n.graph wanted items)
      ++ repairs_line (counts_of (wanted_items n.graph wanted items))

-- the wanted items of the audit were appended
pub record PutsItems (n : Net) (wanted : Wanted) (before after : List ℕ) : Type 0 where
  pub items : List Item
  pub audit : IsAudit n items
  pub lines : after ≡ before ++ item_lines n (wanted_items n.graph wanted items)

-- how many of the wanted items of the audit are of each sort
pub record AreWantedCounts (n : Net) (wanted : Wanted) (counts : Counts) : Type 0 where
  pub items : List Item
  pub audit : IsAudit n items
  pub counted : counts ≡ counts_of (wanted_items n.graph wanted items)
