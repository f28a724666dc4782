-- The group of an item is one of the groups.
use Rattle.std.proofs.Common.{◌<◌}
use Rattle.sr_model.specs.declared.audit.Item.{Item}
use Rattle.sr_model.specs.Audit.{IsItem}
use Rattle.sr_model.specs.Label.{Net}
use Rattle.sr_model.specs.Rule.{IsNet}
use Rattle.sr_encode.proofs.AnswerLemmas.{affected-within}
use Rattle.sr_repair.proofs.KeptLemmas.{rank-small}
use Rattle.sr_insight.specs.declared.grouping.Grouping.{Grouping}
use Rattle.sr_insight.specs.declared.grouping.Grouping.TheVariants as by
use Rattle.sr_insight.specs.Groups.{group_of, group_count}

pub group-within : (n : Net) (grouping : Grouping) (item : Item) → IsNet n → IsItem n item → group_of grouping n.graph item < group_count grouping n.graph
group-within n by.Kind item net is = rank-small item.case.kind
group-within n by.Node item net is = (net.graph.each item.case.link.0 is.within).0
group-within n by.Link item net is = is.within
group-within n by.Destination item net is = affected-within n item.case item.dest.0 net.nodes is.affected
