-- The list of an item, and the item of a list.
use Rattle.std.proofs.Common.{◌≡◌, subst}
use Rattle.sr_model.specs.declared.audit.Item.{Item}
use Rattle.sr_model.specs.declared.repair.Answer.{Answer}
use Rattle.sr_model.specs.declared.repair.Answer.TheVariants.{Least}
use Rattle.sr_model.specs.declared.repair.RepairList.{RepairList}
use Rattle.sr_model.specs.Audit.{IsItem}
use Rattle.sr_model.specs.Label.{Net}
use Rattle.sr_model.specs.Repair.{IsCaseAnswer}
use Rattle.sr_repair.proofs.StackLemmas.{list-labels}
use Rattle.sr_diff.specs.Matched.{IsListOf}

-- the first link and the segments of an item's list are those of the net
pub item-list : (n : Net) (item : Item) (list : RepairList) → IsItem n item → item.answer ≡ Least list → IsListOf n list
item-list n item list is e =
    let own = list-labels n item.case item.dest.0 list (subst (λ (a : Answer). IsCaseAnswer n item.case item.dest.0 a) e is.answer) in
    record { first = own.0; segments = own.1 }
