use Rattle.std.proofs.Common.{◌<◌, ◌≤◌}
use Rattle.sr_model.specs.Graph.{link_count}
use Rattle.sr_model.specs.Case.{key_at}
use Rattle.sr_delta.specs.Partners.{AllBelow, ArePartnersBelow}
use Rattle.sr_delta.proofs.partners.partners.Given as goal

abbrev pub invariant-loop-l : goal.invariant-loop-l
invariant-loop-l l = record {
  listed : ArePartnersBelow l.graph l.other l.l l.list.items;
  within : l.at ≤ link_count l.other;
  below : l.l < link_count l.graph → AllBelow l.other l.at (key_at l.graph l.l);
}
