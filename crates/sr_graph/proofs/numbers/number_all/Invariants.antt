use Rattle.std.proofs.Common.{◌≡◌, ◌++◌, map}
use Rattle.std.specs.Prelude.{All}
use Rattle.std.specs.List.{AllZip}
use Rattle.sr_graph.specs.declared.draft.DraftLink.{DraftLink}
use Rattle.sr_graph.specs.Draft.{HasEnds}
use Rattle.sr_graph.specs.Numbers.{IsNumbered}
use Rattle.sr_graph.proofs.numbers.number_all.Given as goal

abbrev pub invariant-loop-link : goal.invariant-loop-link
invariant-loop-link l = record {
  all : l.fn.drafted.items ≡ l.yielded ++ l.link-iterator.rest.items;
  ends : All (HasEnds l.systems) l.link-iterator.rest.items;
  links : AllZip (IsNumbered l.systems) l.yielded l.links.items;
  groups : l.groups.items ≡ map (λ (link : DraftLink). link.groups) l.yielded;
}
