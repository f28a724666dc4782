-- the names of the links so far
use Rattle.sr_print.specs.Links.{link_text}
use Rattle.sr_print.specs.Names.{AreTexts}
use Rattle.sr_print.proofs.names.link_names.Given as goal

abbrev pub invariant-loop-link : goal.invariant-loop-link
invariant-loop-link l = AreTexts (link_text l.net) l.link l.names.items
