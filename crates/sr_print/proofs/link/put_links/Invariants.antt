-- the links so far stand behind
use Rattle.std.proofs.Common.{◌≡◌, ◌++◌, take}
use Rattle.sr_print.specs.Links.{link_words}
use Rattle.sr_print.proofs.link.put_links.Given as goal

abbrev pub invariant-loop-link : goal.invariant-loop-link
invariant-loop-link l = l.out.items ≡ l.fn.out.items ++ link_words l.net (take l.link-index l.links)
