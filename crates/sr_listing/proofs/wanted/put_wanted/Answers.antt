use Rattle.std.proofs.lemmas.Result.{on_ok_weaker}
use Rattle.sr_listing.proofs.WantedLemmas.{wanted-put}
use Rattle.sr_listing.proofs.wanted.put_wanted.Goals as goal

pub returns-clause-lines : goal.returns-clause-lines
returns-clause-lines c =
    on_ok_weaker c.put_repair_counts.result
    (λ line. wanted-put c.args.version.now.net c.args.wanted c.wanted_counts.result c.args.out.now.items c.put_items.new.out.items c.put_repair_counts.new.out.items c.in_ok-put_items.ensures.lines c.wanted_counts.ensures line)
    c.put_repair_counts.ensures.line
