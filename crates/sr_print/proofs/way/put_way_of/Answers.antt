use Rattle.std.proofs.Common.{◌≡◌, ◌++◌, ◌∙◌, ap, List, ℕ}
use Rattle.std.proofs.lemmas.Result.{on_ok_weaker}
use Rattle.sr_repair.proofs.StackLemmas.{list-labels}
use Rattle.sr_print.specs.Repairs.{way_text}
use Rattle.sr_print.proofs.Routes.{way-of, no-way}
use Rattle.sr_print.proofs.way.put_way_of.Goals as goal

pub put_way-requires-clause-first : goal.put_way-requires-clause-first
put_way-requires-clause-first c = (list-labels c.args.net.now c.args.case c.args.entry.now.destination.0 c.in-Least.list (rw c.in-Least.is at c.requires.answer)).0

pub put_way-requires-clause-segments : goal.put_way-requires-clause-segments
put_way-requires-clause-segments c = rw c.list.ensures (list-labels c.args.net.now c.args.case c.args.entry.now.destination.0 c.in-Least.list (rw c.in-Least.is at c.requires.answer)).1

pub returns-in-Least : goal.returns-in-Least
returns-in-Least c =
    let n = c.args.net.now in
    let list = c.in-Least.list in
    on_ok_weaker c.put_way.result
    (λ is.
    let text : c.put_way.new.out.items ≡ way_text n list.first.0 list.segments = is ∙ ap (λ (old : List ℕ). old ++ way_text n list.first.0 list.segments) c.requires.empty in
    way-of n c.args.entry.now.answer list c.put_way.new.out.items c.in-Least.is text)
    (rw c.list.ensures at c.put_way.ensures)

pub returns-in_default : goal.returns-in_default
returns-in_default c = no-way c.args.net.now c.args.entry.now.answer c.args.out.now.items c.in_default.not-Least
