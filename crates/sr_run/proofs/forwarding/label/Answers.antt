use Rattle.std.proofs.Common.{refl, inr}
use Rattle.sr_print.specs.Told.Told.{Lookup}
use Rattle.sr_fib.specs.Entries.{found_of}
use Rattle.sr_run.specs.Questions.{TellsLookup}
use Rattle.sr_run.proofs.HandlerLemmas.{puts-of}
use Rattle.sr_run.proofs.forwarding.label.Goals as goal

pub returns : goal.returns
returns c =
    let version = c.in-Ok.found.now in
    let found = found_of c.look_up.result in
    puts-of (TellsLookup c.args.system c.args.label) c.args.current.now version _ _ (Lookup version.net found) c.in-Ok.ensures
    (inr (c.in-Ok-find_node.found.0, c.in-Ok-find_node.ensures, (found, c.look_up.ensures.lookup, refl)))
    refl (λ number. rw c.net.ensures.value at c.in_ok-put_label.ensures.line)
