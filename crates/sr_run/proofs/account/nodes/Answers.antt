use Rattle.std.proofs.Common.{◌≡◌, ◌++◌, refl, subst}
use Rattle.sr_model.specs.Label.{Net}
use Rattle.sr_print.specs.Account.{nodes_text}
use Rattle.sr_print.specs.Told.Told.{Nodes}
use Rattle.sr_run.specs.Account.{TellsNodes}
use Rattle.sr_run.proofs.HandlerLemmas.{puts-of}
use Rattle.sr_run.proofs.account.nodes.Goals as goal

pub returns : goal.returns
returns c =
    puts-of TellsNodes c.args.current.now c.in-Ok.found.now _ _ (Nodes c.in-Ok.found.now.net) c.in-Ok.ensures refl
    refl (λ number. subst (λ (n : Net). c.put_nodes.new.out.items ≡ c.args.out.now.items ++ nodes_text n) c.net.ensures.value c.in_ok-put_nodes.ensures.line)
