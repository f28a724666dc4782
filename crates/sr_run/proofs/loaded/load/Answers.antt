use Rattle.std.proofs.Common.{◌≡◌, ◌++◌, length, refl, subst, sym}
use Rattle.sr_model.specs.Graph.{link_count}
use Rattle.sr_model.specs.Label.{Net}
use Rattle.sr_print.specs.Loads.{loads_text}
use Rattle.sr_print.specs.Told.Told.{Loads}
use Rattle.sr_run.specs.Questions.{TellsLoads}
use Rattle.sr_run.proofs.HandlerLemmas.{puts-of}
use Rattle.sr_run.proofs.loaded.load.Goals as goal

pub put_loads-requires : goal.put_loads-requires
put_loads-requires g c =
    subst (λ (n : Net). length c.in_ok-made.made.counts ≡ link_count n.graph) (sym c.net.ensures.value) c.in_ok-made.ensures.long

pub returns : goal.returns
returns g c =
    let net = c.in-Ok.found.now.net in
    let made = c.in_ok-made.made in
    puts-of (TellsLoads c.args.each) c.args.current.now c.in-Ok.found.now _ _ (Loads net made) c.in-Ok.ensures (made, c.in_ok-made.ensures, refl)
    refl (λ number. subst (λ (n : Net). c.put_loads.new.out.items ≡ c.args.out.now.items ++ loads_text n made) c.net.ensures.value c.in_ok-put_loads.ensures.line)
