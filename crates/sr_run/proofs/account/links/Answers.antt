use Rattle.std.proofs.Common.{◌≡◌, ◌++◌, length, refl, subst, sym, ap, ◌∙◌, Option, IfSome}
use Rattle.sr_model.specs.Graph.{link_count}
use Rattle.sr_model.specs.Label.{Net}
use Rattle.sr_domain.specs.Net.{IsNetOf}
use Rattle.sr_account.specs.Sources.{AreSources}
use Rattle.sr_print.specs.Account.{links_text}
use Rattle.sr_print.specs.Told.Told.{Links}
use Rattle.sr_repair.specs.Version.{NumberedNet}
use Rattle.sr_run.specs.Account.{TellsLinks}
use Rattle.sr_run.proofs.HandlerLemmas.{puts-of}
use Rattle.sr_run.proofs.account.links.Goals as goal

pub sources_of-requires : goal.sources_of-requires
sources_of-requires c =
    subst (λ (n : Net). IsNetOf c.args.facts.now n) (sym c.net.ensures.value)
    (subst (λ (o : Option NumberedNet). IfSome o (λ (v : NumberedNet). IsNetOf c.args.facts.now v.net)) c.in-Ok.ensures c.requires)

pub put_links-requires : goal.put_links-requires
put_links-requires c =
    ap length c.deref.ensures.value
    ∙ subst (λ (n : Net). length c.in_ok-announced.announced.items ≡ link_count n.graph) (c.net.ensures.value ∙ sym c.net-2.ensures.value) c.in_ok-announced.ensures.long

pub returns : goal.returns
returns c =
    let facts = c.args.facts.now in
    let net = c.in-Ok.found.now.net in
    let announced = c.in_ok-announced.announced.items in
    puts-of (TellsLinks facts) c.args.current.now c.in-Ok.found.now _ _ (Links net announced) c.in-Ok.ensures
    (subst (λ (o : Option NumberedNet). IfSome o (λ (v : NumberedNet). IsNetOf facts v.net)) c.in-Ok.ensures c.requires, announced, subst (λ (n : Net). AreSources facts n announced) c.net.ensures.value c.in_ok-announced.ensures, refl)
    refl (λ number. subst (λ (n : Net). c.put_links.new.out.items ≡ c.args.out.now.items ++ links_text n announced) c.net-2.ensures.value (rw c.deref.ensures.value at c.in_ok-put_links.ensures.line))
