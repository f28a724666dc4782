use Rattle.std.proofs.Common.{◌≡◌, ◌++◌, Some, None, refl, subst, inl, inr}
use Rattle.sr_model.specs.Label.{Net}
use Rattle.sr_print.specs.Forwarding.{walk_line}
use Rattle.sr_print.specs.Told.Told.{Walk}
use Rattle.sr_run.proofs.forwarding.put_walk_of.Goals as goal

pub returns-in_ok-put_walk-in-Some : goal.returns-in_ok-put_walk-in-Some
returns-in_ok-put_walk-in-Some c =
    let net = c.args.version.now.net in
    let links = c.in-Some.walk.links.items in
    record {
      told = Walk net c.args.nodes.from.0 (Some links);
      is = inr (links, rw c.in-Some.is at c.in_ok-walk.ensures.forwarded, refl);
      accepted = refl;
      appended = λ number.
          subst (λ (n : Net). c.put_walk.new.out.items ≡ c.args.out.now.items ++ walk_line n c.args.nodes.from.0 (Some links)) c.net.ensures.value
          (rw c.deref.ensures.value at c.in_ok-put_walk-in-Some.ensures.line);
    }

pub returns-in_ok-put_walk-in-None : goal.returns-in_ok-put_walk-in-None
returns-in_ok-put_walk-in-None c =
    let net = c.args.version.now.net in
    record {
      told = Walk net c.args.nodes.from.0 None;
      is = inl (rw c.in-None.is at c.in_ok-walk.ensures.forwarded, refl);
      accepted = refl;
      appended = λ number.
          subst (λ (n : Net). c.put_walk-in-None.new.out.items ≡ c.args.out.now.items ++ walk_line n c.args.nodes.from.0 None) c.net-in-None.ensures.value c.in_ok-put_walk-in-None.ensures.line;
    }
