use Rattle.std.proofs.Common.{◌≡◌, ◌++◌, ℕ, Option, refl, subst, sym}
use Rattle.sr_model.specs.Label.{Net}
use Rattle.sr_repair.specs.Version.{NumberedNet, version_of}
use Rattle.sr_print.specs.Differences.{IsDiffWithin, diff_lines}
use Rattle.sr_print.specs.declared.refusal.Refusal.TheVariants.{NoSuchVersion}
use Rattle.sr_print.specs.Told.Told.{Diff, Refused}
use Rattle.sr_print.proofs.DiffWithin.{diff-within}
use Rattle.sr_run.specs.Differences.{TellsBetween, TellsDiff}
use Rattle.sr_run.proofs.HandlerLemmas.{puts-of, told-of}
use Rattle.sr_run.proofs.differences.tell_diff.Goals as goal

pub returns-in-None : goal.returns-in-None
returns-in-None g c =
    let version = c.in-Ok.found.now in
    let told = Refused (NoSuchVersion c.args.number) in
    told-of (TellsDiff c.args.number c.args.previous.now) c.args.current.now version told c.in-Ok.ensures
    (subst (λ (o : Option NumberedNet). TellsBetween c.args.number o version told) c.in-None.ensures refl)

pub put_diff-requires : goal.put_diff-requires
put_diff-requires g c =
    let old = c.in-Some.old.now.net in
    let new = c.in-Ok.found.now.net in
    let diff = c.in_ok-diff.diff in
    subst (λ (n : Net). IsDiffWithin n.graph c.net-2.result.now.graph diff) (sym c.net.ensures.value)
    (subst (λ (n : Net). IsDiffWithin old.graph n.graph diff) (sym c.net-2.ensures.value)
    (diff-within old new c.net.ensures.net c.net-2.ensures.net diff c.in_ok-diff.ensures))

pub returns : goal.returns
returns g c =
    let old = c.in-Some.old.now in
    let version = c.in-Ok.found.now in
    let diff = c.in_ok-diff.diff in
    let told = Diff old version.net diff in
    let before = c.args.out.now.items in
    let after = c.put_diff.new.out.items in
    puts-of (TellsDiff c.args.number c.args.previous.now) c.args.current.now version before after told c.in-Ok.ensures
    (subst (λ (o : Option NumberedNet). TellsBetween c.args.number o version told) c.in-Some.ensures (diff, c.in_ok-diff.ensures, refl))
    refl (λ number.
    subst (λ (k : ℕ). after ≡ before ++ diff_lines (version_of k old.net) version.net diff) c.number.ensures
    (subst (λ (n : Net). after ≡ before ++ diff_lines (version_of c.number.result n) version.net diff) c.net.ensures.value
    (subst (λ (n : Net). after ≡ before ++ diff_lines (version_of c.number.result c.net.result.now) n diff) c.net-2.ensures.value c.in_ok-put_diff.ensures.line)))
