use Rattle.std.proofs.Common.{◌≡◌, ◌∙◌, sym, ap}
use Rattle.std.proofs.lemmas.Option.{MatchOption-at_none, MatchOption-at_some}
use Rattle.sr_model.specs.Label.{Net}
use Rattle.sr_diff.specs.Named.{repair_of}
use Rattle.sr_diff.proofs.ThereLemmas.{none-apart, alike-same, unlike-other}
use Rattle.sr_diff.proofs.changes.likeness_of.Goals as goal

pub returns-in-None : goal.returns-in-None
returns-in-None c =
    none-apart c.args.old.now.net c.args.new.now c.args.item.now
    (MatchOption-at_none _ _ c.in-None.is c.in_ok-repair_there.ensures)

pub returns-then-same_repair : goal.returns-then-same_repair
returns-then-same_repair c =
    let same : repair_of c.net.result.now c.in-Some.before ≡ repair_of c.args.new.now c.args.item.now = c.same_repair.ensures.0 c.if-same_repair.true in
    alike-same c.args.old.now.net c.args.new.now c.args.item.now c.in-Some.before c.net.ensures.net
    (MatchOption-at_some _ _ c.in-Some.before c.in-Some.is c.in_ok-repair_there.ensures)
    (ap (λ (n : Net). repair_of n c.in-Some.before) (sym c.net.ensures.value) ∙ same)

pub returns : goal.returns
returns c =
    unlike-other c.args.old.now.net c.args.new.now c.args.item.now c.in-Some.before c.net.ensures.net
    (sym c.is_repair.ensures ∙ c.if-not-is_repair.false)
    (MatchOption-at_some _ _ c.in-Some.before c.in-Some.is c.in_ok-repair_there.ensures)
    (λ e. absurd (cc (c.same_repair.ensures.1 (ap (λ (n : Net). repair_of n c.in-Some.before) c.net.ensures.value ∙ e), c.if-same_repair.false)))
