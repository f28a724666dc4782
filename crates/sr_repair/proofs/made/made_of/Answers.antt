use Rattle.std.proofs.Common.{◌-◌, arith, subst, sym}
use Rattle.sr_repair.specs.Answers.{case_count, AreAllFound}
use Rattle.sr_repair.proofs.KeptLemmas.{all-kept}
use Rattle.sr_repair.proofs.WorkLemmas.{within-none, within-passed}
use Rattle.sr_repair.proofs.made.made_of.Goals as goal

pub returns-in_err-sids-clause-searches : goal.returns-in_err-sids-clause-searches
returns-in_err-sids-clause-searches g c = (0, omega arith, within-none c.args.setting.now.former c.args.setting.now.net)

pub returns-in_err-passed-clause-searches : goal.returns-in_err-passed-clause-searches
returns-in_err-passed-clause-searches g c = (0, omega arith, within-none c.args.setting.now.former c.args.setting.now.net)

pub returns-in_err-found-clause-searches : goal.returns-in_err-found-clause-searches
returns-in_err-found-clause-searches g c =
    let s = c.args.setting.now in (
      c.all_kept.new.steps - c.args.steps.now,
      omega (arith, c.all_kept.ensures.least),
      within-passed s.former s.net c.in_ok-passed.passed.items (c.all_kept.new.steps - c.args.steps.now) c.in_ok-passed.ensures (omega (arith, c.all_kept.ensures.most, c.all_kept.ensures.least)),
    )

pub returns-clause-found : goal.returns-clause-found
returns-clause-found g c =
    let s = c.args.setting.now in
    subst (λ items. AreAllFound s.net (case_count s.net.graph) items) (sym c.in_ok-found.ensures.found) (all-kept s.former s.net (case_count s.net.graph) c.in_ok-passed.passed.items c.in_ok-passed.ensures)

pub returns-clause-searches : goal.returns-clause-searches
returns-clause-searches g c =
    let s = c.args.setting.now in (
      c.all_kept.new.steps - c.args.steps.now,
      omega (arith, c.all_kept.ensures.least),
      within-passed s.former s.net c.in_ok-passed.passed.items (c.all_kept.new.steps - c.args.steps.now) c.in_ok-passed.ensures (omega (arith, c.all_kept.ensures.most, c.all_kept.ensures.least)),
    )
