use Rattle.std.proofs.Common.{sym, ◌∙◌}
use Rattle.sr_account.proofs.SourceLaw.{first-more, first-none, first-there}
use Rattle.sr_account.proofs.sources.first_flags.Goals as goal

pub returns-then-eq : goal.returns-then-eq
returns-then-eq c = first-there c.args.backup c.args.label c.args.sids.now c.loop-sid.sid-index _ c.adj_sid_label.result c.loop-sid-test.true c.adj_sid_label.ensures (sym c.eq.ensures ∙ c.if-eq.true) c.loop-sid.invariant

pub loop-sid-preserved : goal.loop-sid-preserved
loop-sid-preserved c = first-more c.args.backup c.args.label c.args.sids.now c.loop-sid.sid-index _ c.adj_sid_label.result c.adj_sid_label.ensures (sym c.eq.ensures ∙ c.if-eq.false) c.loop-sid.invariant

pub returns : goal.returns
returns c = first-none c.args.backup c.args.label c.args.sids.now c.loop-sid.sid-index c.loop-sid-test.false c.loop-sid.invariant
