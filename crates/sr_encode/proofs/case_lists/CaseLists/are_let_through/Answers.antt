use Rattle.std.proofs.Common.{subst, sym, ◌≡◌}
use Rattle.sr_encode.specs.Kept.{entries}
use Rattle.sr_encode.specs.Limited.{AreLetThrough, limited_entries}
use Rattle.sr_encode.proofs.LimitLemmas.{entries-let_through, let_through-back}
use Rattle.sr_encode.proofs.case_lists.CaseLists.are_let_through.Goals as goal

pub returns : goal.returns
returns c start = (
  λ yes.
      let old = c.self.inside in
      let through : AreLetThrough c.args.limit old.outcomes.items = subst (λ outcomes. AreLetThrough c.args.limit outcomes) c.deref.ensures.value (c.are_let_through.ensures.0 yes) in
      rw (← c.self.view_is) (entries-let_through start c.args.limit old.segments.items old.outcomes.items old.kept.items c.self.invariant.0.lists through c.self.invariant.0.each),
  λ same.
      let old = c.self.inside in
      let here : limited_entries c.args.limit (entries old.segments.items old.outcomes.items old.kept.items start) ≡ entries old.segments.items old.outcomes.items old.kept.items start = rw (← c.self.view_is) at same in
      c.are_let_through.ensures.1 (subst (λ outcomes. AreLetThrough c.args.limit outcomes) (sym c.deref.ensures.value) (let_through-back start c.args.limit old.segments.items old.outcomes.items old.kept.items c.self.invariant.0 here)),
)
