use Rattle.std.proofs.Common.{◌≡◌, ◌<◌, length, arith, ap, ◌∙◌}
use Rattle.std.proofs.lemmas.Option.{slice_get_within, get_or_from_slice_get}
use Rattle.sr_model.specs.declared.link.LinkNo.{LinkNo}
use Rattle.sr_spf.specs.Hops.{AreNextHops}
use Rattle.sr_graph.specs.Members.{number_at}
use Rattle.sr_delta.proofs.ends.is_next_hop.Goals as goal

pub returns : goal.returns
returns c = λ g trees. (
  λ is. absurd (cc),
  λ hop.
      let are : AreNextHops g c.args.from.0 c.args.to.0 c.next_hops-hops.result.now = c.next_hops-hops.ensures.hops g trees in
      let at = are.all c.args.link.0 hop in
      let lt : at.0 < length c.next_hops-hops.result.now = slice_get_within c.next_hops-hops.result.now at.0 at.1 at.2 in
      let here : number_at c.next_hops-hops.result.now at.0 ≡ c.args.link.0 = ap (λ (k : LinkNo). k.0) (get_or_from_slice_get c.next_hops-hops.result.now at.0 at.1 (record { 0 = 0 }) at.2) ∙ at.3 in
      absurd (c.loop-i.invariant at.0 (omega (arith, lt, c.loop-i-test.false)) here),
)
