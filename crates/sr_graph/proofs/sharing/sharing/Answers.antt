use Rattle.std.proofs.Common.{◌≡◌, length, arith}
use Rattle.std.proofs.lemmas.Bool.Decides.{nat_tests}
use Rattle.std.proofs.lemmas.Result.{IfOk-weaker}
use Rattle.sr_graph.specs.Holdings.{AreHoldings, AreJoined}
use Rattle.sr_graph.specs.Sharing.{AreSharing}
use Rattle.sr_graph.proofs.SharingLemmas.{holdings-moved, sharing-from_joined, sharing-none}
use Rattle.sr_graph.proofs.sharing.sharing.Goals as goal

pub returns-then-is_empty : goal.returns-then-is_empty
returns-then-is_empty c =
    let held : AreHoldings c.args.groups.now (length c.args.groups.now) c.by_group-list.result.items = holdings-moved _ _ _ _ c.by_group-list.ensures.same c.in_ok-holdings.ensures in
    let none : length c.by_group-list.result.items ≡ 0 = grind (arith, nat_tests) in
    rw c.new.ensures.items (sharing-none c.args.groups.now c.by_group-list.result.items none held)

pub joined-requires-clause-links : goal.joined-requires-clause-links
joined-requires-clause-links c =
    let held : AreHoldings c.args.groups.now (length c.args.groups.now) c.by_group-list.result.items = holdings-moved _ _ _ _ c.by_group-list.ensures.same c.in_ok-holdings.ensures in
    rw c.deref.ensures.value (λ k lt. (held.each k lt).0)

pub returns : goal.returns
returns c =
    let held : AreHoldings c.args.groups.now (length c.args.groups.now) c.by_group-list.result.items = holdings-moved _ _ _ _ c.by_group-list.ensures.same c.in_ok-holdings.ensures in
    IfOk-weaker c.joined.result (λ sets. AreJoined c.deref.result.now (length c.deref.result.now) sets.items) (λ sets. AreSharing c.args.groups.now sets.items) (λ sets k. sharing-from_joined _ _ _ held (rw c.deref.ensures.value at k)) c.joined.ensures
