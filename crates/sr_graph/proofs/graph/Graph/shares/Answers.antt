use Rattle.std.proofs.Common.{◌≡◌, ◌↔◌, ◌<◌, ◌≤◌, arith, true, length, nat_lt}
use Rattle.std.proofs.lemmas.Bool.Decides.{nat_tests}
use Rattle.sr_model.specs.Case.{ShareGroup}
use Rattle.sr_graph.specs.Bits.{IsIn}
use Rattle.sr_graph.proofs.SharingLemmas.{shares-read, shares-past}
use Rattle.sr_graph.proofs.graph.Graph.shares.Goals as goal

pub returns-then-place-len : goal.returns-then-place-len
returns-then-place-len c =
    let within : c.args.other.0 < length c.self.inside.sharing.items = grind arith in
    let same : IsIn c.index.result.now c.args.link.0 ↔ ShareGroup c.args.self.now c.args.link.0 c.args.other.0 = shares-read _ _ _ _ _ c.self.view_is c.self.invariant.grouped c.self.invariant.sharing c.requires.other c.requires.link _ within c.index.ensures in
    (λ is. same.0 (c.has.ensures.0 is), λ shared. c.has.ensures.1 (same.1 shared))

pub returns-else-place-len : goal.returns-else-place-len
returns-else-place-len c =
    let past : length c.self.inside.sharing.items ≤ c.args.other.0 = grind (arith, nat_tests) in
    (λ (is : nat_lt c.args.other.0 c.len.result ≡ true). absurd (grind (arith, nat_tests)), λ shared. absurd (shares-past _ _ _ _ _ c.self.view_is c.self.invariant.grouped c.self.invariant.sharing c.requires.other c.requires.link past shared))
