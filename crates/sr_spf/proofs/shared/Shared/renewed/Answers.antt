use Rattle.std.proofs.Common.{◌≡◌, ◌++◌, ◌∷◌, [], Some, None, sym, subst}
use Rattle.sr_spf.proofs.SharedLemmas.{AreRenewedUpTo, renewed-found, renewed-shared}
use Rattle.sr_spf.proofs.shared.Shared.renewed.Goals as goal

pub loop-one-preserved-in-Continue-branch-2 : goal.loop-one-preserved-in-Continue-branch-2
loop-one-preserved-in-Continue-branch-2 g c =
    let next = c.in-Some.ensures.steps.0 in
    let one = c.in-Some-one.is in
    let pushed = c.in_ok-push-in-Some-one.ensures in
    let is : c.loop-one.one-iterator.rest.items ≡ Some c.in-Some-one.item ∷ c.next.new.self.rest.items = cc in
    let more : c.push.new.self ≡ c.loop-one.shared ++ c.in-Some-one.item ∷ [] = cc in
    subst (λ k. AreRenewedUpTo c.args.old.now c.args.found.items c.next.new.self.rest.items k) (sym more)
    (renewed-found c.args.old.now c.args.found.items c.next.new.self.rest.items c.loop-one.shared c.in-Some-one.item
    (subst (λ k. AreRenewedUpTo c.args.old.now c.args.found.items k c.loop-one.shared) is c.loop-one.invariant))

pub loop-one-preserved : goal.loop-one-preserved
loop-one-preserved g c =
    let next = c.in-Some.ensures.steps.0 in
    let one = c.in-None-one.is in
    let is : c.loop-one.one-iterator.rest.items ≡ None ∷ c.next.new.self.rest.items = cc in
    renewed-shared c.args.old.now c.args.found.items c.next.new.self.rest.items c.loop-one.shared c.share.new.self
    (subst (λ k. AreRenewedUpTo c.args.old.now c.args.found.items k c.loop-one.shared) is c.loop-one.invariant)
    c.in_ok-share-in-None-one.ensures
