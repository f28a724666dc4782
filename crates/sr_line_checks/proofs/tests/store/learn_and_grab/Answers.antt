use Rattle.std.proofs.Common.{ap, sym, ◌∙◌, subst}
use Rattle.sr_store.specs.Seats.{SeatsFrom}
use Rattle.sr_store.proofs.Seating.{seats-end, seats-push}
use Rattle.sr_line_checks.proofs.tests.store.learn_and_grab.Goals as goal

pub learn-requires : goal.learn-requires
learn-requires c =
    let store = c.args.told.list.store in
    let all = subst (λ rs. SeatsFrom store 0 rs) c.in-Some.ensures.items c.requires in
    sym (seats-end store 0 c.pop.new.self.items c.in-Some.reader all).1

pub returns-in_ok-push-in-Some-clause-seats : goal.returns-in_ok-push-in-Some-clause-seats
returns-in_ok-push-in-Some-clause-seats c =
    let store = c.args.told.list.store in
    let rest = c.pop.new.self.items in
    let all = subst (λ rs. SeatsFrom store 0 rs) c.in-Some.ensures.items c.requires in
    let last = seats-end store 0 rest c.in-Some.reader all in
    let same = c.in_ok-grabbed-in-Some.ensures.kept.0 ∙ (ap (λ h. h.store) c.learn.ensures.list ∙ last.1) in
    let seat = c.in_ok-grabbed-in-Some.ensures.kept.1 ∙ (c.learn.ensures.seat ∙ last.2) in
    let pushed = seats-push store 0 rest _ last.0 same seat in
    subst (λ rs. SeatsFrom store 0 rs) (sym c.in_ok-push-in-Some.ensures.items) pushed
