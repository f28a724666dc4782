use Rattle.std.proofs.Common.{◌≡◌, Some, None, sym, ◌∙◌, subst}
use Rattle.sr_model.specs.Stay.{HaveSameName}
use Rattle.sr_delta.specs.Partners.{IsPartner, partner_at}
use Rattle.sr_delta.specs.Cases.{Computed, IsComputed}
use Rattle.sr_delta.proofs.SteadyLemmas.{affected-from_steady, failures-from_steady, here-from_steady, steady-from_parts}
use Rattle.sr_delta.proofs.steady.is_steady.Goals as goal

pub returns-in-None : goal.returns-in-None
returns-in-None c =
    let old : Computed = c.args.old.now in
    let all : IsComputed old = c.case.ensures.computed in
    let found : partner_at c.args.changes.now.partners old.case.link.0 ≡ None = sym (rw c.case.ensures.case at c.partner.ensures) ∙ c.in-None.is in
    let none = subst (λ j. IsPartner old.net.graph c.args.new.now.graph old.case.link.0 j) found ((c.requires.changes.0.partners c.requires.changes.1).each old.case.link.0 all.within) in
    (λ is. absurd (cc), λ steady. absurd (none steady.link.0 steady.protected))

pub returns-then-not-is_steady_here : goal.returns-then-not-is_steady_here
returns-then-not-is_steady_here c = (
  λ is. absurd (cc),
  λ steady.
      let here = (c.is_steady_here.ensures c.args.new.now c.requires.changes.0 c.requires.changes.1 c.requires.staying c.requires.moved).1
      (here-from_steady c.args.old.now c.args.new.now c.args.changes.now c.case.ensures.computed c.requires.changes.0 c.requires.changes.1 steady) in
      let not = c.if-not-is_steady_here.true in
      cc,
)

pub returns-then-not-are_affected_alike : goal.returns-then-not-are_affected_alike
returns-then-not-are_affected_alike c =
    let old : Computed = c.args.old.now in
    let all : IsComputed old = c.case.ensures.computed in
    let found : partner_at c.args.changes.now.partners old.case.link.0 ≡ Some c.in-Some.link = sym (rw c.case.ensures.case at c.partner.ensures) ∙ c.in-Some.is in
    let name : HaveSameName old.net.graph c.args.new.now.graph old.case.link.0 c.in-Some.link.0 =
    subst (λ j. IsPartner old.net.graph c.args.new.now.graph old.case.link.0 j) found ((c.requires.changes.0.partners c.requires.changes.1).each old.case.link.0 all.within) in (
      λ is. absurd (cc),
      λ steady.
          let alike = c.are_affected_alike.ensures.1 (affected-from_steady old.net c.args.new.now old.case c.requires.changes.0.old c.requires.changes.0.new c.in-Some.link name steady) in
          let not = c.if-not-are_affected_alike.true in
          cc,
    )

pub returns-else-not-are_affected_alike : goal.returns-else-not-are_affected_alike
returns-else-not-are_affected_alike c =
    let old : Computed = c.args.old.now in
    let all : IsComputed old = c.case.ensures.computed in
    let found : partner_at c.args.changes.now.partners old.case.link.0 ≡ Some c.in-Some.link = sym (rw c.case.ensures.case at c.partner.ensures) ∙ c.in-Some.is in
    let name : HaveSameName old.net.graph c.args.new.now.graph old.case.link.0 c.in-Some.link.0 =
    subst (λ j. IsPartner old.net.graph c.args.new.now.graph old.case.link.0 j) found ((c.requires.changes.0.partners c.requires.changes.1).each old.case.link.0 all.within) in (
      λ yes'. steady-from_parts old c.args.new.now c.args.changes.now c.in-Some.link all c.requires.changes.0 c.requires.changes.1 name
          ((c.is_steady_here.ensures c.args.new.now c.requires.changes.0 c.requires.changes.1 c.requires.staying c.requires.moved).0 (let not = c.if-not-is_steady_here.false in cc))
          (c.are_affected_alike.ensures.0 (let not = c.if-not-are_affected_alike.false in cc))
          (c.have_same_failures.ensures.0 yes'),
      λ steady. c.have_same_failures.ensures.1 (failures-from_steady old.net c.args.new.now old.case c.requires.changes.0.new.named c.in-Some.link name steady),
    )
