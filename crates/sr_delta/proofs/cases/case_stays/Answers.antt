use Rattle.std.proofs.Common.{◌≡◌, true, Some, sym, ◌∙◌, subst}
use Rattle.sr_model.specs.Stay.{HaveSameName, case_with}
use Rattle.sr_delta.specs.Partners.{IsPartner, partner_at}
use Rattle.sr_delta.specs.Pairs.{HaveSameFailures}
use Rattle.sr_delta.specs.Stayers.{AreStaying}
use Rattle.sr_delta.specs.Cases.{Computed, IsComputed, IsKeptHere, AreWalksKept}
use Rattle.sr_delta.proofs.CaseLemmas.{kept-from_parts, here-from_kept, failures-from_kept, walks-from_kept}
use Rattle.sr_delta.proofs.cases.case_stays.Goals as goal

pub returns-then-not-are_walks_kept : goal.returns-then-not-are_walks_kept
returns-then-not-are_walks_kept c =
    let same : c.args.changes.now.same ≡ true = (let one = c.same_nodes.ensures in let two = c.if-not-same_nodes.false in cc) in
    let stay : AreStaying c.args.old.now.net c.args.new.now c.args.staying.now = c.requires.staying same in (
      λ is. absurd (cc),
      λ kept.
          let this = (c.are_walks_kept.ensures c.args.new.now stay).1 (walks-from_kept c.args.old.now.net c.args.new.now c.args.old.now.case kept) in
          let not = c.if-not-are_walks_kept.true in
          cc,
    )

pub returns-then-not-is_kept_here : goal.returns-then-not-is_kept_here
returns-then-not-is_kept_here c =
    let same : c.args.changes.now.same ≡ true = (let one = c.same_nodes.ensures in let two = c.if-not-same_nodes.false in cc) in
    let stay : AreStaying c.args.old.now.net c.args.new.now c.args.staying.now = c.requires.staying same in (
      λ is. absurd (cc),
      λ kept.
          let this = (c.is_kept_here.ensures c.args.new.now c.requires.changes same stay).1 (here-from_kept c.args.old.now c.args.new.now c.args.changes.now c.case.ensures.computed c.requires.changes same kept) in
          let not = c.if-not-is_kept_here.true in
          cc,
    )

pub have_same_failures-requires-clause-name : goal.have_same_failures-requires-clause-name
have_same_failures-requires-clause-name c =
    let same : c.args.changes.now.same ≡ true = (let one = c.same_nodes.ensures in let two = c.if-not-same_nodes.false in cc) in
    let old : Computed = c.args.old.now in
    let all : IsComputed old = c.case.ensures.computed in
    let found : partner_at c.args.changes.now.partners old.case.link.0 ≡ Some c.in-Some.link = sym (rw c.case.ensures.case at c.partner.ensures) ∙ c.in-Some.is in
    subst (λ j. IsPartner old.net.graph c.args.new.now.graph old.case.link.0 j) found ((c.requires.changes.partners same).each old.case.link.0 all.within)

pub returns-else-not-is_kept_here : goal.returns-else-not-is_kept_here
returns-else-not-is_kept_here c =
    let same : c.args.changes.now.same ≡ true = (let one = c.same_nodes.ensures in let two = c.if-not-same_nodes.false in cc) in
    let stay : AreStaying c.args.old.now.net c.args.new.now c.args.staying.now = c.requires.staying same in
    let old : Computed = c.args.old.now in
    let all : IsComputed old = c.case.ensures.computed in
    let found : partner_at c.args.changes.now.partners old.case.link.0 ≡ Some c.in-Some.link = sym (rw c.case.ensures.case at c.partner.ensures) ∙ c.in-Some.is in
    let name : HaveSameName old.net.graph c.args.new.now.graph old.case.link.0 c.in-Some.link.0 =
    subst (λ j. IsPartner old.net.graph c.args.new.now.graph old.case.link.0 j) found ((c.requires.changes.partners same).each old.case.link.0 all.within) in
    let walks : AreWalksKept old.net c.args.new.now old.case = (c.are_walks_kept.ensures c.args.new.now stay).0 (let not = c.if-not-are_walks_kept.false in cc) in
    let here : IsKeptHere old c.args.new.now c.args.changes.now.links = (c.is_kept_here.ensures c.args.new.now c.requires.changes same stay).0 (let not = c.if-not-is_kept_here.false in cc) in (
      λ is.
          let failures : HaveSameFailures old.net.graph old.case c.args.new.now.graph (case_with old.case c.in-Some.link) = c.have_same_failures.ensures.0 is in
          kept-from_parts old c.args.new.now c.args.changes.now c.in-Some.link all c.requires.changes same name here failures walks,
      λ kept. c.have_same_failures.ensures.1 (failures-from_kept old.net c.args.new.now old.case c.requires.changes.new.named c.in-Some.link name kept),
    )
