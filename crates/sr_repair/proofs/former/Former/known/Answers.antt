use Rattle.std.proofs.Common.{refl, sym, subst, ◌∙◌}
use Rattle.std.proofs.lemmas.Result.{IfOk-weaker}
use Rattle.sr_model.specs.declared.case.Case.{Case}
use Rattle.sr_model.specs.Stay.{HaveSameName}
use Rattle.sr_graph.specs.Failed.{FailsAsLink}
use Rattle.sr_delta.specs.Partners.{IsPartner}
use Rattle.sr_repair.specs.declared.answers.Found.TheVariants.{Nothing, AsLink, Own}
use Rattle.sr_repair.specs.Answers.{AffectsSome, IsFound}
use Rattle.sr_repair.specs.Former.{IsFormer}
use Rattle.sr_repair.specs.Spared.{Passage}
use Rattle.sr_repair.specs.KnownCase.{IsKnownCase}
use Rattle.sr_repair.proofs.StayLemmas.{found-weaker, known-moved, name-back, searched-unless, searched-nothing, searched-like}
use Rattle.sr_repair.proofs.former.Former.known.Goals as goal

pub returns-in-Own : goal.returns-in-Own
returns-in-Own c =
    let f = c.self.inside in
    let q = c.args.self.now in
    let case = c.args.case in
    let link = c.in-Some.link in
    let old : Case = record { kind = case.kind; link = link } in
    let r : IsFormer q f.changes.now f.staying f.in_place = subst (λ (p : Passage). IsFormer p f.changes.now f.staying f.in_place) c.self.view_is c.self.invariant.0 in
    let name : HaveSameName q.new.graph q.old.graph case.link.0 link.0 = subst (λ o. IsPartner q.new.graph q.old.graph case.link.0 o) (sym c.origin.ensures ∙ c.in-Some.is) ((r.differ.origins r.same).each case.link.0 c.requires.case) in
    let here : IsFound f.computed.now old (Own c.in-Own.known) = subst (λ k. IsFound f.computed.now old k) c.in-Own.is c.found.ensures in
    let there : IsKnownCase q.old old c.in-Own.known = subst (λ (p : Passage). IsFound p.old old (Own c.in-Own.known)) c.self.view_is here in
    IfOk-weaker c.known_of.result _ _
    (λ found m.
    found-weaker found _ _ _ _
    (λ not. searched-unless q f.changes.now f.staying f.in_place r case link name (λ affects stays. not stays))
    (λ kept both. known-moved q f.changes.now f.staying f.in_place r c.in-Own.known kept old case refl (name-back q.new q.old case.link.0 link.0 name) both.0 there both.1)
    m)
    c.known_of.ensures

pub returns-in-Nothing : goal.returns-in-Nothing
returns-in-Nothing c =
    let f = c.self.inside in
    let q = c.args.self.now in
    let case = c.args.case in
    let link = c.in-Some.link in
    let old : Case = record { kind = case.kind; link = link } in
    let r : IsFormer q f.changes.now f.staying f.in_place = subst (λ (p : Passage). IsFormer p f.changes.now f.staying f.in_place) c.self.view_is c.self.invariant.0 in
    let name : HaveSameName q.new.graph q.old.graph case.link.0 link.0 = subst (λ o. IsPartner q.new.graph q.old.graph case.link.0 o) (sym c.origin.ensures ∙ c.in-Some.is) ((r.differ.origins r.same).each case.link.0 c.requires.case) in
    let here : IsFound f.computed.now old Nothing = subst (λ k. IsFound f.computed.now old k) c.in-Nothing.is c.found.ensures in
    let none : AffectsSome q.old old → ⊥ = subst (λ (p : Passage). IsFound p.old old Nothing) c.self.view_is here in
    searched-nothing q f.changes.now f.staying f.in_place r case link name none

pub returns-in-AsLink : goal.returns-in-AsLink
returns-in-AsLink c =
    let f = c.self.inside in
    let q = c.args.self.now in
    let case = c.args.case in
    let link = c.in-Some.link in
    let old : Case = record { kind = case.kind; link = link } in
    let r : IsFormer q f.changes.now f.staying f.in_place = subst (λ (p : Passage). IsFormer p f.changes.now f.staying f.in_place) c.self.view_is c.self.invariant.0 in
    let name : HaveSameName q.new.graph q.old.graph case.link.0 link.0 = subst (λ o. IsPartner q.new.graph q.old.graph case.link.0 o) (sym c.origin.ensures ∙ c.in-Some.is) ((r.differ.origins r.same).each case.link.0 c.requires.case) in
    let here : IsFound f.computed.now old AsLink = subst (λ k. IsFound f.computed.now old k) c.in-AsLink.is c.found.ensures in
    let like : FailsAsLink q.old.graph old = subst (λ (p : Passage). IsFound p.old old AsLink) c.self.view_is here in
    searched-like q f.changes.now f.staying f.in_place r case link name like c.requires.own
