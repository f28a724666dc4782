use Rattle.std.proofs.Common.{◌≡◌, sym, subst, ◌∙◌, ap}
use Rattle.std.specs.Arc.{arc_value}
use Rattle.std.proofs.lemmas.Result.{IfOk-weaker}
use Rattle.sr_model.specs.Case.{source_of}
use Rattle.sr_model.specs.Graph.{tail}
use Rattle.sr_spf.specs.Renewed.{AreInPlace}
use Rattle.sr_delta.specs.Partners.{ArePartners}
use Rattle.sr_encode.specs.Placed.{listed_from, HaveLinkNumbers, AreNotBefore}
use Rattle.sr_encode.specs.Renumbered.{moved_entries}
use Rattle.sr_repair.specs.Former.{IsFormer, IsRenumbering, StaySolved}
use Rattle.sr_repair.specs.Spared.{Passage}
use Rattle.sr_repair.specs.Solutions.{Solution, IsMovedSolution}
use Rattle.sr_repair.proofs.StayLemmas.{begin-told, moved-stays, numbers-told}
use Rattle.sr_repair.proofs.former.Former.moved.Goals.{After-edge, After-renumbering-numbers}
use Rattle.sr_repair.proofs.former.Former.moved.Goals as goal

-- what differs
former : (c : After-edge) → IsFormer c.args.self.now c.self.inside.changes.now c.self.inside.staying c.self.inside.in_place
former c = subst (λ (p : Passage). IsFormer p c.self.inside.changes.now c.self.inside.staying c.self.inside.in_place) c.self.view_is c.self.invariant.0

pub renumbering-numbers-requires-clause-links : goal.renumbering-numbers-requires-clause-links
renumbering-numbers-requires-clause-links c =
    let r = former (goal.at.renumbering-numbers-requires-clause-links c).After-edge in
    subst (λ links. ArePartners c.args.self.now.old.graph c.args.self.now.new.graph links) (sym c.partners.ensures) (r.differ.partners r.same)

-- the numbers are those of the links of the source
numbered : (c : After-renumbering-numbers) → IsRenumbering c.args.self.now (source_of c.args.self.now.old.graph c.args.old) c.renumbering-numbers.result
numbered c =
    let source : c.edge.result.from.0 ≡ source_of c.args.self.now.old.graph c.args.old = c.edge.ensures.from ∙ ap (λ g. tail g c.args.old.link.0) (c.graph.ensures.value ∙ ap (λ n. n.graph) c.net.ensures.value ∙ ap (λ (p : Passage). p.old.graph) c.self.view_is) in
    subst (λ s. IsRenumbering c.args.self.now s c.renumbering-numbers.result) source c.renumbering-numbers.ensures.numbers

pub keeps_numbers-requires-clause-place : goal.keeps_numbers-requires-clause-place
keeps_numbers-requires-clause-place c placed =
    let r = former (goal.at.keeps_numbers-requires-clause-place c).After-edge in
    subst (λ links. AreInPlace links) (sym (c.renumbering-numbers.ensures.links ∙ c.partners.ensures)) (r.numbers placed)

pub keeps_numbers-requires-clause-numbers : goal.keeps_numbers-requires-clause-numbers
keeps_numbers-requires-clause-numbers c =
    let at = goal.at.keeps_numbers-requires-clause-numbers c in
    let q = c.args.self.now in
    subst (λ (s : Solution). HaveLinkNumbers (listed_from c.renumbering-numbers.result.before.0 s.lists)) (sym c.deref.ensures)
    (numbers-told q c.self.inside.changes.now c.self.inside.staying c.self.inside.in_place (former at.After-edge) c.args.old c.renumbering-numbers.result (numbered at.After-renumbering-numbers) (arc_value c.args.solved.now) c.requires.solved)

pub returns-then-keeps_numbers : goal.returns-then-keeps_numbers
returns-then-keeps_numbers c =
    let at = goal.at.returns-then-keeps_numbers c in
    let q = c.args.self.now in
    let s : Solution = arc_value c.args.solved.now in
    let moved : IsMovedSolution c.renumbering-numbers.result s s = subst (λ (t : Solution). IsMovedSolution c.renumbering-numbers.result t t) c.deref.ensures (c.keeps_numbers.ensures c.if-keeps_numbers.true) in
    IfOk-weaker c.try_clone.result _ _
    (λ shared same. subst (λ (t : Solution). StaySolved q c.args.old s t) (sym same)
    (moved-stays q c.self.inside.changes.now c.self.inside.staying c.self.inside.in_place (former at.After-edge) c.args.old c.renumbering-numbers.result (numbered at.After-renumbering-numbers) s s moved))
    c.try_clone.ensures

pub renumbered-requires-clause-numbers : goal.renumbered-requires-clause-numbers
renumbered-requires-clause-numbers c =
    let at = goal.at.renumbered-requires-clause-numbers c in
    let q = c.args.self.now in
    subst (λ (s : Solution). HaveLinkNumbers (listed_from c.renumbering-numbers.result.before.0 s.lists)) (sym c.deref-2.ensures)
    (numbers-told q c.self.inside.changes.now c.self.inside.staying c.self.inside.in_place (former at.After-edge) c.args.old c.renumbering-numbers.result (numbered at.After-renumbering-numbers) (arc_value c.args.solved.now) c.requires.solved)

pub renumbered-requires-clause-begin : goal.renumbered-requires-clause-begin
renumbered-requires-clause-begin c =
    let at = goal.at.renumbered-requires-clause-begin c in
    let q = c.args.self.now in
    let num = c.renumbering-numbers.result in
    subst (λ (s : Solution). AreNotBefore num.after.0 (moved_entries num.links.now (listed_from num.before.0 s.lists))) (sym c.deref-2.ensures)
    (begin-told q c.self.inside.changes.now c.self.inside.staying c.self.inside.in_place (former at.After-edge) c.args.old num (numbered at.After-renumbering-numbers) (arc_value c.args.solved.now) c.requires.solved c.requires.steady)

pub returns : goal.returns
returns c =
    let at = goal.at.returns c in
    let q = c.args.self.now in
    let s : Solution = arc_value c.args.solved.now in
    IfOk-weaker c.renumbered.result _ _
    (λ made moved. moved-stays q c.self.inside.changes.now c.self.inside.staying c.self.inside.in_place (former at.After-edge) c.args.old c.renumbering-numbers.result (numbered at.After-renumbering-numbers) s (arc_value made)
    (subst (λ (t : Solution). IsMovedSolution c.renumbering-numbers.result t (arc_value made)) c.deref-2.ensures moved))
    c.renumbered.ensures
