use Rattle.std.proofs.Common.{refl, subst}
use Rattle.sr_model.specs.declared.case.Case.{Case}
use Rattle.sr_model.specs.Label.{Net}
use Rattle.sr_model.specs.Stay.{IsKeptCase}
use Rattle.sr_laws.proofs.Kept.{steady-from_kept}
use Rattle.sr_repair.specs.Former.{IsFormer}
use Rattle.sr_repair.specs.Spared.{Passage}
use Rattle.sr_repair.proofs.former.Former.outlasts.Goals as goal

pub returns-then-case_stays : goal.returns-then-case_stays
returns-then-case_stays c =
    let f = c.self.inside in
    let q : Passage = c.args.self.now in
    let case : Case = c.args.old.now.case in
    let r : IsFormer q f.changes.now f.staying f.in_place = subst (λ (p : Passage). IsFormer p f.changes.now f.staying f.in_place) c.self.view_is c.self.invariant.0 in
    let here : IsKeptCase c.args.old.now.net f.net.now case = c.case_stays.ensures.0 c.if-case_stays.true in
    let kept : IsKeptCase q.old q.new case = subst (λ (p : Passage). IsKeptCase q.old p.new case) c.self.view_is (subst (λ (n : Net). IsKeptCase n f.net.now case) c.requires here) in
    (λ is. steady-from_kept q.old q.new r.differ.old r.differ.new case kept, λ steady. refl)
