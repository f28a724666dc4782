use Rattle.std.proofs.Common.{◌≡◌, ◌+◌, ◌-◌, ap, arith, sym, ◌∙◌, subst, refl}
use Rattle.std.specs.Prelude.{count_by}
use Rattle.sr_model.specs.declared.audit.Counts.{Counts}
use Rattle.sr_model.specs.Audit.{is_least, is_too_deep}
use Rattle.sr_encode.specs.Placed.{listed_from}
use Rattle.sr_encode.specs.declared.answers.NodeAnswer.{NodeAnswer}
use Rattle.sr_encode.specs.Answered.{counts_in}
use Rattle.sr_encode.specs.Limited.{limited_entries}
use Rattle.sr_encode.proofs.LimitLemmas.{counts-split, lists-same, paths-same}
use Rattle.sr_encode.proofs.answers.CaseAnswers.counts.Goals.{After-deep_count-toodeep}
use Rattle.sr_encode.proofs.answers.CaseAnswers.counts.Goals as goal

-- lists and lists that are too deep are the lists that are listed
split : (c : After-deep_count-toodeep) → count_by (λ (e : NodeAnswer). is_least e.answer) (limited_entries c.self.inside.limit (listed_from c.self.inside.start.0 c.self.inside.lists.now)) + c.deep_count-toodeep.result ≡ c.counts-listed.result.covered
split c =
    let limit = c.self.inside.limit in
    let list = listed_from c.self.inside.start.0 c.self.inside.lists.now in
    let deep : c.deep_count-toodeep.result ≡ count_by (λ (e : NodeAnswer). is_too_deep e.answer) (limited_entries limit list) = c.deep_count-toodeep.ensures ∙ ap (λ l. count_by (λ (e : NodeAnswer). is_too_deep e.answer) l) (sym c.self.view_is) in
    let covered : c.counts-listed.result.covered ≡ count_by (λ (e : NodeAnswer). is_least e.answer) list = ap (λ (k : Counts). k.covered) (c.counts-listed.ensures.counts c.self.inside.start.0) in
    let flat : count_by (λ (e : NodeAnswer). is_too_deep e.answer) list ≡ 0 = sym (ap (λ (k : Counts). k.toodeep) (c.counts-listed.ensures.counts c.self.inside.start.0)) ∙ c.counts-listed.ensures.flat in
    omega (arith, counts-split limit list, deep, covered, flat)

pub overflow_sub-result : goal.overflow_sub-result
overflow_sub-result c = omega (arith, split (goal.at.overflow_sub-result c).After-deep_count-toodeep)

pub returns : goal.returns
returns c =
    let limit = c.self.inside.limit in
    let list = listed_from c.self.inside.start.0 c.self.inside.lists.now in
    let least : c.counts-listed.result.covered - c.deep_count-toodeep.result ≡ count_by (λ (e : NodeAnswer). is_least e.answer) (limited_entries limit list) = omega (arith, split (goal.at.returns c).After-deep_count-toodeep) in
    let path = ap (λ (k : Counts). k.nopath) (c.counts-listed.ensures.counts c.self.inside.start.0) ∙ sym (paths-same limit list) in
    let none = ap (λ (k : Counts). k.nolist) (c.counts-listed.ensures.counts c.self.inside.start.0) ∙ sym (lists-same limit list) in
    let deep : c.deep_count-toodeep.result ≡ count_by (λ (e : NodeAnswer). is_too_deep e.answer) (limited_entries limit list) = c.deep_count-toodeep.ensures ∙ ap (λ l. count_by (λ (e : NodeAnswer). is_too_deep e.answer) l) (sym c.self.view_is) in
    subst (λ l. record { covered = c.counts-listed.result.covered - c.deep_count-toodeep.result; nopath = c.counts-listed.result.nopath; nolist = c.counts-listed.result.nolist; toodeep = c.deep_count-toodeep.result } ≡ counts_in l) c.self.view_is (rw (least, path, none, deep) refl)
