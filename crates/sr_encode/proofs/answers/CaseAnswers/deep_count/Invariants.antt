use Rattle.std.proofs.Common.{◌≡◌, take}
use Rattle.std.specs.Prelude.{count_by}
use Rattle.sr_model.specs.Audit.{is_too_deep}
use Rattle.sr_encode.specs.declared.answers.NodeAnswer.{NodeAnswer}
use Rattle.sr_encode.proofs.answers.CaseAnswers.deep_count.Given as goal

-- those so far are counted
abbrev pub invariant-loop-place : goal.invariant-loop-place
invariant-loop-place l = l.count ≡ count_by (λ (e : NodeAnswer). is_too_deep e.answer) (take l.place l.self)
