use Rattle.std.proofs.Common.{◌≡◌, ap, subst, List, ◌∷◌, codes, map, string_bytes, length, arith, String, ◌∙◌, rules}
use Rattle.std.specs.declared.alloc.Global.{Global}
use Rattle.clap.specs.Walk.{Text}
use Rattle.sr_words.specs.Making.{AreNumbersOf}
use Rattle.sr_words.specs.Tasks.{AskFor, BeginWithMake}
use Rattle.sr_words.proofs.TaskLemmas.{asks-for-none, error-has}
use Rattle.sr_words.proofs.task.task_of.Goals as goal

-- the bytes of each word
abbrev texts : List (String Global) → List Text
texts words = map (λ word. string_bytes word) words

pub returns-in_err-nodes-clause-refused : goal.returns-in_err-nodes-clause-refused
returns-in_err-nodes-clause-refused c =
    let make : string_bytes c.in-Some.first.now ≡ codes "make" = search rules in
    let begin : BeginWithMake c.args.words.now = (texts c.in-Some.rest.now, ap texts c.in-Some.ensures.cases.0 ∙ ap (λ (t : Text). t ∷ texts c.in-Some.rest.now) make) in
    error-has c.from_residual.result (BeginWithMake c.args.words.now) begin

pub returns-in-None-clause-task : goal.returns-in-None-clause-task
returns-in-None-clause-task c = λ task asked.
    let are = ap texts c.in-Some.ensures.cases.0 in
    let make : string_bytes c.in-Some.first.now ≡ codes "make" = search rules in
    asks-for-none (string_bytes c.in-Some.first.now) (texts c.in-Some.rest.now) (omega (arith, ap length make)) (subst (AreNumbersOf (texts c.in-Some.rest.now)) c.in-None.is c.in_ok-nodes.ensures) task (subst (λ (ws : List Text). AskFor ws task) are asked)
