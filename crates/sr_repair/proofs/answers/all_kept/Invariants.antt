use Rattle.std.proofs.Common.{◌≡◌, ◌+◌, ◌≤◌, ◌++◌, map}
use Rattle.sr_repair.specs.Answers.{kept_of, pass_searches}
use Rattle.sr_repair.proofs.answers.all_kept.Given as goal

-- the answers kept so far, and those of the passes to come, are those of all; likewise the searches, which never become fewer
abbrev pub invariant-loop-one : goal.invariant-loop-one
invariant-loop-one g l =
    (l.found.items ++ map kept_of l.one-iterator.rest.items ≡ map kept_of l.fn.passed.items)
    × (l.steps + pass_searches l.one-iterator.rest.items ≡ l.fn.steps + pass_searches l.fn.passed.items)
    × (l.fn.steps ≤ l.steps)
