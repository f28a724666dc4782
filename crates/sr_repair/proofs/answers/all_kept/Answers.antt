use Rattle.std.proofs.Common.{◌≡◌, ◌+◌, ◌∷◌, ◌++◌, [], map, arith, ap}
use Rattle.sr_repair.specs.Answers.{kept_of, pass_searches, searches_of}
use Rattle.sr_repair.proofs.KeptLemmas.{kept-more}
use Rattle.sr_repair.proofs.answers.all_kept.Goals as goal

pub loop-one-preserved : goal.loop-one-preserved
loop-one-preserved g c =
    let rest = c.next.new.self.rest.items in
    let found = c.loop-one.found.items in
    let one = c.in-Some.one in
    let next : c.loop-one.one-iterator.rest.items ≡ one ∷ rest = c.in-Some.ensures.steps.0 in
    let put : c.push.new.self.items ≡ found ++ kept_of one ∷ [] = rw (← c.kept.ensures.found) c.in_ok-push.ensures.items in
    let all : found ++ map kept_of (one ∷ rest) ≡ map kept_of c.args.passed.items = rw next at c.loop-one.invariant.0 in
    let count : pass_searches c.loop-one.one-iterator.rest.items ≡ searches_of one + pass_searches rest = ap pass_searches next in (
      kept-more c.args.passed.items rest one found c.push.new.self.items all put,
      omega (arith, count, c.kept.ensures.steps, c.loop-one.invariant.1),
      omega (arith, c.kept.ensures.steps, c.loop-one.invariant.2),
    )
