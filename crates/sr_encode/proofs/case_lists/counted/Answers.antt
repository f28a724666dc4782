use Rattle.std.proofs.Common.{◌≤◌, ℕ, List, [], Bool, count_by, length, take, arith, ap}
use Rattle.std.proofs.lemmas.List.{length-map, length-take}
use Rattle.std.proofs.lemmas.List.Sums.{count_by-le-length}
use Rattle.sr_model.specs.declared.audit.Counts.{Counts}
use Rattle.sr_model.specs.declared.repair.Answer.{Answer}
use Rattle.sr_model.specs.Audit.{is_least, is_no_path, is_no_list}
use Rattle.sr_encode.specs.declared.answers.NodeAnswer.{NodeAnswer}
use Rattle.sr_encode.specs.declared.kept.Outcome.{Outcome}
use Rattle.sr_encode.specs.declared.kept.Kept.{Kept}
use Rattle.sr_encode.specs.Kept.{entries, entry_from}
use Rattle.sr_encode.proofs.case_lists.counted.Goals as goal

-- no more answers are counted than there are so far
few : (outcomes : List Outcome) (list : List Kept) (i : ℕ) (test : Answer → Bool) → count_by (λ (e : NodeAnswer). test e.answer) (entries [] outcomes (take i list) 0) ≤ length list
few outcomes list i test = omega (arith, count_by-le-length (λ (e : NodeAnswer). test e.answer) (entries [] outcomes (take i list) 0), length-map (take i list) (entry_from 0 [] outcomes), length-take i list)

pub overflow_add-counts : goal.overflow_add-counts
overflow_add-counts c =
    let most : c.loop-kept.counts.covered ≤ length c.args.list.now = omega (arith, ap (λ (k : Counts). k.covered) (c.loop-kept.invariant [] 0), few c.args.outcomes.now c.args.list.now c.loop-kept.kept-index is_least) in
    omega (arith, most, c.requires.few)

pub overflow_add-counts-in-NoPath : goal.overflow_add-counts-in-NoPath
overflow_add-counts-in-NoPath c =
    let most : c.loop-kept.counts.nopath ≤ length c.args.list.now = omega (arith, ap (λ (k : Counts). k.nopath) (c.loop-kept.invariant [] 0), few c.args.outcomes.now c.args.list.now c.loop-kept.kept-index is_no_path) in
    omega (arith, most, c.requires.few)

pub overflow_add-counts-in-NoList : goal.overflow_add-counts-in-NoList
overflow_add-counts-in-NoList c =
    let most : c.loop-kept.counts.nolist ≤ length c.args.list.now = omega (arith, ap (λ (k : Counts). k.nolist) (c.loop-kept.invariant [] 0), few c.args.outcomes.now c.args.list.now c.loop-kept.kept-index is_no_list) in
    omega (arith, most, c.requires.few)
