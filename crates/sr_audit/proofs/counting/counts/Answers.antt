use Rattle.std.proofs.Common.{◌≡◌, ℕ, ap, ◌∙◌, subst, arith}
use Rattle.sr_repair.specs.Answers.{case_count}
use Rattle.sr_audit.proofs.CountLemmas.{AreFirstCounts, counts-more, counts-all}
use Rattle.sr_audit.proofs.counting.counts.Goals as goal

pub loop-place-preserved : goal.loop-place-preserved
loop-place-preserved c =
    rw c.counts_sum-so_far.ensures
    (counts-more c.args.version.now.net c.loop-place.place c.loop-place.so_far c.counts_at.result c.loop-place.invariant c.counts_at.ensures)

pub returns : goal.returns
returns c =
    let net = c.args.version.now.net in
    let count : c.case_count-count.result ≡ case_count net.graph = c.case_count-count.ensures.count ∙ ap case_count (c.graph.ensures.value ∙ ap (λ n. n.graph) c.net.ensures.value) in
    let all : c.loop-place.place ≡ case_count net.graph = omega (arith, count, c.loop-place-test.false, c.loop-place.auto.place-end) in
    let P : ℕ → Type 0 = λ m. AreFirstCounts net m c.loop-place.so_far in
    counts-all net c.loop-place.so_far (subst P all c.loop-place.invariant)
