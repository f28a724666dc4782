use Rattle.std.proofs.Common.{◌∙◌, ◌∷◌, ◌++◌, All, List, ℕ, append-nil, ap, length, subst, arith}
use Rattle.std.proofs.lemmas.List.Elements.{All-head, All-tail}
use Rattle.crossbeam_queue.specs.Passes.{view, IsPassOf}
use Rattle.sr_loads.specs.Forwarders.{Tally, IsOneOf}
use Rattle.sr_loads.proofs.forwarders.gathered.Goals as goal

pub loop-other-preserved : goal.loop-other-preserved
loop-other-preserved c =
    let was = c.loop-other.invariant in
    let mine = view c.loop-other.all.pass in
    let rest = c.next.new.self.rest.items in
    let IsGood : Tally → Type 0 = λ s. IsPassOf c.args.queue.now s.pass × IsOneOf c.args.mine.traffic s in
    let all : All IsGood (c.in-Some.other ∷ rest) = subst (All IsGood) c.in-Some.ensures.steps.0 was.others in
    let one = All-head IsGood c.in-Some.other rest all in
    let long = ap length c.in-Some.ensures.steps.0 in
    let hand = c.with-all.ensures.hand in
    let parts = ap (λ v. v.parts) hand in
    record {
      of = c.with-all.ensures.of.0;
      traffic = c.with-all.ensures.of.1 ∙ was.traffic;
      parts = omega (arith, parts, one.1.part, was.parts, long);
      some = omega (arith, parts, was.some);
      pushed = ap (λ v. v.pushed) hand ∙ (ap (λ (l : List ℕ). mine.pushed ++ l) one.1.pushed ∙ (append-nil mine.pushed ∙ was.pushed));
      others = All-tail IsGood c.in-Some.other rest all;
    }
