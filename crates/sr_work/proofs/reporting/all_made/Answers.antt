use Rattle.std.proofs.Common.{◌≡◌, ◌++◌, ◌∷◌, [], map, ap, ◌∙◌, append_assoc}
use Rattle.sr_work.specs.Reported.{report_made}
use Rattle.sr_work.proofs.reporting.all_made.Goals as goal

pub loop-made-preserved : goal.loop-made-preserved
loop-made-preserved c =
    let rest = c.next.new.self.rest.items in
    let f = report_made c.args.ended.now c.args.first c.args.anew in
    let reports = c.loop-made.reports.items in
    let one = f c.in-Some.made in
    let next : c.loop-made.made-iterator.rest.items ≡ c.in-Some.made ∷ rest = c.in-Some.ensures.steps.0 in
    let put : c.push.new.self.items ≡ reports ++ one ∷ [] = rw (← c.report_made.ensures) c.in_ok-push.ensures.items in
    let all : reports ++ map f (c.in-Some.made ∷ rest) ≡ map f c.args.rounds.items = rw next at c.loop-made.invariant in
    ap (λ l. l ++ map f rest) put ∙ (append_assoc reports (one ∷ []) (map f rest) ∙ all)
