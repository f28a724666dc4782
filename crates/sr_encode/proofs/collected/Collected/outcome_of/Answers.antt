use Rattle.std.proofs.Common.{◌≡◌, ◌∷◌, [], ◌++◌, length, set, refl, ap, sym, ◌∙◌, subst, arith, Some, None}
use Rattle.std.proofs.lemmas.List.{append-nil, length-append, get_or_default, get_or_push}
use Rattle.std.specs.Vec.{with_item}
use Rattle.sr_encode.specs.declared.collected.Collected.{Collected}
use Rattle.sr_encode.specs.declared.kept.Outcome.{Outcome}
use Rattle.sr_encode.specs.declared.kept.Outcome.TheVariants.{NoPath}
use Rattle.sr_encode.specs.Collected.{IsOutcomeOf}
use Rattle.sr_encode.specs.Kept.{outcome_at}
use Rattle.sr_encode.proofs.CollectLemmas.{gains-nothing, collected-add, outcome-stays}
use Rattle.sr_encode.proofs.collected.Collected.outcome_of.Goals as goal

pub returns-in-Some-clause-gains : goal.returns-in-Some-clause-gains
returns-in-Some-clause-gains c = gains-nothing c.args.self.now c.in-Some.known c.requires.collected (c.requires.collected.each c.args.waypoint c.in-Some.known
    (get_or_default c.args.self.now.known.items c.args.waypoint None c.index.result.now (omega (arith, c.requires.waypoint.0, c.requires.collected.long)) ∙ sym c.index.ensures ∙ c.in-Some.is)).0

pub returns-clause-outcome : goal.returns-clause-outcome
returns-clause-outcome c =
    let last : c.len-last.result ≡ length c.make.new.self.outcomes.items = omega (arith, c.len-last.ensures, c.make.new.self.outcomes.ok.0) in
    let after : Collected = record { queue = c.make.new.self.queue; start = c.make.new.self.start; outcomes = c.push.new.self; segments = c.make.new.self.segments; known = with_item c.make.new.self.known c.args.waypoint (Some c.len-last.result); list = c.make.new.self.list } in
    let at : outcome_at c.push.new.self.items c.len-last.result ≡ c.in_ok-outcome.outcome = ap (λ l. outcome_at l c.len-last.result) c.in_ok-push.ensures.items ∙ get_or_push c.make.new.self.outcomes.items c.in_ok-outcome.outcome NoPath c.len-last.result (sym last) in
    subst (λ (o : Outcome). IsOutcomeOf after c.args.waypoint o) (sym at)
    (outcome-stays c.make.new.self after [] c.args.waypoint c.in_ok-outcome.outcome refl refl (sym (append-nil c.make.new.self.segments.items)) c.in_ok-outcome.ensures.outcome.1 c.in_ok-outcome.ensures.outcome.0)

pub returns-clause-gains : goal.returns-clause-gains
returns-clause-gains c =
    let last : c.len-last.result ≡ length c.args.self.now.outcomes.items = omega (arith, c.len-last.ensures, c.make.new.self.outcomes.ok.0, ap length c.in_ok-outcome.ensures.adds.outcomes) in
    let after : Collected = record { queue = c.make.new.self.queue; start = c.make.new.self.start; outcomes = c.push.new.self; segments = c.make.new.self.segments; known = with_item c.make.new.self.known c.args.waypoint (Some c.len-last.result); list = c.make.new.self.list } in
    let outcomes : c.push.new.self.items ≡ c.args.self.now.outcomes.items ++ c.in_ok-outcome.outcome ∷ [] = c.in_ok-push.ensures.items ∙ ap (λ l. l ++ c.in_ok-outcome.outcome ∷ []) c.in_ok-outcome.ensures.adds.outcomes in
    record {
      collected = collected-add c.args.self.now after c.args.waypoint c.in_ok-outcome.ensures.adds.more c.in_ok-outcome.outcome c.requires.collected
          c.in_ok-outcome.ensures.adds.queue
          c.in_ok-outcome.ensures.adds.start
          c.in_ok-outcome.ensures.adds.segments
          c.in_ok-outcome.ensures.adds.few
          outcomes
          (ap (λ l. set l c.args.waypoint (Some c.len-last.result)) c.in_ok-outcome.ensures.adds.known ∙ ap (λ m. set c.args.self.now.known.items c.args.waypoint (Some m)) last)
          c.requires.waypoint.0
          c.in_ok-outcome.ensures.outcome.1
          (outcome-stays c.make.new.self after [] c.args.waypoint c.in_ok-outcome.outcome refl refl (sym (append-nil c.make.new.self.segments.items)) c.in_ok-outcome.ensures.outcome.1 c.in_ok-outcome.ensures.outcome.0);
      queue = c.in_ok-outcome.ensures.adds.queue;
      start = c.in_ok-outcome.ensures.adds.start;
      more = c.in_ok-outcome.ensures.adds.more;
      segments = c.in_ok-outcome.ensures.adds.segments;
      added = c.in_ok-outcome.outcome ∷ [];
      outcomes = outcomes;
      few = omega arith;
      last = λ more. last;
      within = omega (arith, last, ap length outcomes, length-append c.args.self.now.outcomes.items (c.in_ok-outcome.outcome ∷ []));
    }
