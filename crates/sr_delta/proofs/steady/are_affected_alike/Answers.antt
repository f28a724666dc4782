use Rattle.std.proofs.Common.{◌≡◌, ◌↔◌, ℕ, IsTrue, false, sym, ◌∙◌}
use Rattle.std.specs.Prelude.{◌||◌}
use Rattle.sr_model.specs.declared.case.Case.{Case}
use Rattle.sr_model.specs.Case.{IsAffected}
use Rattle.sr_model.specs.Label.{Net}
use Rattle.sr_model.specs.Stay.{case_with}
use Rattle.sr_lanes.specs.Bits.{is_in}
use Rattle.sr_delta.proofs.SteadyLemmas.{each-there, none-missing, or_from, or_parts}
use Rattle.sr_delta.proofs.steady.are_affected_alike.Goals as goal

pub returns : goal.returns
returns c =
    let n : Net = c.args.old.now.net in
    let case : Case = c.args.old.now.case in
    let before = c.affected_set-before.result in
    let after = c.affected_set-after.result in
    let old : (v : ℕ) → IsTrue (is_in before v) ↔ IsAffected n case v = rw (c.net.ensures.net, c.case-case.ensures.case) at c.affected_set-before.ensures in
    let new : (v : ℕ) → IsTrue (is_in after v) ↔ IsAffected c.args.new.now (case_with case c.args.link) v = rw c.case-case.ensures.case at c.affected_set-after.ensures in
    let both : (d : ℕ) → is_in c.or.result d ≡ (is_in c.and_not-lost.result d || is_in c.and_not-gained.result d) = c.or.ensures in (
      λ yes' d.
          let none : (is_in c.and_not-lost.result d || is_in c.and_not-gained.result d) ≡ false = sym (both d) ∙ c.is_empty.ensures.0 yes' d in (
            λ a. (new d).0 (each-there before after c.and_not-lost.result d (c.and_not-lost.ensures d) (or_parts (is_in c.and_not-lost.result d) (is_in c.and_not-gained.result d) none).0 ((old d).1 a)),
            λ a. (old d).0 (each-there after before c.and_not-gained.result d (c.and_not-gained.ensures d) (or_parts (is_in c.and_not-lost.result d) (is_in c.and_not-gained.result d) none).1 ((new d).1 a)),
          ),
      λ alike. c.is_empty.ensures.1 (λ d.
          both d ∙ or_from (is_in c.and_not-lost.result d) (is_in c.and_not-gained.result d)
          (none-missing before after c.and_not-lost.result d (c.and_not-lost.ensures d) (λ there. (new d).1 ((alike d).0 ((old d).0 there))))
          (none-missing after before c.and_not-gained.result d (c.and_not-gained.ensures d) (λ there. (old d).1 ((alike d).1 ((new d).0 there))))),
    )
