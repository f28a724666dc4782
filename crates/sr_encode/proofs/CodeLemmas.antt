-- Answers of one code are the same without their costs.
use Rattle.std.proofs.Common.{◌≡◌, ℕ, ◌<◌, List, length, get_or, slice_index, refl, arith, ap, sym, ◌∙◌}
use Rattle.std.proofs.lemmas.List.{length-map, get_or-map}
use Rattle.sr_model.specs.declared.repair.Segment.{Segment}
use Rattle.sr_encode.specs.declared.answers.NodeAnswer.{NodeAnswer}
use Rattle.sr_encode.specs.declared.kept.Kept.{Kept}
use Rattle.sr_encode.specs.declared.kept.Outcome.{Outcome}
use Rattle.sr_encode.specs.declared.kept.Outcome.TheVariants.{Least, NoPath, NoList}
use Rattle.sr_encode.specs.Answered.{answer_at}
use Rattle.sr_encode.specs.Codes.{AreCodes, codes_of, without_cost}
use Rattle.sr_encode.specs.Kept.{answer_from, entry_from, entries, no_kept, outcome_at, AreKeptWithin}
use Rattle.sr_encode.proofs.AnswerLemmas.{kept-at}

-- without its cost an answer is that of its outcome at cost 0
from-outcome : (start : ℕ) (segments : List Segment) (o : Outcome) (cost : ℕ) → without_cost (answer_from start segments o cost) ≡ answer_from start segments o 0
from-outcome start segments NoPath cost = refl
from-outcome start segments NoList cost = refl
from-outcome start segments (Least place begin end) cost = refl

module _ (start : ℕ) (segments : List Segment) (outcomes : List Outcome) (kept : List Kept) where
  is-code : (i : ℕ) → i < length kept → slice_index (codes_of kept) i ≡ (get_or kept i no_kept).outcome
  is-code i lt = get_or-map (λ (k : Kept). k.outcome) kept i no_kept 0 lt

  from-code : (i : ℕ) → i < length kept → without_cost (answer_at (entries segments outcomes kept start) i) ≡ answer_from start segments (outcome_at outcomes (slice_index (codes_of kept) i)) 0
  from-code i lt =
      let k : Kept = get_or kept i no_kept in
      ap (λ (e : NodeAnswer). without_cost e.answer) (kept-at start segments outcomes kept i lt)
      ∙ from-outcome start segments (outcome_at outcomes k.outcome) k.cost
      ∙ ap (λ r. answer_from start segments (outcome_at outcomes r) 0) (sym (is-code i lt))

  pub codes-are : AreKeptWithin segments outcomes kept → AreCodes (entries segments outcomes kept start) (codes_of kept)
  codes-are within =
      let long : length (entries segments outcomes kept start) ≡ length kept = length-map kept (entry_from start segments outcomes) in
      record {
        long = length-map kept (λ (k : Kept). k.outcome) ∙ sym long;
        few = λ i lt. omega (arith, long, lt, is-code i (omega (arith, long, lt)), within.each i no_kept (omega (arith, long, lt)), within.few);
        same = λ i j li lj eq.
            from-code i (omega (arith, long, li))
            ∙ ap (λ r. answer_from start segments (outcome_at outcomes r) 0) eq
            ∙ sym (from-code j (omega (arith, long, lj)));
      }
