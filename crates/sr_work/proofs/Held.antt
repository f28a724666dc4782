-- The one round of a hold.
use Rattle.std.proofs.Common.{◌≡◌, ℕ, List, [], ◌∷◌, ◌++◌, length, get_or, None, refl, sym, ap, ◌∙◌, subst, arith}
use Rattle.std.proofs.lemmas.List.{append-nil}
use Rattle.sr_model.specs.declared.audit.Counts.{Counts}
use Rattle.sr_repair.specs.Version.{NumberedNet}
use Rattle.sr_audit.specs.Counted.{AreAuditCounts}
use Rattle.sr_store.specs.declared.reader.Reader.{Reader}
use Rattle.sr_watch.specs.declared.inspect.Round.{Round}
use Rattle.sr_watch.specs.declared.task.Task.{Task}
use Rattle.sr_watch.specs.Rounds.{Repeats}
use Rattle.sr_watch.specs.Starts.{Plans}
use Rattle.sr_watch.specs.Joins.{SeatedRounds, ApartRounds, AllRounds}
use Rattle.sr_work.specs.declared.counting.Counting.{Counting}
use Rattle.sr_work.specs.Started.{HoldsVersion}
use Rattle.sr_work.specs.Reports.{IsHoldReport}
use Rattle.sr_work.specs.Reported.{report_of}
use Rattle.sr_work.proofs.Made.{counting}

none-seated : (back : List (Reader NumberedNet)) (rounds : List (Round Counts)) → SeatedRounds counting [] back rounds → rounds ≡ []
none-seated [] rounds h = h
none-seated (b ∷ bs) rounds h = absurd h

-- one round, which shows this version
pub record IsOneRound (v : NumberedNet) (rounds : List (Round Counts)) : Type 0 where
  pub round : Round Counts
  pub is : rounds ≡ round ∷ []
  pub number : round.number ≡ v.number
  pub counts : AreAuditCounts v.net round.out

one-round : (task : Task Counting) (n : ℕ) (v : NumberedNet) (rounds : List (Round Counts)) → length rounds ≡ 1 → Repeats counting task n v rounds → IsOneRound v rounds
one-round task n v [] count h = absurd (omega (arith, count))
one-round task n v (r ∷ []) count h = record { round = r; is = refl; number = h.0.2; counts = h.0.3 }
one-round task n v (r ∷ q ∷ rs) count h = absurd (omega (arith, count))

pub held-round : (plans : Plans NumberedNet Counting) (v : NumberedNet) (back : List (Reader NumberedNet)) (rounds : List (Round Counts))
    → HoldsVersion plans v → AllRounds counting plans back rounds → IsOneRound v rounds
held-round plans v back rounds held made =
    let h = held.holds in
    let p = h.plan in
    let none = none-seated back made.first (subst (λ ps. SeatedRounds counting ps back made.first) h.none made.seated) in
    let one : ApartRounds counting (p ∷ []) made.last = subst (λ ps. ApartRounds counting ps made.last) h.one made.apart in
    let saw = one.2 in
    let count : length one.0 ≡ 1 = saw.count_is ∙ ap (λ (t : Task Counting). t.rounds) h.is.0 in
    let all : Repeats counting p.task p.task.first v one.0 = subst (λ (x : NumberedNet). Repeats counting p.task p.task.first x one.0) h.is.1 saw.all in
    let whole : rounds ≡ one.0 = made.whole ∙ (ap (λ w. w ++ made.last) none ∙ (one.4 ∙ (ap (λ w. one.0 ++ w) one.3 ∙ append-nil one.0))) in
    subst (λ rs. IsOneRound v rs) (sym whole) (one-round p.task p.task.first v one.0 count all)

-- its report
pub held-report : (v : NumberedNet) (rounds : List (Round Counts)) (a b : Round Counts) → IsOneRound v rounds
    → a ≡ get_or rounds 0 b → IsHoldReport v (report_of None a.number a.out)
held-report v rounds a b one is =
    let same : a ≡ one.round = is ∙ ap (λ rs. get_or rs 0 b) one.is in
    record {
      round = refl;
      is = record {
        number = ap (λ (r : Round Counts). r.number) same ∙ one.number;
        counts = subst (λ (r : Round Counts). AreAuditCounts v.net r.out) (sym same) one.counts;
      };
    }
