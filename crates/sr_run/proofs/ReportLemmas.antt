-- Work whose first version has an audit can be joined.
use Rattle.std.proofs.Common.{◌≡◌, ℕ, List, [], ◌∷◌, ◌++◌, false, length, map, All, slice_get, Some, None, refl, ap, arith}
use Rattle.std.specs.List.{AllPairs}
use Rattle.std.proofs.lemmas.List.Elements.{All-nil, All-cons}
use Rattle.std.proofs.lemmas.List.Kept.{AllPairs-cons}
use Rattle.std.specs.declared.option.Option.{Option}
use Rattle.sr_model.specs.declared.audit.WatchRound.{WatchRound}
use Rattle.sr_model.specs.declared.audit.RoundReport.{RoundReport}
use Rattle.sr_repair.specs.Version.{NumberedNet}
use Rattle.sr_print.specs.Work.{report_lines, joined_line}
use Rattle.sr_work.specs.Reports.{IsReportOf, IsReportOfOne, IsNoEarlier, AreReports, all_rounds}
use Rattle.sr_work.specs.Works.{AreReportsOf, usage_joined}
use Rattle.sr_work.specs.declared.work.Work.{Work}
use Rattle.sr_work.specs.declared.work.Work.TheVariants.{Idle, Holds, Watches}
use Rattle.sr_engine.specs.Replies.{HasSome, AtEnd}
use Rattle.sr_run.specs.State.{Session, CanReport, HasAudit, is_running}
use Rattle.sr_run.specs.Handlers.{SessionEnds}
use Rattle.sr_run.proofs.SessionLemmas.{session, joined, ends-joined, ends-resting}

module _ (version : NumberedNet) (audit : HasAudit version) where
  -- the report of a round on this version
  abbrev report_at : Option WatchRound → RoundReport
  report_at round = record { round = round; version = version.number; counts = audit.0 }

  is-report : (round : Option WatchRound) → IsReportOf version (report_at round)
  is-report round = record { number = refl; counts = audit.1 }

  abbrev report_of_round : WatchRound → RoundReport
  report_of_round made = report_at (Some made)

  rounds-reported : (rounds : List WatchRound) → map (λ (report : RoundReport). report.round) (map report_of_round rounds) ≡ map Some rounds
  rounds-reported [] = refl
  rounds-reported (made ∷ rounds) = ap (λ (l : List (Option WatchRound)). Some made ∷ l) (rounds-reported rounds)

  each-reported : (versions : List NumberedNet) → slice_get versions 0 ≡ Some version → (rounds : List WatchRound) → All (IsReportOfOne versions) (map report_of_round rounds)
  each-reported versions first [] = All-nil (IsReportOfOne versions)
  each-reported versions first (made ∷ rounds) =
      All-cons (IsReportOfOne versions) (report_of_round made) (map report_of_round rounds) (0, version, first, is-report (Some made)) (each-reported versions first rounds)

  no-earlier : (made : WatchRound) (rounds : List WatchRound) → All (IsNoEarlier (report_of_round made)) (map report_of_round rounds)
  no-earlier made [] = All-nil (IsNoEarlier (report_of_round made))
  no-earlier made (other ∷ rounds) =
      All-cons (IsNoEarlier (report_of_round made)) (report_of_round other) (map report_of_round rounds) (λ same. omega arith) (no-earlier made rounds)

  none-earlier : (rounds : List WatchRound) → AllPairs IsNoEarlier (map report_of_round rounds)
  none-earlier [] = λ i j d before within. absurd (omega (arith, within))
  none-earlier (made ∷ rounds) = AllPairs-cons IsNoEarlier (report_of_round made) (map report_of_round rounds) (no-earlier made rounds) (none-earlier rounds)

  watch-reported : (watchers rounds : ℕ) (versions : List NumberedNet) → slice_get versions 0 ≡ Some version → AreReports watchers rounds versions (map report_of_round (all_rounds watchers rounds))
  watch-reported watchers rounds versions first = record {
    order = rounds-reported (all_rounds watchers rounds);
    each = each-reported versions first (all_rounds watchers rounds);
    rising = none-earlier (all_rounds watchers rounds);
  }

  hold-reported : AreReportsOf (Holds version) (report_at None ∷ [])
  hold-reported = (report_at None, refl, record { round = refl; is = is-report None })

-- there are reports
reported : (work : Work) → CanReport work → (reports : List RoundReport) × AreReportsOf work reports
reported Idle can = ([], refl)
reported (Holds version) can = (report_at version can None ∷ [], hold-reported version can)
reported (Watches watched) can = (map (report_of_round can.0 can.2) (all_rounds watched.watchers watched.rounds), watch-reported can.0 can.2 watched.watchers watched.rounds watched.versions can.1)

end-there : (work : Work) (old : Session) → old.work ≡ work → CanReport old.work → (tail : List ℕ) × HasSome (AtEnd SessionEnds old) tail
end-there Idle old is can = ([], record { refused = false; new = old; is = (refl, ends-resting old can (ap is_running is)) })
end-there (Holds version) old is can =
    let there = reported old.work can in
    let usage = usage_joined old.work old.usage in
    (report_lines there.0 ++ joined_line (length there.0), record { refused = false; new = session old.state Idle usage old.searches; is = (refl, ends-joined old (session old.state Idle usage old.searches) there.0 (ap is_running is) (joined old there.0 usage there.1 refl)) })
end-there (Watches watched) old is can =
    let there = reported old.work can in
    let usage = usage_joined old.work old.usage in
    (report_lines there.0 ++ joined_line (length there.0), record { refused = false; new = session old.state Idle usage old.searches; is = (refl, ends-joined old (session old.state Idle usage old.searches) there.0 (ap is_running is) (joined old there.0 usage there.1 refl)) })

-- from each state of a session the end of a script has an answer
pub end-has_answer : (old : Session) → CanReport old.work → (tail : List ℕ) × HasSome (AtEnd SessionEnds old) tail
end-has_answer old can = end-there old.work old refl can
