-- The reports of one watcher, and of several watchers one after the other.
use Rattle.std.proofs.Common.{◌≡◌, ℕ, suc, ◌+◌, ◌≤◌, List, [], ◌∷◌, ◌++◌, map, All, length, get_or, Option, Some, refl, sym, ap, ◌∙◌, subst, arith}
use Rattle.std.specs.List.{AllPairs, flat_map, range_with_len}
use Rattle.std.proofs.lemmas.List.{map-append}
use Rattle.std.proofs.lemmas.List.Elements.{All-append, All-cons, All-nil}
use Rattle.std.proofs.lemmas.List.Kept.{AllPairs-cons}
use Rattle.sr_model.specs.declared.audit.WatchRound.{WatchRound}
use Rattle.sr_model.specs.declared.audit.RoundReport.{RoundReport}
use Rattle.sr_repair.specs.Version.{NumberedNet}
use Rattle.sr_work.specs.Reports.{IsReportOfOne, IsNoEarlier, rounds_of, watcher_of, AreReports}
use Rattle.sr_work.proofs.Lists.{pairs-append}

-- this round of this watcher
abbrev pub round_is : ℕ → ℕ → WatchRound
round_is watcher round = record { watcher = watcher; round = round }

-- of which round the report is
abbrev pub round_in : RoundReport → Option WatchRound
round_in report = report.round

-- the report names no version before this
abbrev pub IsAtLeast : ℕ → RoundReport → Type 0
IsAtLeast least report = least ≤ report.version

-- the report is of this watcher
abbrev pub IsOfWatcher : ℕ → RoundReport → Type 0
IsOfWatcher watcher report = watcher_of report ≡ Some watcher

-- the report is of this watcher or a later one
abbrev pub IsFromWatcher : ℕ → RoundReport → Type 0
IsFromWatcher watcher report = (w : ℕ) × (watcher_of report ≡ Some w) × (watcher ≤ w)

-- the reports of one watcher from this round on, none of a version with a lower number than this
pub record OfOne (W : List NumberedNet) (w n least : ℕ) (reports : List RoundReport) : Type 0 where
  pub order : map round_in reports ≡ map Some (map (round_is w) (range_with_len n (length reports)))
  pub each : All (IsReportOfOne W) reports
  pub mine : All (IsOfWatcher w) reports
  pub above : All (IsAtLeast least) reports
  pub rising : AllPairs IsNoEarlier reports

-- the reports of T watchers from this one on
pub record OfMany (W : List NumberedNet) (R w T : ℕ) (reports : List RoundReport) : Type 0 where
  pub order : map round_in reports ≡ map Some (flat_map (rounds_of R) (range_with_len w T))
  pub each : All (IsReportOfOne W) reports
  pub from : All (IsFromWatcher w) reports
  pub rising : AllPairs IsNoEarlier reports

pub one-none : (W : List NumberedNet) (w n least : ℕ) → OfOne W w n least []
one-none W w n least = record {
  order = refl;
  each = All-nil (IsReportOfOne W);
  mine = All-nil (IsOfWatcher w);
  above = All-nil (IsAtLeast least);
  rising = λ i j d lt within. absurd (omega (arith, within));
}

pub one-more : (W : List NumberedNet) (w n least : ℕ) (x : RoundReport) (xs : List RoundReport)
    → x.round ≡ Some (round_is w n) → IsReportOfOne W x → least ≤ x.version → OfOne W w (n + 1) x.version xs → OfOne W w n least (x ∷ xs)
one-more W w n least x xs is one le more =
    record {
      order = ap (λ o. o ∷ map round_in xs) is ∙ ap (λ l. Some (round_is w n) ∷ l) more.order;
      each = All-cons (IsReportOfOne W) x xs one more.each;
      mine = All-cons (IsOfWatcher w) x xs (watcher-is is) more.mine;
      above = All-cons (IsAtLeast least) x xs le (λ k d within. omega (arith, le, more.above k d within));
      rising = AllPairs-cons IsNoEarlier x xs (λ k d within same. more.above k d within) more.rising;
    } where
      watcher-is : x.round ≡ Some (round_is w n) → watcher_of x ≡ Some w
      watcher-is e = ap (λ (o : Option WatchRound). Rattle.std.specs.Option.option_map (λ (made : WatchRound). made.watcher) o) e

pub many-none : (W : List NumberedNet) (R w : ℕ) → OfMany W R w 0 []
many-none W R w = record {
  order = refl;
  each = All-nil (IsReportOfOne W);
  from = All-nil (IsFromWatcher w);
  rising = λ i j d lt within. absurd (omega (arith, within));
}

apart : (x y : RoundReport) (w n : ℕ) → watcher_of x ≡ Some w → watcher_of y ≡ Some n → w + 1 ≤ n → IsNoEarlier x y
apart x y w n p q lt same =
    let here : Some w ≡ Some n = sym p ∙ (same ∙ q) in
    let equal : w ≡ n = cc here in
    absurd (omega (arith, lt, equal))

pub many-more : (W : List NumberedNet) (R w T least : ℕ) (mine later : List RoundReport)
    → length mine ≡ R → OfOne W w 1 least mine → OfMany W R (w + 1) T later → OfMany W R w (suc T) (mine ++ later)
many-more W R w T least mine later count one many =
    let first : map round_in mine ≡ map Some (rounds_of R w) = subst (λ k. map round_in mine ≡ map Some (map (round_is w) (range_with_len 1 k))) count one.order in
    let others = flat_map (rounds_of R) (range_with_len (w + 1) T) in
    record {
      order = map-append round_in mine later ∙ (ap (λ l. l ++ map round_in later) first ∙ (ap (λ l. map Some (rounds_of R w) ++ l) many.order ∙ sym (map-append Some (rounds_of R w) others)));
      each = All-append (IsReportOfOne W) mine later one.each many.each;
      from = All-append (IsFromWatcher w) mine later
          (λ k d within. (w, one.mine k d within, omega arith))
          (λ k d within. let of = many.from k d within in (of.0, of.1, omega (arith, of.2)));
      rising = pairs-append IsNoEarlier mine later one.rising many.rising
          (λ k d within j e inside. let of = many.from j e inside in apart (get_or mine k d) (get_or later j e) w of.0 (one.mine k d within) of.1 of.2);
    }

pub are-reports : (W : List NumberedNet) (T R : ℕ) (reports : List RoundReport) → OfMany W R 1 T reports → AreReports T R W reports
are-reports W T R reports h = record { order = h.order; each = h.each; rising = h.rising }
