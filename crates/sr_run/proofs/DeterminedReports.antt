-- Background work has one list of reports, unless a commit was accepted during a watch.
use Rattle.std.proofs.Common.{◌≡◌, ℕ, ◌<◌, ◌≤◌, List, [], ◌∷◌, length, map, All, slice_get, Some, refl, sym, ap, subst, ◌∙◌, arith, ⊎_elim}
use Rattle.std.proofs.lemmas.List.Elements.{All-head, All-tail}
use Rattle.std.proofs.lemmas.Option.{slice_get_within}
use Rattle.std.proofs.lemmas.Bool.{cases_lt}
use Rattle.std.specs.declared.option.Option.{Option}
use Rattle.sr_model.specs.declared.audit.Counts.{Counts}
use Rattle.sr_model.specs.declared.audit.WatchRound.{WatchRound}
use Rattle.sr_model.specs.declared.audit.RoundReport.{RoundReport}
use Rattle.sr_model.specs.Audit.{counts_of}
use Rattle.sr_model.specs.Label.{Net}
use Rattle.sr_laws.proofs.Audits.{audit-one}
use Rattle.sr_audit.specs.Counted.{AreAuditCounts}
use Rattle.sr_repair.specs.Version.{NumberedNet}
use Rattle.sr_work.specs.Reports.{IsReportOf, IsReportOfOne}
use Rattle.sr_script.specs.declared.command.Command.TheVariants.{Join}
use Rattle.sr_script.specs.declared.line.Line.TheVariants.{Word}
use Rattle.sr_script.specs.LineSays.{LineSays}
use Rattle.sr_run.specs.Domain.{Domain, Background, BegunWatch, versions_since}
use Rattle.sr_run.specs.Domain.Background.{AtRest, OfHold, OfWatch}
use Rattle.sr_run.specs.Background.{AreDue}
use Rattle.sr_run.specs.Laws.{JoinsMoved}
use Rattle.sr_run.proofs.VersionLemmas.{since-few}

-- a net has one audit, with one list of counts
counts-one : (net : Net) (c d : Counts) → AreAuditCounts net c → AreAuditCounts net d → c ≡ d
counts-one net c d p q = p.counted ∙ ap counts_of (audit-one net p.items q.items p.audit q.audit) ∙ sym q.counted

report-same : (x y : RoundReport) → x.round ≡ y.round → x.version ≡ y.version → x.counts ≡ y.counts → x ≡ y
report-same x y p q r =
    let same : (let a : RoundReport = record { round = x.round; version = x.version; counts = x.counts } in a) ≡ record { round = y.round; version = y.version; counts = y.counts } = cc (p, q, r) in
    same

-- two reports of a round on a version
report-one : (version : NumberedNet) (x y : RoundReport) → x.round ≡ y.round → IsReportOf version x → IsReportOf version y → x ≡ y
report-one version x y same p q = report-same x y same (p.number ∙ sym q.number) (counts-one version.net x.counts y.counts p.counts q.counts)

-- of at most one version each place names the same
get-one : (versions : List NumberedNet) (j k : ℕ) (a b : NumberedNet) → length versions ≤ 1 → slice_get versions j ≡ Some a → slice_get versions k ≡ Some b → a ≡ b
get-one versions j k a b few p q =
    let first : j ≡ k = omega (arith, few, slice_get_within versions j a p, slice_get_within versions k b q) in
    let same : Some a ≡ Some b = sym (subst (λ (i : ℕ). slice_get versions i ≡ Some a) first p) ∙ q in
    cc

one-of-few : (versions : List NumberedNet) (x y : RoundReport) → length versions ≤ 1 → x.round ≡ y.round → IsReportOfOne versions x → IsReportOfOne versions y → x ≡ y
one-of-few versions x y few same p q =
    report-one q.1 x y same (subst (λ (v : NumberedNet). IsReportOf v x) (get-one versions p.0 q.0 p.1 q.1 few p.2 q.2) p.3) q.3

abbrev round_in : RoundReport → Option WatchRound
round_in report = report.round

all-of-few : (versions : List NumberedNet) (xs ys : List RoundReport) → length versions ≤ 1 → map round_in xs ≡ map round_in ys → All (IsReportOfOne versions) xs → All (IsReportOfOne versions) ys → xs ≡ ys
all-of-few versions [] [] few same p q = refl
all-of-few versions [] (y ∷ ys) few same p q = cc
all-of-few versions (x ∷ xs) [] few same p q = cc
all-of-few versions (x ∷ xs) (y ∷ ys) few same p q =
    let here : x.round ≡ y.round = cc in
    let there : map round_in xs ≡ map round_in ys = cc in
    let one = one-of-few versions x y few here (All-head (IsReportOfOne versions) x xs p) (All-head (IsReportOfOne versions) y ys q) in
    let rest = all-of-few versions xs ys few there (All-tail (IsReportOfOne versions) x xs p) (All-tail (IsReportOfOne versions) y ys q) in
    ap (λ (z : RoundReport). z ∷ xs) one ∙ ap (λ (zs : List RoundReport). y ∷ zs) rest

-- no commit was accepted during a watch
abbrev pub Unmoved : Background → List Net → Type 0
Unmoved background nets = (watch : BegunWatch) → background ≡ OfWatch watch → length nets ≤ watch.from

-- what runs then has one list of reports
pub due-one : (background : Background) (nets : List Net) (xs ys : List RoundReport) → Unmoved background nets → AreDue background nets xs → AreDue background nets ys → xs ≡ ys
due-one AtRest nets xs ys still p q = p ∙ sym q
due-one (OfHold version) nets xs ys still p q =
    p.1 ∙ ap (λ (z : RoundReport). z ∷ []) (report-one version p.0 q.0 (p.2.round ∙ sym q.2.round) p.2.is q.2.is) ∙ sym q.1
due-one (OfWatch watch) nets xs ys still p q =
    all-of-few (versions_since watch.from nets) xs ys (since-few watch.from nets (still watch refl)) (p.order ∙ sym q.order) p.each q.each

-- a line that joins, but no such watch
pub joins-unmoved : (old : Domain) (line : List ℕ) → LineSays line (Word Join) → ¬ JoinsMoved old line → Unmoved old.background old.nets
joins-unmoved old line joins not watch runs =
    ⊎_elim {A = watch.from < length old.nets} {B = length old.nets ≤ watch.from} (λ moved. absurd (not (record { watch = watch; runs = runs; moved = moved; joins = joins }))) (λ late. late) (cases_lt watch.from (length old.nets))

-- such a line doesn't stand where no commit was accepted during the watch that runs
pub still-unmoved : (old : Domain) (line : List ℕ) → Unmoved old.background old.nets → ¬ JoinsMoved old line
still-unmoved old line still moved = omega (arith, still moved.watch moved.runs, moved.moved)

pub rests-not_watch : (watch : BegunWatch) → AtRest ≡ OfWatch watch → ⊥
rests-not_watch watch is = cc

pub holds-not_watch : (version : NumberedNet) (watch : BegunWatch) → OfHold version ≡ OfWatch watch → ⊥
holds-not_watch version watch is = cc
