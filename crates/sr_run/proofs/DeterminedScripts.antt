-- A script has one last state, and one output, unless a commit was accepted during a watch.
use Rattle.std.proofs.Common.{◌≡◌, ℕ, ◌+◌, ◌≤◌, Bool, ◌||◌, List, [], ◌∷◌, ◌++◌, length, refl, sym, ap, subst, ◌∙◌, arith}
use Rattle.std.proofs.lemmas.List.Elements.{All-nil}
use Rattle.sr_model.specs.Rule.{IsNet}
use Rattle.sr_engine.specs.Lines.{last_line}
use Rattle.sr_engine.specs.Replies.{Replies}
use Rattle.sr_engine.proofs.Determined.{splits-one}
use Rattle.sr_model.specs.declared.audit.RoundReport.{RoundReport}
use Rattle.sr_model.specs.Label.{Net}
use Rattle.sr_print.specs.Work.{report_lines, joined_line}
use Rattle.sr_run.specs.Domain.{Domain, Background, BegunWatch, WatchTotals, opening_domain, with_commit_during}
use Rattle.sr_run.specs.Domain.Background.{AtRest, OfHold, OfWatch}
use Rattle.sr_run.specs.Background.{EndsWork, watch_from}
use Rattle.sr_run.specs.Session.{Answers, EndsScript}
use Rattle.sr_run.specs.Laws.{AreNets, ScriptsHaveOneOutput}
use Rattle.sr_run.proofs.AcceptedNets.{nets-kept}
use Rattle.sr_run.proofs.StepLemmas.{IsKept, answer-keeps, replies-keep}
use Rattle.sr_run.proofs.VersionLemmas.{last-number}
use Rattle.sr_run.proofs.DeterminedReports.{Unmoved, due-one, still-unmoved, rests-not_watch, holds-not_watch}
use Rattle.sr_run.proofs.DeterminedLines.{lines-determined}

-- no commit was accepted during the watch that runs, or one was during some watch
abbrev pub IsCounted : Domain → Type 0
IsCounted domain = (domain.totals.commits ≡ 0) → Unmoved domain.background domain.nets

counted-commit : (background : Background) (totals : WatchTotals) (net : Net) (nets : List Net) → (with_commit_during background totals).commits ≡ 0 → Unmoved background (net ∷ nets)
counted-commit AtRest totals net nets none watch is = absurd (rests-not_watch watch is)
counted-commit (OfHold version) totals net nets none watch is = absurd (holds-not_watch version watch is)
counted-commit (OfWatch begun) totals net nets none watch is = absurd (omega (arith, none))

counted-kept : IsKept IsCounted
counted-kept = record {
  staged = λ domain edit h. h;
  dropped = λ domain h. h;
  drafted = λ domain draft h. h;
  accepted = λ domain net is h. counted-commit domain.background domain.totals net domain.nets;
  held = λ domain version is h none watch runs. absurd (holds-not_watch version watch runs);
  watched = λ domain version watchers rounds is h none watch runs.
      let same : watch_from watchers rounds version ≡ watch = cc in
      omega (arith, last-number domain.nets version is, ap (λ (w : BegunWatch). w.from) same);
  joined = λ domain h none watch runs. absurd (rests-not_watch watch runs);
  asked = λ domain h. h;
  tried = λ domain net is h. h;
}

-- the commits that were accepted during watches are never fewer
abbrev HasCommits : ℕ → Domain → Type 0
HasCommits least domain = least ≤ domain.totals.commits

more-commits : (least : ℕ) (background : Background) (totals : WatchTotals) → least ≤ totals.commits → least ≤ (with_commit_during background totals).commits
more-commits least AtRest totals h = h
more-commits least (OfHold version) totals h = h
more-commits least (OfWatch watch) totals h = omega (arith, h)

commits-kept : (least : ℕ) → IsKept (HasCommits least)
commits-kept least = record {
  staged = λ domain edit h. h;
  dropped = λ domain h. h;
  drafted = λ domain draft h. h;
  accepted = λ domain net is h. more-commits least domain.background domain.totals h;
  held = λ domain version is h. h;
  watched = λ domain version watchers rounds is h. h;
  joined = λ domain h. h;
  asked = λ domain h. h;
  tried = λ domain net is h. h;
}

-- lines have one answer after the other
pub replies-one : (old : Domain) (number : ℕ) (lines : List (List ℕ)) (out other : List ℕ) (refused again : Bool) (new next : Domain) → AreNets old → IsCounted old
    → Replies Answers old number lines out refused new → Replies Answers old number lines other again next → (refused ≡ again) × (new ≡ next) × (new.totals.commits ≡ 0 → out ≡ other)
replies-one old number [] out other refused again new next nets counted p q = (p.1 ∙ sym q.1, p.2 ∙ sym q.2, λ none. p.0 ∙ sym q.0)
replies-one old number (line ∷ lines) out other refused again new next nets counted p q =
    let here = lines-determined old number line p.1 q.1 p.2 q.2 p.0 q.0 nets p.5 q.5 in
    let kept : AreNets p.0 = answer-keeps AreNets (nets-kept IsNet (λ n net. net)) old number line p.1 p.2 p.0 p.5 nets in
    let more : IsCounted p.0 = answer-keeps IsCounted counted-kept old number line p.1 p.2 p.0 p.5 counted in
    let there : Replies Answers p.0 (number + 1) lines q.3 q.4 next = subst (λ (s : Domain). Replies Answers s (number + 1) lines q.3 q.4 next) (sym here.1) q.6 in
    let later = replies-one p.0 (number + 1) lines p.3 q.3 p.4 q.4 new next kept more p.6 there in (
      p.8 ∙ ap (λ (t : Bool). t || p.4) here.0 ∙ ap (λ (t : Bool). q.2 || t) later.0 ∙ sym q.8,
      later.1,
      λ none.
          let fewer : old.totals.commits ≤ p.0.totals.commits = answer-keeps (HasCommits old.totals.commits) (commits-kept old.totals.commits) old number line p.1 p.2 p.0 p.5 (omega arith) in
          let fewest : p.0.totals.commits ≤ new.totals.commits = replies-keep (HasCommits p.0.totals.commits) (commits-kept p.0.totals.commits) p.0 (number + 1) lines p.3 p.4 new p.6 (omega arith) in
          let first : p.1 ≡ q.1 = here.2 (still-unmoved old line (counted (omega (arith, none, fewer, fewest)))) in
          p.7 ∙ ap (λ (t : List ℕ). t ++ p.3) first ∙ ap (λ (t : List ℕ). q.1 ++ t) (later.2 none) ∙ sym q.7,
    )

-- before the first line there are no nets, and nothing runs
none : AreNets opening_domain
none = All-nil IsNet

counted-first : IsCounted opening_domain
counted-first none watch runs = absurd (rests-not_watch watch runs)

ends-one : (background : Background) (old new next : Domain) (out other : List ℕ) → old.background ≡ background → EndsWork background old out new → EndsWork background old other next → (new ≡ next) × (Unmoved old.background old.nets → out ≡ other)
ends-one AtRest old new next out other is p q = (p.1 ∙ sym q.1, λ still. p.0 ∙ sym q.0)
ends-one (OfHold version) old new next out other is p q =
    (p.1.1 ∙ sym q.1.1, λ still. p.2 ∙ ap (λ (r : List RoundReport). report_lines r ++ joined_line (length r)) (due-one old.background old.nets p.0 q.0 still p.1.0 q.1.0) ∙ sym q.2)
ends-one (OfWatch watch) old new next out other is p q =
    (p.1.1 ∙ sym q.1.1, λ still. p.2 ∙ ap (λ (r : List RoundReport). report_lines r ++ joined_line (length r)) (due-one old.background old.nets p.0 q.0 still p.1.0 q.1.0) ∙ sym q.2)

-- the end keeps the count of commits
end-commits : (background : Background) (old : Domain) (out : List ℕ) (new : Domain) → EndsWork background old out new → new.totals.commits ≡ old.totals.commits
end-commits AtRest old out new e = ap (λ (d : Domain). d.totals.commits) e.1
end-commits (OfHold version) old out new e = ap (λ (d : Domain). d.totals.commits) e.1.1
end-commits (OfWatch watch) old out new e = ap (λ (d : Domain). d.totals.commits) e.1.1

-- a script is refused or not, and has one last state; and it has one output, unless a commit was accepted during a watch
pub scripts-determined : ScriptsHaveOneOutput
scripts-determined bytes out other refused again final last p q =
    let split = splits-one bytes q.lines p.lines q.rest p.rest q.splits p.splits in
    let there : Replies Answers opening_domain 1 (p.lines ++ last_line p.rest) q.said again q.last =
    subst (λ (r : List ℕ). Replies Answers opening_domain 1 (p.lines ++ last_line r) q.said again q.last) split.1
    (subst (λ (ls : List (List ℕ)). Replies Answers opening_domain 1 (ls ++ last_line q.rest) q.said again q.last) split.0 q.replies) in
    let one = replies-one opening_domain 1 (p.lines ++ last_line p.rest) p.said q.said refused again p.last q.last none counted-first p.replies there in
    let more : IsCounted p.last = replies-keep IsCounted counted-kept opening_domain 1 (p.lines ++ last_line p.rest) p.said refused p.last p.replies counted-first in
    let end : EndsScript p.last q.tail last = subst (λ (s : Domain). EndsScript s q.tail last) (sym one.1) q.end in
    let ends = ends-one p.last.background p.last final last p.tail q.tail refl p.end end in (
      one.0,
      ends.0,
      λ still.
          let few : p.last.totals.commits ≡ 0 = sym (end-commits p.last.background p.last p.tail final p.end) ∙ still in
          p.whole ∙ ap (λ (t : List ℕ). t ++ p.tail) (one.2 few) ∙ ap (λ (t : List ℕ). q.said ++ t) (ends.1 (more few)) ∙ sym q.whole,
    )
