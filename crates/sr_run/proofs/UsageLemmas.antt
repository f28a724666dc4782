-- At the end of a script the usage shows what its watches took.
use Rattle.std.proofs.Common.{◌≡◌, ℕ, ◌+◌, ◌*◌, ◌^◌, ◌<◌, ◌≤◌, Bool, true, false, List, [], ◌∷◌, ◌++◌, length, length-append, Option, Some, None, refl, sym, ap, subst, ◌∙◌, inl, inr, arith}
use Rattle.std.proofs.Math.Nat.{mul-le-mul_right}
use Rattle.std.specs.List.{flat_map}
use Rattle.sr_model.specs.Label.{Net}
use Rattle.sr_repair.specs.Version.{NumberedNet}
use Rattle.sr_script.specs.declared.command.Command.{Command}
use Rattle.sr_script.specs.declared.command.Command.TheVariants.{Commit, Prove, Hold, Watch, Join, Why}
use Rattle.sr_print.specs.Told.{Told, is_refusal}
use Rattle.sr_print.specs.Told.Told.{Hold as HoldTold, Watch as WatchTold}
use Rattle.sr_store.specs.declared.usage.Usage.{Usage}
use Rattle.sr_work.specs.declared.work.Work.{Work}
use Rattle.sr_work.specs.declared.work.Work.TheVariants.{Idle, Holds, Watches}
use Rattle.sr_engine.specs.Lines.{Splits, with_feed, last_line, most_bytes}
use Rattle.sr_engine.specs.Replies.{Replies, Script}
use Rattle.sr_run.specs.Domain.{Domain, Background, WatchTotals, opening_domain, no_watches, last_version, with_hold, with_watch, with_commit_during}
use Rattle.sr_run.specs.Domain.Background.{AtRest, OfHold, OfWatch}
use Rattle.sr_run.specs.Background.{BeginsWork, EndsWork, watch_from}
use Rattle.sr_run.specs.Edits.{Refuses, Commits}
use Rattle.sr_run.specs.Usage.{Lent, ServesWatches, unused}
use Rattle.sr_run.specs.Tries.{Tries}
use Rattle.sr_run.specs.Session.{Answers, Tells, TellsLine, conduct, after_question}
use Rattle.sr_run.specs.State.{Session, IsShown, IsWorkOf, ShowsWatches, session_before}
use Rattle.sr_run.specs.Handlers.{IsAsked}
use Rattle.sr_run.proofs.StepLemmas.{quiet-stays}
use Rattle.sr_run.proofs.LineLemmas.{said-well}

-- before the first line
none-shown : ShowsWatches no_watches Idle unused
none-shown = record { places = omega arith; published = omega arith; given = 0; given_is = omega arith; few = omega arith; turns = 0; turns_are = omega arith; enough = omega arith }

pub shown-first : (lent : Lent) → IsShown lent (session_before lent.usage lent.searches) opening_domain
shown-first lent = record {
  state = refl;
  work = tt;
  usage = λ fresh. subst (ShowsWatches no_watches Idle) (sym fresh) none-shown;
  searches = record { commits = 0; within = refl; tries = 0; tried = refl; most = omega arith };
}

-- ---- how far the totals go

-- the three totals together
abbrev sums : Domain → ℕ
sums domain = domain.totals.places + (domain.totals.rounds + domain.totals.commits)

sums-same : (old new : Domain) → new.totals ≡ old.totals → sums new ≤ sums old + 200
sums-same old new same = subst (λ (t : WatchTotals). t.places + (t.rounds + t.commits) ≤ sums old + 200) (sym same) (omega arith)

sums-none : (old new : Domain) → new ≡ old → sums new ≤ sums old + 0
sums-none old new same = subst (λ (d : Domain). sums d ≤ sums old + 0) (sym same) (omega arith)

sums-commit : (background : Background) (totals : WatchTotals) (old : Domain) → totals ≡ old.totals
    → (with_commit_during background totals).places + ((with_commit_during background totals).rounds + (with_commit_during background totals).commits) ≤ sums old + 200
sums-commit AtRest totals old is = rw is (omega arith)
sums-commit (OfHold version) totals old is = rw is (omega arith)
sums-commit (OfWatch watch) totals old is = rw is (omega arith)

commit-sums : (old : Domain) (told : Told) (new : Domain) → Commits old told new → sums new ≤ sums old + 200
commit-sums old told new (inl full) = sums-same old new (ap (λ (d : Domain). d.totals) full.1.1)
commit-sums old told new (inr (room, inl rejects)) = sums-same old new (ap (λ (d : Domain). d.totals) rejects.dropped)
commit-sums old told new (inr (room, inr accepts)) =
    subst (λ (d : Domain). sums d ≤ sums old + 200) (sym accepts.accepted) (sums-commit old.background old.totals old refl)

hold-sums : (old : Domain) (told : Told) (new : Domain) (last : Option NumberedNet) (background : Background)
    → BeginsWork (Refuses old told new) (λ version. (told ≡ HoldTold version.number) × (new ≡ with_hold old version)) last background → sums new ≤ sums old + 200
hold-sums old told new None background b = sums-same old new (ap (λ (d : Domain). d.totals) b.1)
hold-sums old told new (Some version) AtRest b = sums-same old new (ap (λ (d : Domain). d.totals) b.1)
hold-sums old told new (Some version) (OfHold held) b = sums-same old new (ap (λ (d : Domain). d.totals) b.1)
hold-sums old told new (Some version) (OfWatch watch) b = sums-same old new (ap (λ (d : Domain). d.totals) b.1)

product-few : (watchers rounds : ℕ) → watchers ≤ 8 → rounds ≤ 16 → watchers * rounds ≤ 128
product-few watchers rounds few short =
    let more : watchers * rounds ≤ 8 * rounds = mul-le-mul_right {m = watchers} {n = 8} rounds few in
    omega (arith, more, short)

watch-sums : (watchers rounds : ℕ) (old : Domain) (told : Told) (new : Domain) (last : Option NumberedNet) (background : Background) → watchers ≤ 8 → rounds ≤ 16
    → BeginsWork (Refuses old told new) (λ version. (told ≡ WatchTold watchers rounds version.number) × (new ≡ with_watch old (watch_from watchers rounds version))) last background
    → sums new ≤ sums old + 200
watch-sums watchers rounds old told new None background few short b = sums-same old new (ap (λ (d : Domain). d.totals) b.1)
watch-sums watchers rounds old told new (Some version) AtRest few short b =
    let product = product-few watchers rounds few short in
    subst (λ (d : Domain). sums d ≤ sums old + 200) (sym b.1) (omega (arith, few, product))
watch-sums watchers rounds old told new (Some version) (OfHold held) few short b = sums-same old new (ap (λ (d : Domain). d.totals) b.1)
watch-sums watchers rounds old told new (Some version) (OfWatch watch) few short b = sums-same old new (ap (λ (d : Domain). d.totals) b.1)

-- a question by `prove` or `why` leaves the totals
question-totals : (refused : Bool) (old : Domain) → (after_question refused old).totals ≡ old.totals
question-totals true old = refl
question-totals false old = refl

-- the last clause serves all commands that leave background work alone and search for nothing
tells-sums : (old : Domain) (command : Command) (told : Told) (new : Domain) → IsAsked command → Tells old command told new → sums new ≤ sums old + 200
tells-sums old Commit told new asked t = commit-sums old told new t
tells-sums old Hold told new asked t = hold-sums old told new (last_version old.nets) old.background t
tells-sums old (Watch watchers rounds) told new asked t = watch-sums watchers rounds old told new (last_version old.nets) old.background asked.1 asked.2 t
tells-sums old Join told new asked t = sums-same old new (ap (λ (d : Domain). d.totals) t.1.1)
tells-sums old (Prove repair) told new asked t =
    sums-same old new (ap (λ (d : Domain). d.totals) t.1 ∙ question-totals (is_refusal told) old)
tells-sums old (Why repair) told new asked t =
    sums-same old new (ap (λ (d : Domain). d.totals) t.1 ∙ question-totals (is_refusal told) old)
tells-sums old command told new asked t = sums-same old new (quiet-stays old command told new tt t).totals

-- a question that is tried leaves them
tries-totals : (question : Command) (old : Domain) (told : Told) (new : Domain) → Tries question old told new → new.totals ≡ old.totals
tries-totals question old told new (inl full) = ap (λ (d : Domain). d.totals) full.1.1
tries-totals question old told new (inr (room, inl vain)) = ap (λ (d : Domain). d.totals) vain.refused.1
tries-totals question old told new (inr (room, inr asks)) = ap (λ (d : Domain). d.totals) asks.tried

line-sums : (old : Domain) (line : List ℕ) (told : Told) (new : Domain) → TellsLine old line told new → sums new ≤ sums old + 200
line-sums old line told new (inl fault) = sums-same old new (ap (λ (d : Domain). d.totals) fault.4.1)
line-sums old line told new (inr (inl nothing)) = sums-same old new (ap (λ (d : Domain). d.totals) nothing.2)
line-sums old line told new (inr (inr (inl said))) = tells-sums old said.0 told new (said-well line said.0 said.1) said.2
line-sums old line told new (inr (inr (inr tries))) = sums-same old new (tries-totals tries.0 old told new tries.2)

replies-sums : (old : Domain) (number : ℕ) (lines : List (List ℕ)) (out : List ℕ) (refused : Bool) (new : Domain) → Replies Answers old number lines out refused new → sums new ≤ sums old + length lines * 200
replies-sums old number [] out refused new r = sums-none old new r.2
replies-sums old number (line ∷ lines) out refused new r =
    let here = line-sums old line r.5.0 r.0 r.5.1 in
    let rest = replies-sums r.0 (number + 1) lines r.3 r.4 new r.6 in
    omega (arith, here, rest)

-- ---- how many lines there are

feeds-long : (lines : List (List ℕ)) → length lines ≤ length (flat_map with_feed lines)
feeds-long [] = omega arith
feeds-long (line ∷ lines) =
    omega (arith, feeds-long lines, length-append (with_feed line) (flat_map with_feed lines), length-append line (10 ∷ []))

last-long : (rest : List ℕ) → length (last_line rest) ≤ length rest
last-long [] = omega arith
last-long (x ∷ rest) = omega arith

lines-few : (bytes : List ℕ) (lines : List (List ℕ)) (rest : List ℕ) → Splits bytes lines rest → length (lines ++ last_line rest) ≤ length bytes
lines-few bytes lines rest s =
    omega (arith, ap length s.whole, length-append (flat_map with_feed lines) rest, length-append lines (last_line rest), feeds-long lines, last-long rest)

-- ---- the end

end-rests : (background : Background) (old : Domain) (out : List ℕ) (new : Domain) → old.background ≡ background → EndsWork background old out new → (new.background ≡ AtRest) × (new.totals ≡ old.totals)
end-rests AtRest old out new is e = (ap (λ (d : Domain). d.background) e.1 ∙ is, ap (λ (d : Domain). d.totals) e.1)
end-rests (OfHold version) old out new is e = (ap (λ (d : Domain). d.background) e.1.1, ap (λ (d : Domain). d.totals) e.1.1)
end-rests (OfWatch watch) old out new is e = (ap (λ (d : Domain). d.background) e.1.1, ap (λ (d : Domain). d.totals) e.1.1)

serves-idle : (nets : List Net) (totals : WatchTotals) (work : Work) (usage : Usage) → totals.places + (totals.rounds + totals.commits) < 2 ^ 60 → IsWorkOf nets AtRest work → ShowsWatches totals work usage → ServesWatches totals usage
serves-idle nets totals Idle usage few w s = record {
  places = omega (arith, few, s.places);
  published = omega (arith, few, s.published);
  turns = omega (arith, few, s.places, s.given_is, s.few, s.turns_are, s.enough);
}
serves-idle nets totals (Holds version) usage few w s = absurd w
serves-idle nets totals (Watches watched) usage few w s = absurd w

pub serves-all : (bytes out : List ℕ) (refused : Bool) (final : Domain) (last : Session) → length bytes ≤ most_bytes → Script conduct opening_domain bytes out refused final
    → ShowsWatches final.totals last.work last.usage → IsWorkOf final.nets final.background last.work → ServesWatches final.totals last.usage
serves-all bytes out refused final last short s shows work =
    let end = end-rests s.last.background s.last s.tail final refl s.end in
    let sum = replies-sums opening_domain 1 _ s.said refused s.last s.replies in
    let lines = lines-few bytes s.lines s.rest s.splits in
    serves-idle final.nets final.totals last.work last.usage
    (subst (λ (t : WatchTotals). t.places + (t.rounds + t.commits) < 2 ^ 60) (sym end.1) (omega (arith, sum, lines, short)))
    (subst (λ (b : Background). IsWorkOf final.nets b last.work) end.0 work) shows
