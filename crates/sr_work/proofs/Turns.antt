-- The readers that come back: of which store they are, and how many turns they took.
use Rattle.std.proofs.Common.{◌≡◌, ℕ, ◌+◌, ◌*◌, ◌≤◌, List, [], ◌∷◌, All, length, sym, ap, ◌∙◌, arith, Result, Ok, Err}
use Rattle.std.specs.Prelude.{OnOk}
use Rattle.std.proofs.lemmas.List.Elements.{All-tail}
use Rattle.logbook.specs.Pages.{Book}
use Rattle.sr_model.specs.declared.audit.Counts.{Counts}
use Rattle.sr_repair.specs.Version.{NumberedNet}
use Rattle.sr_store.specs.declared.reader.Reader.{Reader}
use Rattle.sr_store.specs.Seats.{SeatsFrom}
use Rattle.sr_store.specs.Histories.{History}
use Rattle.sr_store.specs.Closes.{turns_of}
use Rattle.sr_watch.specs.declared.inspect.Round.{Round}
use Rattle.sr_watch.specs.declared.task.Task.{Task}
use Rattle.sr_watch.specs.declared.seated.Seated.{Seated}
use Rattle.sr_watch.specs.Starts.{Plans, task_of, next_task, SeatedFrom}
use Rattle.sr_watch.specs.Joins.{Back, SeatedRounds, AllRounds}
use Rattle.sr_work.specs.declared.counting.Counting.{Counting}
use Rattle.sr_model.specs.declared.limits.TheConstants.{MOST_ROUNDS}
use Rattle.sr_work.specs.Watched.{Watched}
use Rattle.sr_work.specs.Started.{WasStarted, IsPlaced}
use Rattle.sr_work.proofs.Made.{counting, seated-length, back-length}

-- the readers that come back have their seats
pub back-seats : (task : Task Counting) (store : Book) (n : ℕ) (readers : List (Reader NumberedNet)) (ps : List (Seated NumberedNet Counting)) (back : List (Reader NumberedNet))
    → SeatedFrom task readers ps → Back ps back → SeatsFrom store n readers → SeatsFrom store n back
back-seats task store n [] [] [] from h seats = tt
back-seats task store n [] [] (b ∷ bs) from h seats = absurd h
back-seats task store n [] (p ∷ ps) back from h seats = absurd from
back-seats task store n (r ∷ rs) [] back from h seats = absurd from
back-seats task store n (r ∷ rs) (p ∷ ps) [] from h seats = absurd h
back-seats task store n (r ∷ rs) (p ∷ ps) (b ∷ bs) from h seats = (
  sym h.0.list.store ∙ (ap (λ (x : Reader NumberedNet). x.list.store) from.0.1 ∙ seats.0),
  h.0.seat ∙ (ap (λ (x : Reader NumberedNet). x.seat) from.0.1 ∙ seats.1),
  back-seats (next_task task) store (n + 1) rs ps bs from.1 h.1 seats.2,
)

-- as many come back
pub back-count : (task : Task Counting) (readers : List (Reader NumberedNet)) (ps : List (Seated NumberedNet Counting)) (back : List (Reader NumberedNet))
    → SeatedFrom task readers ps → Back ps back → length readers ≡ length back
back-count task readers ps back from h = seated-length task readers ps from ∙ back-length ps back h

-- each of them took all its turns
back-turns : (task : Task Counting) (list : List NumberedNet) (readers : List (Reader NumberedNet)) (ps : List (Seated NumberedNet Counting)) (back : List (Reader NumberedNet)) (rounds : List (Round Counts))
    → task.rounds ≤ MOST_ROUNDS → SeatedFrom task readers ps → SeatedRounds counting ps back rounds → All (IsPlaced list) readers → turns_of back ≡ length readers * task.rounds
back-turns task list [] [] [] rounds le from h seats = grind arith
back-turns task list [] [] (b ∷ bs) rounds le from h seats = absurd h
back-turns task list [] (p ∷ ps) back rounds le from h seats = absurd from
back-turns task list (r ∷ rs) [] back rounds le from h seats = absurd from
back-turns task list (r ∷ rs) (p ∷ ps) [] rounds le from h seats = absurd h
back-turns task list (r ∷ rs) (p ∷ ps) (b ∷ bs) rounds le from h seats =
    let seat = seats 0 r (omega arith) in
    let start : p.start.value.turns ≡ 0 = ap (λ (x : Reader NumberedNet). x.turns) from.0.1 ∙ seat.2 in
    let count : p.task.rounds ≡ task.rounds = ap (λ (t : Task Counting). t.rounds) from.0.0 in
    let here : b.turns ≡ task.rounds = omega (arith, h.2.turns, start, count, le) in
    let rest = back-turns (next_task task) list rs ps bs h.1 le from.1 h.3 (All-tail (IsPlaced list) r rs seats) in
    grind (arith, here, rest)

-- the readers of a watch took all their turns
pub all-turns : (plans : Plans NumberedNet Counting) (list : History NumberedNet) (first : NumberedNet) (watched : Watched) (back : List (Reader NumberedNet)) (rounds : List (Round Counts))
    → WasStarted plans list first watched → AllRounds counting plans back rounds → turns_of back ≡ watched.given * watched.rounds
all-turns plans list first watched back rounds k made =
    let R = watched.rounds in
    let s = k.started in
    back-turns (task_of k.inspect R 1) (first ∷ []) k.readers plans.seated back made.first k.few s.seated made.seated k.placed ∙ ap (λ n. n * R) k.given_is

pub on-ok : {T E P : Type 0} (r : Result T E) → P → OnOk r P
on-ok (Ok t) p = p
on-ok (Err e) p = tt
