-- Watchers, started and joined one after the other.
use Rattle.std.proofs.Common.{◌≡◌, ℕ, suc, ◌+◌, List, [], ◌∷◌, ◌++◌, Bool, true, length, refl, sym, ap, ◌∙◌, subst, append_assoc, arith}
use Rattle.std.proofs.lemmas.List.{append-nil}
use Rattle.std.specs.Prelude.{Result, Vec, IsOkAnd, Ok, Err}
use Rattle.std.specs.declared.alloc.AllocError.{AllocError}
use Rattle.std.specs.declared.alloc.Global.{Global}
use Rattle.sr_store.specs.declared.reader.Reader.{Reader}
use Rattle.sr_watch.specs.declared.inspect.Round.{Round}
use Rattle.sr_watch.specs.declared.task.Task.{Task}
use Rattle.sr_watch.specs.declared.seated.Seated.{Seated}
use Rattle.sr_watch.specs.declared.seated.Finished.{Finished}
use Rattle.sr_watch.specs.declared.apart.Apart.{Apart}
use Rattle.sr_watch.specs.declared.apart.Rounds.{Rounds}
use Rattle.sr_watch.specs.Rounds.{Inspection}
use Rattle.sr_watch.specs.Made.{Took, Kept, Saw, Made, Alone}
use Rattle.sr_watch.specs.Starts.{next_task, IsSeated, IsApart, SeatedFrom, ApartFrom}
use Rattle.sr_watch.specs.Joins.{Back, SeatedRounds, ApartRounds}
use Rattle.sr_watch.specs.Turns.{SeatedSoFar, BackSoFar, ApartSoFar}

-- the same is asked of a watcher this far behind
abbrev pub task_after : {I : Type 0} → Task I → ℕ → Task I
task_after task n = record task { watcher = task.watcher + n }

-- a task that differs from this one in its watcher alone is followed by one that does so too
pub task-next : {I : Type 0} (task before : Task I) (m : ℕ)
    → task ≡ record before { watcher = task.watcher } → task.watcher + 1 ≡ m → next_task task ≡ record before { watcher = m }
task-next task before m is e = ap next_task is ∙ ap (λ k. record before { watcher = k }) e

module _ {V I : Type 0} where
  seated-more : (task : Task I) (rs : List (Reader V)) (ps : List (Seated V I)) (r : Reader V) (p : Seated V I) (own : Task I)
      → own ≡ task_after task (length ps) → SeatedFrom task rs ps → IsSeated own r p → SeatedFrom task (rs ++ r ∷ []) (ps ++ p ∷ [])
  seated-more task [] [] r p own is h new =
      let none : task.watcher + 0 ≡ task.watcher = omega arith in
      (subst (λ t. IsSeated t r p) (is ∙ ap (λ n. record task { watcher = n }) none) new, tt)
  seated-more task [] (x ∷ ps) r p own is h new = absurd h
  seated-more task (x ∷ rs) [] r p own is h new = absurd h
  seated-more task (x ∷ rs) (y ∷ ps) r p own is h new =
      let on : task.watcher + suc (length ps) ≡ (task.watcher + 1) + length ps = omega arith in
      (h.0, seated-more (next_task task) rs ps r p own (is ∙ ap (λ n. record task { watcher = n }) on) h.1 new)

  pub one-seated : (task : Task I) (readers rest : List (Reader V)) (ps : List (Seated V I)) (r : Reader V) (p : Seated V I) (own : Task I)
      → own ≡ task_after task (length ps) → SeatedSoFar task readers (r ∷ rest) ps → IsSeated own r p → SeatedSoFar task readers rest (ps ++ p ∷ [])
  one-seated task readers rest ps r p own is h new = record {
    past = h.past ++ r ∷ [];
    is = h.is ∙ sym (append_assoc h.past (r ∷ []) rest);
    seated = seated-more task h.past ps r p own is h.seated new;
  }

  pub all-seated : (task : Task I) (readers : List (Reader V)) (ps : List (Seated V I)) → SeatedSoFar task readers [] ps → SeatedFrom task readers ps
  all-seated task readers ps h = rw (h.is ∙ append-nil h.past) h.seated

  pub apart-more : (task : Task I) (v : V) (ps : List (Apart V I)) (p : Apart V I) (own : Task I)
      → own ≡ task_after task (length ps) → ApartFrom task v ps → IsApart own v p → ApartFrom task v (ps ++ p ∷ [])
  apart-more task v [] p own is h new =
      let none : task.watcher + 0 ≡ task.watcher = omega arith in
      (subst (λ t. IsApart t v p) (is ∙ ap (λ n. record task { watcher = n }) none) new, tt)
  apart-more task v (x ∷ ps) p own is h new =
      let on : task.watcher + suc (length ps) ≡ (task.watcher + 1) + length ps = omega arith in
      (h.0, apart-more (next_task task) v ps p own (is ∙ ap (λ n. record task { watcher = n }) on) h.1 new)

module _ {V I O : Type 0} (how : Inspection V I O) where
  back-more : (ps : List (Seated V I)) (rs : List (Reader V)) (p : Seated V I) (r : Reader V) → Back ps rs → Kept p.start.value r → Back (ps ++ p ∷ []) (rs ++ r ∷ [])
  back-more [] [] p r h new = (new, tt)
  back-more [] (x ∷ rs) p r h new = absurd h
  back-more (x ∷ ps) [] p r h new = absurd h
  back-more (x ∷ ps) (y ∷ rs) p r h new = (h.0, back-more ps rs p r h.1 new)

  rounds-more : (ps : List (Seated V I)) (rs : List (Reader V)) (all mine : List (Round O)) (p : Seated V I) (r : Reader V)
      → SeatedRounds how ps rs all → Took how p.task p.start.value r mine
      → SeatedRounds how (ps ++ p ∷ []) (rs ++ r ∷ []) (all ++ mine)
  rounds-more [] [] all mine p r h new = (mine, [], new, refl, ap (λ w. w ++ mine) h ∙ sym (append-nil mine))
  rounds-more [] (x ∷ rs) all mine p r h new = absurd h
  rounds-more (x ∷ ps) [] all mine p r h new = absurd h
  rounds-more (x ∷ ps) (y ∷ rs) all mine p r h new =
      (h.0, h.1 ++ mine, h.2, rounds-more ps rs h.1 mine p r h.3 new, ap (λ w. w ++ mine) h.4 ∙ append_assoc h.0 h.1 mine)

  pub one-back : (plans rest : List (Seated V I)) (back : List (Reader V)) (whole again : Bool) (all all' : List (Round O)) (p : Seated V I) (r : Reader V)
      → BackSoFar how plans (p ∷ rest) back whole all → Kept p.start.value r
      → (again ≡ true → (whole ≡ true) × ((mine : List (Round O)) × Took how p.task p.start.value r mine × (all' ≡ all ++ mine)))
      → BackSoFar how plans rest (back ++ r ∷ []) again all'
  one-back plans rest back whole again all all' p r h kept new = record {
    past = h.past ++ p ∷ [];
    is = h.is ∙ sym (append_assoc h.past (p ∷ []) rest);
    back_is = back-more h.past back p r h.back_is kept;
    rounds_are = λ t. (let n = new t in subst (λ w. SeatedRounds how (h.past ++ p ∷ []) (back ++ r ∷ []) w) (sym n.1.2) (rounds-more h.past back all n.1.0 p r (h.rounds_are n.0) n.1.1));
  }

  apart-rounds-more : (ps : List (Apart V I)) (all mine : List (Round O)) (p : Apart V I)
      → ApartRounds how ps all → Saw how p.task p.version.value mine
      → ApartRounds how (ps ++ p ∷ []) (all ++ mine)
  apart-rounds-more [] all mine p h new = (mine, [], new, refl, ap (λ w. w ++ mine) h ∙ sym (append-nil mine))
  apart-rounds-more (x ∷ ps) all mine p h new =
      (h.0, h.1 ++ mine, h.2, apart-rounds-more ps h.1 mine p h.3 new, ap (λ w. w ++ mine) h.4 ∙ append_assoc h.0 h.1 mine)

  pub one-apart : (plans rest : List (Apart V I)) (whole again : Bool) (all all' : List (Round O)) (p : Apart V I)
      → ApartSoFar how plans (p ∷ rest) whole all
      → (again ≡ true → (whole ≡ true) × ((mine : List (Round O)) × Saw how p.task p.version.value mine × (all' ≡ all ++ mine)))
      → ApartSoFar how plans rest again all'
  one-apart plans rest whole again all all' p h new = record {
    past = h.past ++ p ∷ [];
    is = h.is ∙ sym (append_assoc h.past (p ∷ []) rest);
    rounds_are = λ t. (let n = new t in subst (λ w. ApartRounds how (h.past ++ p ∷ []) w) (sym n.1.2) (apart-rounds-more h.past all n.1.0 p (h.rounds_are n.0) n.1.1));
  }

  saw-of : (p : Apart V I) (res : Result (Vec (Round O) Global) AllocError) (all all' : List (Round O))
      → Alone how p.task p.version.value (record { result = res })
      → IsOkAnd res (λ v. all' ≡ all ++ v.items)
      → (mine : List (Round O)) × Saw how p.task p.version.value mine × (all' ≡ all ++ mine)
  saw-of p (Ok v) all all' alone here = (v.items, alone.saw, here)
  saw-of p (Err e) all all' alone here = absurd here

  pub apart-step : (p : Apart V I) (done : Rounds O) (all all' : List (Round O))
      → Alone how p.task p.version.value done
      → IsOkAnd done.result (λ v. all' ≡ all ++ v.items)
      → (mine : List (Round O)) × Saw how p.task p.version.value mine × (all' ≡ all ++ mine)
  apart-step p done all all' alone here = saw-of p done.result all all' alone here

  took-of : (p : Seated V I) (r : Reader V) (res : Result (Vec (Round O) Global) AllocError) (all all' : List (Round O))
      → Made how p.task p.start.value (record { reader = r; result = res })
      → IsOkAnd res (λ v. all' ≡ all ++ v.items)
      → (mine : List (Round O)) × Took how p.task p.start.value r mine × (all' ≡ all ++ mine)
  took-of p r (Ok v) all all' made here = (v.items, made.took, here)
  took-of p r (Err e) all all' made here = absurd here

  pub seated-step : (p : Seated V I) (done : Finished V O) (all all' : List (Round O))
      → Made how p.task p.start.value done
      → IsOkAnd done.result (λ v. all' ≡ all ++ v.items)
      → (mine : List (Round O)) × Took how p.task p.start.value done.reader mine × (all' ≡ all ++ mine)
  seated-step p done all all' made here = took-of p done.reader done.result all all' made here

  pub apart-end : (plans : List (Apart V I)) (whole : Bool) (all : List (Round O)) → ApartSoFar how plans [] whole all → whole ≡ true → ApartRounds how plans all
  apart-end plans whole all h t = rw (h.is ∙ append-nil h.past) (h.rounds_are t)

  pub back-end : (plans : List (Seated V I)) (back : List (Reader V)) (whole : Bool) (all : List (Round O)) → BackSoFar how plans [] back whole all → Back plans back
  back-end plans back whole all h = rw (h.is ∙ append-nil h.past) h.back_is

  pub rounds-end : (plans : List (Seated V I)) (back : List (Reader V)) (whole : Bool) (all : List (Round O)) → BackSoFar how plans [] back whole all → whole ≡ true → SeatedRounds how plans back all
  rounds-end plans back whole all h t = rw (h.is ∙ append-nil h.past) (h.rounds_are t)
