-- What the join of a watch hands back.
use Rattle.std.specs.Prelude.{◌≡◌, List, [], ◌∷◌, ◌++◌, IfOk}
use Rattle.sr_store.specs.declared.reader.Reader.{Reader}
use Rattle.sr_watch.specs.declared.inspect.Round.{Round}
use Rattle.sr_watch.specs.declared.joined.Joined.{Joined}
use Rattle.sr_watch.specs.declared.seated.Seated.{Seated}
use Rattle.sr_watch.specs.declared.apart.Apart.{Apart}
use Rattle.sr_watch.specs.Rounds.{Inspection}
use Rattle.sr_watch.specs.Made.{Took, Kept, Saw}
use Rattle.sr_watch.specs.Starts.{Plans}

-- the readers of these watchers, in their order
abbrev pub Back : {V I : Type 0} → List (Seated V I) → List (Reader V) → Type 0
Back [] [] = Unit {0}
Back [] (r ∷ rs) = ⊥
Back (p ∷ ps) [] = ⊥
Back (p ∷ ps) (r ∷ rs) = Kept p.start.value r × Back ps rs

-- the rounds of these watchers, one watcher after the other, which left their readers so
abbrev pub SeatedRounds : {V I O : Type 0}
    → Inspection V I O → List (Seated V I) → List (Reader V) → List (Round O) → Type 0
SeatedRounds how [] [] rounds = rounds ≡ []
SeatedRounds how [] (r ∷ rs) rounds = ⊥
SeatedRounds how (p ∷ ps) [] rounds = ⊥
SeatedRounds {O = O} how (p ∷ ps) (r ∷ rs) rounds =
    (mine : List (Round O)) × (later : List (Round O)) × Took how p.task p.start.value r mine
    × SeatedRounds how ps rs later × (rounds ≡ mine ++ later)

-- the rounds of these watchers, one watcher after the other
abbrev pub ApartRounds : {V I O : Type 0} → Inspection V I O → List (Apart V I) → List (Round O) → Type 0
ApartRounds how [] rounds = rounds ≡ []
ApartRounds {O = O} how (p ∷ ps) rounds =
    (mine : List (Round O)) × (later : List (Round O)) × Saw how p.task p.version.value mine
    × ApartRounds how ps later × (rounds ≡ mine ++ later)

-- the rounds of all watchers, in order of watcher and round
pub record AllRounds {V I O : Type 0} (how : Inspection V I O) (w : Plans V I)
    (readers : List (Reader V)) (rounds : List (Round O)) : Type 0 where
  pub first : List (Round O)
  pub seated : SeatedRounds how w.seated readers first
  pub last : List (Round O)
  pub apart : ApartRounds how w.apart last
  pub whole : rounds ≡ first ++ last

-- the readers come back, and with them all rounds where memory didn't run out
pub record Joins {V I O : Type 0} (how : Inspection V I O) (w : Plans V I) (j : Joined V O) : Type 0 where
  pub back : Back w.seated j.readers.items
  pub rounds : IfOk j.result (λ v. AllRounds how w j.readers.items v.items)
