-- A watch goes on once a version is published.
use Rattle.std.proofs.Common.{◌≡◌, Bool, true, false, List, [], ◌∷◌, ◌++◌, ap, sym, ◌∙◌, subst, Result, Ok, Err, All}
use Rattle.std.specs.Prelude.{MatchResult}
use Rattle.std.proofs.lemmas.List.{append-nil}
use Rattle.sr_repair.specs.Version.{NumberedNet}
use Rattle.sr_store.specs.declared.reader.Reader.{Reader}
use Rattle.sr_store.specs.Histories.{History, with_version}
use Rattle.sr_store.specs.Seats.{IsSeat}
use Rattle.sr_watch.specs.Starts.{Plans}
use Rattle.sr_work.specs.declared.counting.Counting.{Counting}
use Rattle.sr_work.specs.Watched.{Watched, with_next, IsNumberedNext}
use Rattle.sr_work.specs.Started.{WasStarted, IsPlaced}
use Rattle.sr_work.proofs.Numbers.{numbered-more, numbered-next}

-- a reader that a store gave when its list was this one
pub seats-placed : (list : History NumberedNet) (versions : List NumberedNet) (readers : List (Reader NumberedNet))
    → list.versions ≡ versions → All (IsSeat list) readers → All (IsPlaced versions) readers
seats-placed list versions readers is seats = λ k d within.
    let seat = seats k d within in
    let seen = ap (λ (l : History NumberedNet). l.versions) seat.0 ∙ is in
    let told = ap (λ (l : History NumberedNet). l.versions) seat.1 ∙ is in
    (seen, ([], append-nil versions ∙ sym told), seat.2)

module _ (plans : Plans NumberedNet Counting) (list : History NumberedNet) (first v : NumberedNet) (w : Watched) where
  started-more : IsNumberedNext w.versions v → WasStarted plans list first w → WasStarted plans (with_version list v) first (with_next w v)
  started-more next k = record {
    inspect = k.inspect;
    readers = k.readers;
    started = k.started;
    placed = k.placed;
    seats = k.seats;
    given_is = k.given_is;
    versions = ap (λ l. l ++ v ∷ []) k.versions;
    begins = (k.begins.0 ++ v ∷ [], ap (λ l. l ++ v ∷ []) k.begins.1);
    numbers = numbered-more first.number w.versions v k.numbers (numbered-next first.number w.versions first v k.begins k.numbers next);
    few = k.few;
  }

  pub started-after : {T E : Type 0} (done : Result T E) (next : History NumberedNet) (now before : Bool)
      → IsNumberedNext w.versions v → WasStarted plans list first w → w.versions ≡ list.versions
      → MatchResult done (λ _. (next ≡ with_version list v) × (now ≡ false)) (λ _. (next ≡ list) × (before ≡ true))
      → WasStarted plans next first (record w { versions = next.versions })
  started-after (Ok t) next now before numbered k same is =
      let more = started-more numbered k in
      let all : WasStarted plans (with_version list v) first (record w { versions = list.versions ++ v ∷ [] }) =
      subst (λ (l : List NumberedNet). WasStarted plans (with_version list v) first (record w { versions = l ++ v ∷ [] })) same more in
      subst (λ (h : History NumberedNet). WasStarted plans h first (record w { versions = h.versions })) (sym is.0) all
  started-after (Err e) next now before numbered k same is =
      let all : WasStarted plans list first (record w { versions = list.versions }) = subst (λ (l : List NumberedNet). WasStarted plans list first (record w { versions = l })) same k in
      subst (λ (h : History NumberedNet). WasStarted plans h first (record w { versions = h.versions })) (sym is.0) all
