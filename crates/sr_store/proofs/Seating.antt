-- Readers whose seats count up.
use Rattle.std.proofs.Common.{◌≡◌, ℕ, ◌+◌, List, [], ◌∷◌, ◌++◌, length, arith, All}
use Rattle.std.proofs.lemmas.List.Elements.{All-cons, All-nil}
use Rattle.logbook.specs.Pages.{Book}
use Rattle.sr_store.specs.declared.reader.Reader.{Reader}
use Rattle.sr_store.specs.Seats.{SeatsFrom}

module _ {V : Type 0} (store : Book) where
  pub seats-push : (seat : ℕ) (rs : List (Reader V)) (r : Reader V) → SeatsFrom store seat rs → r.list.store ≡ store
      → r.seat ≡ seat + length rs → SeatsFrom store seat (rs ++ r ∷ [])
  seats-push seat [] r s same at = (same, omega (arith, at), tt)
  seats-push seat (x ∷ rs) r s same at = (s.0, s.1, seats-push (seat + 1) rs r s.2 same (omega (arith, at)))

  -- all of them are of the store
  pub seats-store : (seat : ℕ) (rs : List (Reader V)) → SeatsFrom store seat rs → All (λ (r : Reader V). r.list.store ≡ store) rs
  seats-store seat [] s = All-nil (λ (r : Reader V). r.list.store ≡ store)
  seats-store seat (r ∷ rs) s = All-cons (λ (r : Reader V). r.list.store ≡ store) r rs s.0 (seats-store (seat + 1) rs s.2)

  -- the last one has the last seat
  pub seats-end : (seat : ℕ) (rs : List (Reader V)) (r : Reader V) → SeatsFrom store seat (rs ++ r ∷ [])
      → SeatsFrom store seat rs × (r.list.store ≡ store) × (r.seat ≡ seat + length rs)
  seats-end seat [] r s = (tt, s.0, omega (arith, s.1))
  seats-end seat (x ∷ rs) r s =
      let rest = seats-end (seat + 1) rs r s.2 in ((s.0, s.1, rest.0), rest.1, omega (arith, rest.2))
