use Rattle.std.proofs.Common.{◌≡◌, ap, sym, subst, All}
use Rattle.sr_store.proofs.Seating.{seats-store}
use Rattle.sr_store.proofs.closing.close.Goals as goal

pub last_turns-requires-clause-store : goal.last_turns-requires-clause-store
last_turns-requires-clause-store g c =
    let marked = rw c.in-Ok-done.is at c.mark-writer.ensures.list in
    let same = ap (λ h. h.store) marked in
    subst (λ b. All (λ r. r.list.store ≡ b) c.args.readers.items) (sym same) (seats-store c.args.writer.list.store 0 c.args.readers.items c.requires.seats.0)
