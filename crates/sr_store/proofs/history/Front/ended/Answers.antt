use Rattle.std.proofs.Common.{◌≡◌, ◌++◌, ◌∷◌, [], ap, sym, ◌∙◌, subst, arith}
use Rattle.std.proofs.lemmas.List.{append-nil}
use Rattle.sr_store.specs.declared.history.LogEntry.TheVariants.{Mark}
use Rattle.sr_store.specs.Entries.{entry_versions}
use Rattle.sr_store.specs.Fronts.{IsFront}
use Rattle.sr_store.proofs.Entries.{versions-append}
use Rattle.sr_store.proofs.Growing.{front-room, front-mark}
use Rattle.sr_store.proofs.history.Front.ended.Goals as goal

pub longer-requires-clause-count : goal.longer-requires-clause-count
longer-requires-clause-count g c =
    let whole = ap (λ h. h.closed) c.self.view_is ∙ c.requires.open in
    let front = subst (λ b. IsFront g.V.Numbered.number_of c.self.inside.count c.self.inside.seen.log b) whole c.self.invariant in
    let room = front-room g.V.Numbered.number_of c.self.inside.count c.self.inside.seen.log front in
    (front.count, omega (arith, room))

pub overflow_add-result : goal.overflow_add-result
overflow_add-result g c =
    let whole = ap (λ h. h.closed) c.self.view_is ∙ c.requires.open in
    let front = subst (λ b. IsFront g.V.Numbered.number_of c.self.inside.count c.self.inside.seen.log b) whole c.self.invariant in
    let room = front-room g.V.Numbered.number_of c.self.inside.count c.self.inside.seen.log front in
    omega (arith, room)

pub invariant_of-result : goal.invariant_of-result
invariant_of-result g c =
    let number = g.V.Numbered.number_of in
    let whole = ap (λ h. h.closed) c.self.view_is ∙ c.requires.open in
    let front = subst (λ b. IsFront number c.self.inside.count c.self.inside.seen.log b) whole c.self.invariant in
    let log : c.in-Some.seen.log ≡ c.self.inside.seen.log ++ Mark ∷ [] = rw (sym c.plain-offer.ensures.1) c.in-Some.ensures.1 in
    front-mark number c.self.inside.count c.self.inside.seen.log c.in-Some.seen.log front log

pub returns-in-Some : goal.returns-in-Some
returns-in-Some g c =
    let log : c.in-Some.seen.log ≡ c.self.inside.seen.log ++ Mark ∷ [] = rw (sym c.plain-offer.ensures.1) c.in-Some.ensures.1 in
    let versions : entry_versions c.in-Some.seen.log ≡ entry_versions c.self.inside.seen.log = ap entry_versions log ∙ (versions-append c.self.inside.seen.log (Mark ∷ []) ∙ append-nil _) in
    rw (sym c.self.view_is) (cc (versions, c.in-Some.ensures.0))
