use Rattle.std.proofs.Common.{◌≡◌, ◌++◌, ◌∷◌, [], ap, sym, ◌∙◌, subst, arith}
use Rattle.sr_store.specs.declared.history.LogEntry.TheVariants.{Version}
use Rattle.sr_store.specs.Entries.{entry_versions}
use Rattle.sr_store.specs.Fronts.{IsFront}
use Rattle.sr_store.specs.Histories.{IsNext}
use Rattle.sr_store.proofs.Entries.{versions-append}
use Rattle.sr_store.proofs.Growing.{front-room, front-push}
use Rattle.sr_store.proofs.history.Front.extended.Goals as goal

pub longer-requires-clause-count : goal.longer-requires-clause-count
longer-requires-clause-count g c =
    let whole = ap (λ h. h.closed) c.self.view_is ∙ c.requires.open in
    let front = subst (λ b. IsFront g.V.Numbered.number_of c.self.inside.count c.self.inside.seen.log b) whole c.self.invariant in
    let room = front-room g.V.Numbered.number_of c.self.inside.count c.self.inside.seen.log front in
    (front.count, omega (arith, room))

pub overflow_add-result : goal.overflow_add-result
overflow_add-result g c =
    let whole = ap (λ h. h.closed) c.self.view_is ∙ c.requires.open in
    let front = subst (λ b. IsFront g.V.Numbered.number_of c.self.inside.count c.self.inside.seen.log b) whole c.self.invariant in
    let room = front-room g.V.Numbered.number_of c.self.inside.count c.self.inside.seen.log front in
    omega (arith, room)

pub invariant_of-result : goal.invariant_of-result
invariant_of-result g c =
    let number = g.V.Numbered.number_of in
    let whole = ap (λ h. h.closed) c.self.view_is ∙ c.requires.open in
    let front = subst (λ b. IsFront number c.self.inside.count c.self.inside.seen.log b) whole c.self.invariant in
    let next = subst (λ vs. IsNext number vs c.args.version.now) (sym (ap (λ h. h.versions) c.self.view_is)) c.requires.next in
    let log : c.in-Some.seen.log ≡ c.self.inside.seen.log ++ Version c.args.version.now ∷ [] = rw (sym c.plain-offer.ensures.1) c.in-Some.ensures.1 in
    front-push number c.self.inside.count c.self.inside.seen.log c.in-Some.seen.log c.args.version.now front next (omega (arith, c.number-number.ensures, c.number-number.type_inv)) log

pub returns-in-Some : goal.returns-in-Some
returns-in-Some g c =
    let log : c.in-Some.seen.log ≡ c.self.inside.seen.log ++ Version c.args.version.now ∷ [] = rw (sym c.plain-offer.ensures.1) c.in-Some.ensures.1 in
    let versions : entry_versions c.in-Some.seen.log ≡ entry_versions c.self.inside.seen.log ++ c.args.version.now ∷ [] = ap entry_versions log ∙ versions-append c.self.inside.seen.log (Version c.args.version.now ∷ []) in
    rw (sym c.self.view_is) (cc (versions, c.in-Some.ensures.0, ap (λ h. h.closed) c.self.view_is, c.requires.open))
