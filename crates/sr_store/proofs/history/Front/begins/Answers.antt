use Rattle.std.proofs.Common.{◌≡◌, ap, sym, ◌∙◌, subst, refl}
use mathlib.Core.List.{IsPrefix}
use Rattle.sr_store.proofs.Entries.{by-length, entries-begin}
use Rattle.sr_store.proofs.history.Front.begins.Goals as goal

pub returns : goal.returns
returns g c =
    let self = c.self in
    let other = c.other in
    let same : self.inside.seen.book ≡ other.inside.seen.book = sym (ap (λ h. h.store) other.view_is ∙ (c.requires ∙ sym (ap (λ h. h.store) self.view_is))) in
    let mine = subst (λ l. IsPrefix l c.learn.new.self.log) (ap (λ s. s.log) c.again-both.ensures) c.learn.ensures.2 in
    by-length self.inside.seen.log other.inside.seen.log c.learn.new.self.log self.inside.count other.inside.count _ _ self.invariant.count other.invariant.count mine c.learn.ensures.3
    (λ p. rw (sym self.view_is, sym other.view_is) (entries-begin _ _ _ _ self.inside.closed other.inside.closed same self.invariant.entries other.invariant.entries p))
    (λ p. rw (sym self.view_is, sym other.view_is) (entries-begin _ _ _ _ other.inside.closed self.inside.closed (sym same) other.invariant.entries self.invariant.entries p))
    _ refl
