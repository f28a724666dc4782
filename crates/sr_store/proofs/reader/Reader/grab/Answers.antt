use Rattle.std.proofs.Common.{ap, refl, sym, ◌∙◌}
use Rattle.sr_store.proofs.reader.Reader.grab.Goals as goal

pub begins-requires : goal.begins-requires
begins-requires g c =
    let shown = rw c.in-Some-Ok.field-0-is at c.in-Some-Ok.ensures.shown in
    ap (λ h. h.store) c.parts-front.ensures.0 ∙ (shown _ refl ∙ sym (ap (λ h. h.store) c.look.ensures.lists.0))
