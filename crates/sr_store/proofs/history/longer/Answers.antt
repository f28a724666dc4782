use Rattle.std.proofs.Common.{sym, ◌∙◌, ap, length}
use Rattle.sr_store.proofs.Adding.{adds_moves}
use Rattle.sr_store.proofs.history.longer.Goals as goal

pub compare_exchange-found-requires : goal.compare_exchange-found-requires
compare_exchange-found-requires g c =
    let h = c.requires.head in
    let same = c.again-seen.ensures in
    let pen = c.no_pen-pen.ensures in (
      ap (λ w. w.tracked) h,
      ap (λ s. s.book) same ∙ sym (ap (λ w. w.book) h),
      pen.0 ∙ (ap (λ s. s.book) same ∙ sym (ap (λ w. w.book) h)),
      c.requires.offer.0 ∙ sym (ap (λ s. s.names) same),
      rw (ap (λ w. w.key) h, pen.1, c.requires.offer.1) (adds_moves c.again-seen.result.log c.args.offer.ask c.args.count (ap (λ s. length s.log) same ∙ sym c.requires.count.0)),
    )
