use Rattle.std.proofs.Common.{◌≡◌, ◌∙◌, ◌↔◌, ◌⊎◌, ℕ, ⊎_elim, inl, inr}
use Rattle.std.specs.Vec.{with_items}
use Rattle.std.proofs.lemmas.List.{with_items_is}
use Rattle.sr_graph.specs.Bits.{IsIn}
use Rattle.sr_graph.proofs.link_bits.LinkBits.add_all.Goals as goal

pub returns : goal.returns
returns c =
    let written : (with_items c.widen.new.words c.unite.new.words).items ≡ c.unite.new.words = with_items_is c.widen.new.words c.unite.new.words (c.unite.auto.words ∙ c.deref_mut.ensures.len) in
    let united : (l : ℕ) → IsIn c.unite.new.words l ↔ (IsIn c.widen.new.words.items l ⊎ IsIn c.other.inside.words.items l) = rw (c.deref_mut.ensures.value, c.deref.ensures.value) at c.unite.ensures in
    let widened : (l : ℕ) → IsIn c.widen.new.words.items l ↔ IsIn c.self.inside.words.items l = c.in_ok-widen.ensures.same in
    rw (written, ← c.self.view_is, ← c.other.view_is) (λ l. (
      λ h. ⊎_elim (λ mine. inl ((widened l).0 mine)) (λ theirs. inr theirs) ((united l).0 h),
      λ either. (united l).1 (⊎_elim (λ mine. inl ((widened l).1 mine)) (λ theirs. inr theirs) either),
    ))
