use Rattle.std.proofs.Common.{◌≡◌, ℕ, List, ◌++◌, Ok, sym, ap, ◌∙◌, append_assoc, flat_map, vec_items}
use Rattle.std.proofs.lemmas.Iterator.Adapters.{fact_from_extend, YieldsList-from_vec}
use Rattle.std.proofs.lemmas.List.{map-id}
use Rattle.sr_model.specs.declared.audit.Item.{Item}
use Rattle.sr_audit.proofs.audits.joined.Goals as goal

pub loop-list-preserved : goal.loop-list-preserved
loop-list-preserved c =
    let before = c.loop-list.items.items in
    let rest = flat_map vec_items c.next.new.self.rest.items in
    let more : c.extend.new.self.items ≡ before ++ c.in-Some.list.items = fact_from_extend {E = ℕ} (λ x. x) (Ok c.in_ok-extend.field-0) c.in_ok-extend.ensures.ran
    (λ it b. YieldsList-from_vec {s = it} _ b.0 (b.1 ∙ c.in-Some.list.ok.0))
    (λ xs e h. h.0 ∙ ap (λ (l : List Item). before ++ l) (sym (map-id xs) ∙ e)) in
    let next = rw c.in-Some.ensures.steps.0 at c.loop-list.invariant in
    next ∙ sym (append_assoc before c.in-Some.list.items rest) ∙ ap (λ (l : List Item). l ++ rest) (sym more)
