use Rattle.std.proofs.Common.{◌≡◌, ℕ, ◌+◌, ◌-◌, ◌<◌, List, length, get_or, arith, ap, ◌∙◌}
use Rattle.std.proofs.lemmas.List.{get_or_default}
use Rattle.std.specs.declared.cmp.Ordering.TheVariants.{Less}
use Rattle.sr_model.specs.KeyOrder.{key_cmp}
use Rattle.sr_domain.specs.declared.links.FoundLink.{FoundLink}
use Rattle.sr_domain.specs.Links.{KeysAscend}
use Rattle.sr_domain.proofs.draft.has_repeat.Goals as goal

less-at : (links : List FoundLink) (i : ℕ) (a b : FoundLink) → 0 < i → i < length links → KeysAscend links → key_cmp (get_or links (i - 1) a).key (get_or links i b).key ≡ Less
less-at links i a b some within up =
    let next : i ≡ i - 1 + 1 = omega arith in
    ap (λ (x : FoundLink). key_cmp x.key (get_or links i b).key) (get_or_default links (i - 1) a b (omega arith))
    ∙ ap (λ k. key_cmp (get_or links (i - 1) b).key (get_or links k b).key) next
    ∙ up (i - 1) b (omega arith)

pub returns-in_default : goal.returns-in_default
returns-in_default c = λ up. absurd (c.in_default.not-Less (c.cmp.ensures ∙ less-at c.args.links.now c.loop-i.i c.index-links-i.result c.index-links-i-in-loop-i.result (omega arith) (omega arith) up))
