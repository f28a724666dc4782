use Rattle.std.proofs.Common.{◌≡◌, arith, ap, ◌∙◌, sym}
use Rattle.sr_model.specs.declared.link.Link.{Link}
use Rattle.sr_model.specs.Case.{key_at}
use Rattle.sr_model.proofs.KeyOrderLemmas.{key_cmp-same, key-from_cmp}
use Rattle.sr_delta.proofs.PartnerLemmas.{none-has}
use Rattle.sr_delta.proofs.partners.link_with_key.Goals as goal

pub returns-then-at-link_count-clause-none : goal.returns-then-at-link_count-clause-none
returns-then-at-link_count-clause-none c =
    none-has c.args.graph.now c.link_count.ensures.named c.args.key.now c.args.at c.requires.below c.requires.first
    (λ lt e. absurd (omega (arith, c.if-at-link_count.true, c.link_count.ensures.count)))

pub returns-in_default-clause-none : goal.returns-in_default-clause-none
returns-in_default-clause-none c =
    let key : c.link.result.key ≡ key_at c.args.graph.now c.args.at = ap (λ (k : Link). k.key) c.link.ensures.link in
    none-has c.args.graph.now c.link_count.ensures.named c.args.key.now c.args.at c.requires.below c.requires.first
    (λ lt e. c.in_default.not-Equal (c.cmp.ensures ∙ key_cmp-same c.link.result.key c.args.key.now (key ∙ e)))

pub returns-in-Equal-clause-found : goal.returns-in-Equal-clause-found
returns-in-Equal-clause-found c =
    let key : c.link.result.key ≡ key_at c.args.graph.now c.args.at = ap (λ (k : Link). k.key) c.link.ensures.link in
    (omega (arith, c.if-at-link_count.false, c.link_count.ensures.count), sym key ∙ key-from_cmp c.link.result.key c.args.key.now (sym c.cmp.ensures ∙ c.in-Equal.is))
