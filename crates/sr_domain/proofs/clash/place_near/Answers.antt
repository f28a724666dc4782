use Rattle.std.proofs.Common.{sym, ◌∙◌}
use Rattle.std.proofs.lemmas.Bool.{eqb-true}
use Rattle.std.proofs.lemmas.List.{get_or_default}
use Rattle.sr_domain.proofs.PlacesLemmas.{place-at}
use Rattle.sr_domain.proofs.clash.place_near.Goals as goal

pub returns-then-eq-clause-place : goal.returns-then-eq-clause-place
returns-then-eq-clause-place c =
    sym (place-at c.args.nodes.now c.args.near c.args.node c.requires.ascending c.if-near-nodes.true
    (get_or_default c.args.nodes.now c.args.near 0 c.index-nodes-near.result c.if-near-nodes.true
    ∙ sym c.index-nodes-near.is ∙ eqb-true c.index-nodes-near.result c.args.node (sym c.eq.ensures ∙ c.if-eq.true)))
