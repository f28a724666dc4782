use Rattle.std.proofs.Common.{sym, ◌∙◌}
use Rattle.std.proofs.lemmas.List.{get_or_default}
use Rattle.std.proofs.lemmas.Map.Lookups.{exact_unsigned}
use Rattle.sr_graph.proofs.NumbersLemmas.{nowhere}
use Rattle.sr_domain.proofs.PlacesLemmas.{place-at}
use Rattle.sr_domain.proofs.clash.place_of.Goals as goal

pub returns-in-Ok-clause-place : goal.returns-in-Ok-clause-place
returns-in-Ok-clause-place c = sym (place-at c.args.nodes.now c.in-Ok.at c.args.node c.requires.ascending c.in-Ok.ensures.bound (exact_unsigned _ _ (c.in-Ok.ensures.ok 0)))

pub returns-in-Err-clause-place : goal.returns-in-Err-clause-place
returns-in-Err-clause-place c = absurd (nowhere c.args.nodes.now c.args.node c.in-Err.field-0 c.requires.ascending c.in-Err.ensures.position c.requires.there.0 c.requires.there.1 (get_or_default c.args.nodes.now c.requires.there.0 0 c.args.node c.requires.there.1 ∙ c.requires.there.2))
