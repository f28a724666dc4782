use Rattle.std.proofs.Common.{rules}
use Rattle.std.proofs.lemmas.List.Sorted.{answers_always}
use Rattle.sr_domain.specs.Links.{link_key}
use Rattle.sr_domain.proofs.draft.sort_links.Goals as goal

pub returns-clause-ascending : goal.returns-clause-ascending
returns-clause-ascending c = c.sort_unstable_by_key.ensures.sorted link_key (answers_always _ _ _ (λ f a r f' k. search rules))
