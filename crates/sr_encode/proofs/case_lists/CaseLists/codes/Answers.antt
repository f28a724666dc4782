use Rattle.sr_encode.proofs.CodeLemmas.{codes-are}
use Rattle.sr_encode.proofs.case_lists.CaseLists.codes.Goals as goal

pub returns : goal.returns
returns c start = rw (← c.self.view_is, c.new.ensures, c.deref.ensures.value) (codes-are start c.self.inside.segments.items c.self.inside.outcomes.items c.self.inside.kept.items c.self.invariant.0)
