use Rattle.std.proofs.Common.{◌≡◌, ◌<◌, get_or, arith, ap, subst, sym, ◌∙◌}
use Rattle.std.proofs.lemmas.List.{get_or_default}
use Rattle.sr_repair.specs.declared.answers.Found.TheVariants.{AsLink}
use Rattle.sr_repair.specs.Answers.{case_count, slot_of, IsFound}
use Rattle.sr_repair.proofs.answers.found_of.Goals as goal

pub returns : goal.returns
returns c =
    let n = c.args.net.now in
    let case = c.args.case in
    let found = c.args.found.now in
    let one = c.index-found-slot_of.result in
    let at : c.slot_of.result ≡ slot_of case = c.slot_of.ensures.slot in
    let inside : c.slot_of.result < case_count n.graph = subst (λ graph. c.slot_of.result < case_count graph) c.graph.ensures.value c.slot_of.ensures.within in
    let here : one ≡ get_or found (slot_of case) AsLink = c.index-found-slot_of.is ∙ get_or_default found c.slot_of.result one AsLink (omega (arith, inside, c.requires.found.long)) ∙ ap (λ k. get_or found k AsLink) at in
    subst (λ f. IsFound n case f) (sym here) (c.requires.found.each case c.requires.case (omega (arith, inside, at)))
