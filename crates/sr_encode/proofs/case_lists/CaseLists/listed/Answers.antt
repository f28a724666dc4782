use Rattle.std.proofs.Common.{subst}
use Rattle.sr_model.specs.Case.{IsAffected, source_of}
use Rattle.sr_graph.specs.Ranges.{HoldsLinks}
use Rattle.sr_laws.specs.Listed.{IsCaseListed}
use Rattle.sr_encode.specs.Answered.{AreLists, answer_at}
use Rattle.sr_encode.specs.Placed.{listed_from}
use Rattle.sr_encode.proofs.AnswerLemmas.{no_entry}
use Rattle.sr_encode.proofs.PlacedLemmas.{lists-numbered}
use Rattle.sr_encode.proofs.case_lists.CaseLists.listed.Goals.{After-start_of-start}
use Rattle.sr_encode.proofs.case_lists.CaseLists.listed.Goals as goal

-- what is listed, with first links counted from where those of the source begin
listed : (c : After-start_of-start) → AreLists c.args.net.now c.args.case (listed_from c.start_of-start.result.0 c.args.self.now)
listed c =
    let holds : HoldsLinks c.args.net.now.graph (source_of c.args.net.now.graph c.args.case) c.start_of-start.result.0 c.start_of-start.ensures.0 = rw c.graph.ensures.value at c.start_of-start.ensures.1 in
    c.requires.lists.from c.start_of-start.result.0 c.start_of-start.ensures.0 holds

pub listed_at-requires-clause-place : goal.listed_at-requires-clause-place
listed_at-requires-clause-place c = (c.in-Some.ensures c.start_of-start.result.0).0

pub listed_at-requires-clause-number : goal.listed_at-requires-clause-number
listed_at-requires-clause-number c =
    let at = goal.at.listed_at-requires-clause-number c in
    lists-numbered c.args.net.now c.args.case (listed_from c.start_of-start.result.0 c.args.self.now) (listed at.After-start_of-start) c.graph.ensures.accepted.graph c.in-Some.place no_entry (c.in-Some.ensures c.start_of-start.result.0).0

pub returns-in-Some : goal.returns-in-Some
returns-in-Some c =
    let n = c.args.net.now in
    let r = listed (goal.at.returns-in-Some c).After-start_of-start in
    let place = c.in-Some.ensures c.start_of-start.result.0 in
    let answers : IsCaseListed n c.args.case c.args.destination.0 (answer_at (listed_from c.start_of-start.result.0 c.args.self.now) c.in-Some.place) = rw place.1 at (r.answers c.in-Some.place place.0) in (
      subst (λ d. IsAffected n c.args.case d) place.1 (r.affected c.in-Some.place place.0),
      rw c.listed_at.ensures answers,
    )

pub returns-in-None : goal.returns-in-None
returns-in-None c affected =
    let r = listed (goal.at.returns-in-None c).After-start_of-start in
    let at = r.all c.args.destination.0 affected in
    c.in-None.ensures c.start_of-start.result.0 at.0 at.1 at.2
