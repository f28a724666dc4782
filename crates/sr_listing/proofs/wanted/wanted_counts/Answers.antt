use Rattle.std.proofs.Common.{◌≡◌, ◌∙◌, ◌<◌, true, false, sym, ap, subst, arith}
use Rattle.sr_model.specs.declared.case.Case.{Case}
use Rattle.sr_model.specs.Case.{IsCase}
use Rattle.sr_model.specs.Graph.{Graph}
use Rattle.sr_model.specs.Label.{Net}
use Rattle.sr_repair.specs.Answers.{case_count, place_of}
use Rattle.sr_listing.specs.Wanted.{is_wanted}
use Rattle.sr_listing.proofs.WantedLemmas.{counted-more, counted-skip, counted-all}
use Rattle.sr_listing.proofs.wanted.wanted_counts.Goals as goal
use Rattle.sr_listing.proofs.wanted.wanted_counts.Goals.{then-is_wanted, else-is_wanted}

pub loop-place-preserved : goal.loop-place-preserved
loop-place-preserved c =
    let net = c.args.version.now.net in
    let wanted = c.args.wanted in
    let place = c.loop-place.place in
    let case : Case = c.case_at.result in
    let graph : c.graph-graph.result.now ≡ net.graph = c.graph-graph.ensures.value ∙ ap (λ (n : Net). n.graph) c.net.ensures.value in
    let within = subst (λ (g : Graph). IsCase g case) graph c.case_at.ensures.case in
    let at = subst (λ (g : Graph). place_of g case ≡ place) graph c.case_at.ensures.place in
    let count : c.case_count-place-end.result ≡ case_count net.graph = c.case_count-place-end.ensures.count ∙ ap case_count graph in
    let less : place < case_count net.graph = omega (arith, count, c.loop-place-test.true) in
    elim c.if-is_wanted.branch [
      | then-is_wanted w ↦
          let is = subst (λ (g : Graph). is_wanted g wanted case ≡ true) graph (sym c.is_wanted.ensures ∙ w.if-is_wanted.true) in
          rw (w.so_far-is, w.counts_sum-so_far.ensures) (counted-more net wanted place case c.loop-place.so_far w.counts_at.result within at is c.loop-place.invariant w.counts_at.ensures)
      | else-is_wanted w ↦
          let is = subst (λ (g : Graph). is_wanted g wanted case ≡ false) graph (sym c.is_wanted.ensures ∙ w.if-is_wanted.false) in
          rw w.so_far-is (counted-skip net wanted place case c.loop-place.so_far c.net.ensures.net c.is_answered.ensures less within at is c.loop-place.invariant)
    ]

pub returns : goal.returns
returns c =
    let net = c.args.version.now.net in
    let graph : c.graph-graph.result.now ≡ net.graph = c.graph-graph.ensures.value ∙ ap (λ (n : Net). n.graph) c.net.ensures.value in
    let count : c.case_count-place-end.result ≡ case_count net.graph = c.case_count-place-end.ensures.count ∙ ap case_count graph in
    let all : c.loop-place.place ≡ case_count net.graph = omega (arith, count, c.loop-place-test.false, c.loop-place.auto.place-end) in
    counted-all net c.args.wanted c.loop-place.place c.loop-place.so_far all c.loop-place.invariant
