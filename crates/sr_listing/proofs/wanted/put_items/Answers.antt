use Rattle.std.proofs.Common.{◌≡◌, ◌∙◌, ◌<◌, true, false, sym, ap, subst, arith}
use Rattle.sr_model.specs.declared.case.Case.{Case}
use Rattle.sr_model.specs.Case.{IsCase}
use Rattle.sr_model.specs.Graph.{Graph}
use Rattle.sr_model.specs.Label.{Net}
use Rattle.sr_repair.specs.Answers.{case_count, place_of}
use Rattle.sr_print.proofs.Appended.{begins-longer, on_err}
use Rattle.sr_listing.specs.Wanted.{is_wanted}
use Rattle.sr_listing.proofs.WantedLemmas.{put-none, put-more, put-skip, put-all}
use Rattle.sr_listing.proofs.wanted.put_items.Goals as goal
use Rattle.sr_listing.proofs.wanted.put_items.Goals.{then-is_wanted+in_ok-put_case, else-is_wanted}

pub loop-place-init : goal.loop-place-init
loop-place-init c = put-none c.args.version.now.net c.args.wanted c.args.out.now.items

pub loop-place-preserved : goal.loop-place-preserved
loop-place-preserved c =
    let net = c.args.version.now.net in
    let wanted = c.args.wanted in
    let place = c.loop-place.place in
    let case : Case = c.case_at.result in
    let before = c.args.out.now.items in
    let now = c.loop-place.out.items in
    let graph : c.graph-graph.result.now ≡ net.graph = c.graph-graph.ensures.value ∙ ap (λ (n : Net). n.graph) c.net.ensures.value in
    let within = subst (λ (g : Graph). IsCase g case) graph c.case_at.ensures.case in
    let at = subst (λ (g : Graph). place_of g case ≡ place) graph c.case_at.ensures.place in
    let count : c.case_count-place-end.result ≡ case_count net.graph = c.case_count-place-end.ensures.count ∙ ap case_count graph in
    let less : place < case_count net.graph = omega (arith, count, c.loop-place-test.true) in
    elim c.if-is_wanted.branch [
      | then-is_wanted+in_ok-put_case w ↦
          let is = subst (λ (g : Graph). is_wanted g wanted case ≡ true) graph (sym c.is_wanted.ensures ∙ w.if-is_wanted.true) in
          rw w.out-is (put-more net wanted place case before now w.put_case.new.out.items within at is c.loop-place.invariant w.in_ok-put_case.ensures.lines)
      | else-is_wanted w ↦
          let is = subst (λ (g : Graph). is_wanted g wanted case ≡ false) graph (sym c.is_wanted.ensures ∙ w.if-is_wanted.false) in
          rw w.out-is (put-skip net wanted place case before now c.net.ensures.net c.is_answered.ensures less within at is c.loop-place.invariant)
    ]

pub returns-in_err-put_case-clause-err : goal.returns-in_err-put_case-clause-err
returns-in_err-put_case-clause-err c =
    on_err c.from_residual.result
    (begins-longer c.args.out.now.items c.loop-place.out.items c.put_case.new.out.items _ c.loop-place.invariant.lines c.in_err-put_case.ensures.err)

pub returns : goal.returns
returns c =
    let net = c.args.version.now.net in
    let graph : c.graph-graph.result.now ≡ net.graph = c.graph-graph.ensures.value ∙ ap (λ (n : Net). n.graph) c.net.ensures.value in
    let count : c.case_count-place-end.result ≡ case_count net.graph = c.case_count-place-end.ensures.count ∙ ap case_count graph in
    let all : c.loop-place.place ≡ case_count net.graph = omega (arith, count, c.loop-place-test.false, c.loop-place.auto.place-end) in
    record {
      lines = put-all net c.args.wanted c.loop-place.place c.args.out.now.items c.loop-place.out.items all c.loop-place.invariant;
      err = tt;
    }
