use Rattle.std.proofs.Common.{◌+◌, ◌∷◌, ◌++◌, [], Vec, rules, ap, ◌∙◌}
use Rattle.std.specs.declared.alloc.Global.{Global}
use Rattle.sr_make.specs.declared.pairs.Span.{Span}
use Rattle.sr_make.specs.Pairs.{begins_chord, chord_span}
use Rattle.sr_make.proofs.PairLemmas.{kept-next, kept-same}
use Rattle.sr_make.proofs.pairs.push_chords.Goals as goal
use Rattle.sr_make.proofs.pairs.push_chords.Goals.{then-first-eq1+in_ok-push, else-first-eq1}

pub loop-before-preserved : goal.loop-before-preserved
loop-before-preserved c =
    elim c.if-first-eq1.branch [
      | then-first-eq1+in_ok-push w ↦
          ap (λ (v : Vec Span Global). v.items) w.spans-is
          ∙ w.in_ok-push.ensures.items
          ∙ ap (λ l. l ++ chord_span c.args.nodes (c.loop-before.before + 1) ∷ []) c.loop-before.invariant
          ∙ kept-next (chord_span c.args.nodes) begins_chord c.loop-before.before c.args.spans.now.items (search rules)
      | else-first-eq1 w ↦
          ap (λ (v : Vec Span Global). v.items) w.spans-is
          ∙ c.loop-before.invariant
          ∙ kept-same (chord_span c.args.nodes) begins_chord c.loop-before.before c.args.spans.now.items (search rules)
    ]
