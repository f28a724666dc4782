use Rattle.std.proofs.Common.{◌≡◌, ◌↔◌, ◌<◌, ◌≤◌, length, arith, subst, ◌∙◌, IsTrue}
use Rattle.std.proofs.lemmas.List.{get_or_default}
use Rattle.sr_model.specs.Graph.{Graph}
use Rattle.sr_delta.specs.declared.change.Change.{Change}
use Rattle.sr_delta.specs.Changed.{change_at, no_change}
use Rattle.sr_delta.specs.Pairs.{IsPairedIfAt}
use Rattle.sr_delta.proofs.PairLemmas.{each-up}
use Rattle.sr_delta.proofs.FailureLemmas.{pairs-from_changes, changes-from_pairs}
use Rattle.sr_delta.proofs.near.same_pairs.Goals as goal

pub returns-then-not-is_paired_if_at : goal.returns-then-not-is_paired_if_at
returns-then-not-is_paired_if_at c =
    let g : Graph = c.args.old.now.graph in
    let h : Graph = c.args.new.now.graph in
    let within : c.loop-n.n < length c.args.links.now = omega (arith, c.loop-n-test.true) in
    let here : c.index-links-n.result ≡ change_at c.args.links.now c.loop-n.n = c.index-links-n.is ∙ get_or_default c.args.links.now c.loop-n.n c.index-links-n.result no_change within in
    let is : IsTrue c.is_paired_if_at.result ↔ IsPairedIfAt g h (change_at c.args.links.now c.loop-n.n) c.args.v.0 =
    subst (λ (j : Change). IsTrue c.is_paired_if_at.result ↔ IsPairedIfAt g h j c.args.v.0) here (rw (c.graph-before.ensures.value, c.graph-after.ensures.value) at c.is_paired_if_at.ensures) in (
      λ same. absurd (cc),
      λ pairs.
          let this = is.1 (changes-from_pairs g h c.graph-before.ensures.net.graph c.graph-after.ensures.net.graph c.graph-before.ensures.net.named c.graph-after.ensures.net.named c.requires.same (change_at c.args.links.now c.loop-n.n) (c.requires.links.each c.loop-n.n within) c.args.v.0 pairs) in
          let not = c.if-not-is_paired_if_at.true in
          cc,
    )

pub loop-n-preserved : goal.loop-n-preserved
loop-n-preserved c =
    let g : Graph = c.args.old.now.graph in
    let h : Graph = c.args.new.now.graph in
    let within : c.loop-n.n < length c.args.links.now = omega (arith, c.loop-n-test.true) in
    let here : c.index-links-n.result ≡ change_at c.args.links.now c.loop-n.n = c.index-links-n.is ∙ get_or_default c.args.links.now c.loop-n.n c.index-links-n.result no_change within in
    let is : IsTrue c.is_paired_if_at.result ↔ IsPairedIfAt g h (change_at c.args.links.now c.loop-n.n) c.args.v.0 =
    subst (λ (j : Change). IsTrue c.is_paired_if_at.result ↔ IsPairedIfAt g h j c.args.v.0) here (rw (c.graph-before.ensures.value, c.graph-after.ensures.value) at c.is_paired_if_at.ensures) in
    each-up (λ k. IsPairedIfAt g h (change_at c.args.links.now k) c.args.v.0) c.loop-n.n c.loop-n.invariant (is.0 (let not = c.if-not-is_paired_if_at.false in cc))

pub returns : goal.returns
returns c =
    let g : Graph = c.args.old.now.graph in
    let h : Graph = c.args.new.now.graph in
    let end : length c.args.links.now ≤ c.loop-n.n = omega (arith, c.loop-n-test.false) in (
      λ is. pairs-from_changes g h c.graph-before.ensures.net.graph c.graph-after.ensures.net.graph c.graph-before.ensures.net.named c.graph-after.ensures.net.named c.requires.same c.args.links.now c.requires.links c.args.v.0 (λ k lt. c.loop-n.invariant k (omega (arith, end))),
      λ pairs. cc,
    )
