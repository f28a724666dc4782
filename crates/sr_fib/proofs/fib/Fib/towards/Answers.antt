use Rattle.std.proofs.Common.{◌≡◌, ◌≢◌, ◌∙◌, List, length, ap, sym, subst, arith, eqb-true}
use Rattle.std.proofs.lemmas.Bool.{eqb-false}
use Rattle.std.proofs.lemmas.List.{length-map}
use Rattle.sr_model.specs.declared.link.LinkNo.{LinkNo}
use Rattle.sr_model.specs.declared.entry.Out.{Out}
use Rattle.sr_model.specs.Label.{Net, IsLabel}
use Rattle.sr_model.specs.Table.{AreHops, HasNoStep}
use Rattle.sr_fib.specs.Outs.{IsIndexed, hop_over}
use Rattle.sr_fib.proofs.LookLemmas.{no_hop-no_step}
use Rattle.sr_fib.proofs.OutLemmas.{links-inside, hops-are}
use Rattle.sr_fib.proofs.fib.Fib.towards.Goals as goal

pub new-requires-clause-links : goal.new-requires-clause-links
new-requires-clause-links c = links-inside c.self.inside.net.now c.args.node.0 c.args.end.node.0 c.next_hops-links.result.now (c.next_hops-links.ensures.hops c.self.inside.net.now.graph c.self.invariant.trees)

pub returns-then-is_empty : goal.returns-then-is_empty
returns-then-is_empty c label is =
    let none : length c.next_hops-links.result.now ≡ 0 = eqb-true (length c.next_hops-links.result.now) 0 (sym c.is_empty.ensures ∙ c.if-is_empty.true) in
    let are = c.next_hops-links.ensures.hops c.self.inside.net.now.graph c.self.invariant.trees in
    let P : Net → Type 0 = λ n. IsLabel n c.args.node.0 c.args.end.node.0 label → HasNoStep n c.args.node.0 label in
    subst P c.self.view_is (λ here. no_hop-no_step c.self.inside.net.now c.self.invariant.net c.args.node.0 c.args.end.node.0 label c.next_hops-links.result.now here c.if-end-node.false are none) is

pub returns-else-is_empty : goal.returns-else-is_empty
returns-else-is_empty c label is =
    let some : length c.next_hops-links.result.now ≢ 0 = eqb-false (length c.next_hops-links.result.now) 0 (sym c.is_empty.ensures ∙ c.if-is_empty.false) in
    let are = c.next_hops-links.ensures.hops c.self.inside.net.now.graph c.self.invariant.trees in
    let long : length c.new.result ≡ length c.next_hops-links.result.now = ap length c.new.ensures ∙ length-map c.next_hops-links.result.now (hop_over c.self.inside.net.now c.args.end.node.0) in
    let Q : List (LinkNo × Out) → Type 0 = λ hops. AreHops c.self.inside.net.now c.args.node.0 c.args.end.node.0 hops in
    let P : Net → Type 0 = λ n. AreHops n c.args.node.0 c.args.end.node.0 c.new.result in
    let E : Net → Type 0 = λ n. IsIndexed n c.args.end in
    let indexed : IsIndexed c.self.inside.net.now c.args.end = subst E (sym c.self.view_is) c.requires.end in (
      is,
      c.if-end-node.false,
      subst P c.self.view_is (subst Q (sym c.new.ensures) (hops-are c.self.inside.net.now c.self.invariant.net c.args.node.0 c.args.end c.next_hops-links.result.now indexed are)),
      omega arith,
    )
