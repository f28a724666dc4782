use Rattle.std.proofs.Common.{◌≡◌, false, arith, sym, ◌∙◌, subst}
use Rattle.sr_lanes.specs.Bits.{is_in}
use Rattle.sr_encode.specs.Search.{BeginsAt}
use Rattle.sr_encode.proofs.SceneLemmas.{begins-within, begins-one}
use Rattle.sr_lanes.proofs.SizeLemmas.{without-same}
use Rattle.sr_encode.proofs.QueueLemmas.{starting-skip, starting-still, starting-push}
use Rattle.sr_encode.proofs.met.Met.begin.Goals as goal

pub returns-in_default : goal.returns-in_default
returns-in_default c = record {
  start = starting-skip c.args.scene.now c.args.self.now.queue.items c.args.self.now.unmet c.args.first.0 c.requires.start
      (λ w begins. absurd (c.in_default.ensures.begin w begins));
}

pub remove-requires : goal.remove-requires
remove-requires c = omega (arith, begins-within c.args.scene.now c.args.first.0 c.in-Some.node.0 c.begin_over.ensures.after c.in-Some.ensures.begin, c.begin_over.ensures.after.graph.few_nodes)

pub returns-then-not-remove : goal.returns-then-not-remove
returns-then-not-remove c =
    let begins : BeginsAt c.args.scene.now c.args.first.0 c.in-Some.node.0 = c.in-Some.ensures.begin in
    let met : is_in c.args.self.now.unmet c.in-Some.node.0 ≡ false = sym c.remove.ensures.was ∙ c.if-not-remove.true in
    let still = starting-still c.args.scene.now c.args.self.now.queue.items c.args.self.now.unmet c.remove.new.self c.args.first.0 c.in-Some.node.0 c.requires.start c.remove.ensures.left met in
    let out : is_in c.remove.new.self c.in-Some.node.0 ≡ false = without-same c.args.self.now.unmet c.remove.new.self c.in-Some.node.0 c.remove.ensures.left in
    record {
      start = starting-skip c.args.scene.now c.args.self.now.queue.items c.remove.new.self c.args.first.0 still
          (λ w other. (
            begins-within c.args.scene.now c.args.first.0 w c.begin_over.ensures.after other,
            subst (λ k. is_in c.remove.new.self k ≡ false) (sym (begins-one c.args.scene.now c.args.first.0 c.in-Some.node.0 w begins other)) out,
          ));
    }

pub returns : goal.returns
returns c =
    let begins : BeginsAt c.args.scene.now c.args.first.0 c.in-Some.node.0 = c.in-Some.ensures.begin in
    record {
      start = rw c.in_ok-push.ensures.items (starting-push c.args.scene.now c.args.self.now.queue.items c.args.self.now.unmet c.remove.new.self c.args.first c.in-Some.node c.requires.start (begins-within c.args.scene.now c.args.first.0 c.in-Some.node.0 c.begin_over.ensures.after c.in-Some.ensures.begin)
          (sym c.remove.ensures.was ∙ c.if-not-remove.false) c.remove.ensures.left begins (sym begins.leads.0));
    }
