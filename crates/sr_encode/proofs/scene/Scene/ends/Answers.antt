use Rattle.std.proofs.Common.{◌≡◌, ◌&&◌, true, false, ap, sym, ◌∙◌, subst}
use Rattle.sr_lanes.specs.Bits.{is_in}
use Rattle.sr_model.specs.Graph.{is_overloaded}
use Rattle.sr_walks.proofs.Walks.{carries-clear}
use Rattle.sr_encode.specs.Aftermath.{Aftermath}
use Rattle.sr_encode.proofs.SceneLemmas.{ends-told, ends-alone}
use Rattle.sr_encode.proofs.scene.Scene.ends.Goals as goal

pub those_in_p-ends-requires-clause-tight : goal.those_in_p-ends-requires-clause-tight
those_in_p-ends-requires-clause-tight c = λ v one. (c.requires.among v (c.fits.ensures.sums.inside v one), c.fits.ensures.sums.sums v one)

pub returns-then-overloaded-clause-these : goal.returns-then-overloaded-clause-these
returns-then-overloaded-clause-these c =
    let over : is_overloaded c.args.self.now.net.graph c.args.w.0 ≡ true = subst (λ (b : Aftermath). is_overloaded b.net.graph c.args.w.0 ≡ true) c.self.view_is (ap (λ g. is_overloaded g c.args.w.0) (sym c.graph.ensures.value) ∙ sym c.overloaded.ensures ∙ c.if-overloaded.true) in
    λ d. ends-alone c.args.self.now c.args.w.0 d c.args.among c.fits.result c.those_in_p-ends.result c.and.result c.requires.among c.fits.ensures.sums (c.those_in_p-ends.ensures d) over
    (c.and.ensures d ∙ ap (λ b. is_in c.those_in_p-ends.result d && b) (c.alone.ensures d))

pub returns-clause-these : goal.returns-clause-these
returns-clause-these c =
    let clear : is_overloaded c.args.self.now.net.graph c.args.w.0 ≡ false = subst (λ (b : Aftermath). is_overloaded b.net.graph c.args.w.0 ≡ false) c.self.view_is (ap (λ g. is_overloaded g c.args.w.0) (sym c.graph.ensures.value) ∙ sym c.overloaded.ensures ∙ c.if-overloaded.false) in
    λ d. ends-told c.args.self.now c.args.w.0 d c.args.among c.fits.result c.those_in_p-ends.result c.requires.among c.fits.ensures.sums (c.those_in_p-ends.ensures d) (carries-clear c.args.self.now.net.graph d c.args.w.0 clear)
