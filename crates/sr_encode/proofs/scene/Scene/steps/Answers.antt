use Rattle.std.proofs.Common.{◌≡◌, ◌↔◌, ◌≢◌, ℕ, true, subst}
use Rattle.std.specs.Prelude.{is_some}
use Rattle.sr_lanes.specs.Bits.{is_in}
use Rattle.sr_model.specs.Label.{labels_at}
use Rattle.sr_encode.specs.Aftermath.{Aftermath}
use Rattle.sr_encode.proofs.SceneLemmas.{are-others, steps-told}
use Rattle.sr_encode.proofs.scene.Scene.steps.Goals.{After-without-others}
use Rattle.sr_encode.proofs.scene.Scene.steps.Goals as goal

-- the others are those with an index beside the waypoint
others : (c : After-without-others) (v : ℕ) → (is_in c.without-others.result v ≡ true) ↔ ((is_in c.args.among v ≡ true) × (is_some (labels_at c.args.self.now.net v).index ≡ true) × (v ≢ c.args.w.0))
others c v =
    subst (λ (a : Aftermath). (is_in c.without-others.result v ≡ true) ↔ ((is_in c.args.among v ≡ true) × (is_some (labels_at a.net v).index ≡ true) × (v ≢ c.args.w.0))) c.self.view_is
    (are-others c.self.inside.net.now v c.args.w.0 c.args.among c.indexed.result c.and.result c.without-others.result (c.indexed.ensures v) (c.and.ensures v) (c.without-others.ensures v))

pub fits-requires-clause-among : goal.fits-requires-clause-among
fits-requires-clause-among c = λ v one. c.requires.among v ((others (goal.at.fits-requires-clause-among c).After-without-others v).0 one).0

pub those_in_p-requires-clause-tight : goal.those_in_p-requires-clause-tight
those_in_p-requires-clause-tight c = λ v one. (c.requires.among v ((others (goal.at.those_in_p-requires-clause-tight c).After-without-others v).0 (c.fits.ensures.sums.inside v one)).0, c.fits.ensures.sums.sums v one)

pub returns-clause-these : goal.returns-clause-these
returns-clause-these c =
    λ v. steps-told c.args.self.now c.args.w.0 v c.args.among c.without-others.result c.fits.result c.those_in_p.result c.requires.among c.requires.clear (others (goal.at.returns-clause-these c).After-without-others v) c.fits.ensures.sums (c.those_in_p.ensures v)
