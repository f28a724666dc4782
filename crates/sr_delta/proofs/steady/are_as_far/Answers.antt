use Rattle.std.proofs.Common.{◌≡◌, length, inl, refl, sym, ◌∙◌, ⊎_elim, true}
use Rattle.std.proofs.lemmas.Bool.{true≢false}
use Rattle.std.proofs.lemmas.Option.{slice_get_read}
use Rattle.sr_lanes.specs.Bits.{is_in}
use Rattle.sr_lanes.proofs.SizeLemmas.{size-less}
use Rattle.sr_delta.proofs.SteadyLemmas.{far-passed}
use Rattle.sr_delta.proofs.steady.are_as_far.Goals as goal

pub left-init : goal.left-init
left-init c = (λ u is. is, λ u set is there. inl is)

pub bounds-moved-u : goal.bounds-moved-u
bounds-moved-u c = c.requires.inside c.in-Some.u (c.left.invariant.0 c.in-Some.u c.in-Some.ensures.first.member)

pub left-smaller : goal.left-smaller
left-smaller c = size-less c.left.left c.take_first.new.self c.in-Some.u c.in-Some.ensures.first c.in-Some.ensures.left

pub left-preserved : goal.left-preserved
left-preserved c =
    far-passed c.args.moved.now c.args.nodes c.left.left c.take_first.new.self c.index-moved-u.result c.in-Some.u c.args.to.0
    c.left.invariant.0 c.left.invariant.1 c.in-Some.ensures.left
    (slice_get_read c.args.moved.now (length c.args.moved.now) c.in-Some.u c.index-moved-u.result refl (c.requires.inside c.in-Some.u (c.left.invariant.0 c.in-Some.u c.in-Some.ensures.first.member)) c.index-moved-u.is)
    (sym c.has.ensures ∙ c.if-has.false)

pub returns : goal.returns
returns c = (
  λ yes' u set is there. ⊎_elim
      (λ (here : is_in c.left.left u ≡ true). absurd (true≢false (sym here ∙ c.in_default.ensures.first u)))
      (λ off. off)
      (c.left.invariant.1 u set is there),
  λ all. refl,
)
