use Rattle.std.proofs.Common.{◌≡◌, ℕ, ◌+◌, ◌<◌, List, [], ◌∷◌, ◌++◌, take, ap, sym, ◌∙◌, subst, Some}
use Rattle.std.specs.List.{flat_map}
use Rattle.std.specs.Prelude.{slice_get}
use Rattle.std.proofs.lemmas.List.{flat_map_more, take_more}
use Rattle.std.proofs.lemmas.Option.{slice_get_within, get_or_from_slice_get}
use Rattle.sr_model.specs.declared.link.LinkNo.{LinkNo}
use Rattle.sr_model.specs.declared.entry.Out.{Out}
use Rattle.sr_model.specs.Graph.{link_count}
use Rattle.sr_model.specs.Label.{Net}
use Rattle.sr_print.specs.Forwarding.{AreHopLinks, hop_text}
use Rattle.sr_print.proofs.Appended.{begins-longer, on_err}
use Rattle.sr_print.proofs.forwarding.put_hops.Goals as goal

-- a hop crosses a link
hop-link : (n : Net) (hops : List (LinkNo × Out)) (i : ℕ) (hop : LinkNo × Out) → AreHopLinks n.graph hops → slice_get hops i ≡ Some hop → hop.0.0 < link_count n.graph
hop-link n hops i hop are is = subst (λ (h : LinkNo × Out). h.0.0 < link_count n.graph) (get_or_from_slice_get hops i hop hop is) (are i hop (slice_get_within hops i hop is))

-- one hop more is written
hop-more : (n : Net) (hops : List (LinkNo × Out)) (i : ℕ) (hop : LinkNo × Out) (old one two : List ℕ) → slice_get hops i ≡ Some hop → one ≡ old ++ flat_map (hop_text n) (take i hops) → two ≡ one ++ hop_text n hop → two ≡ old ++ flat_map (hop_text n) (take (i + 1) hops)
hop-more n hops i hop old one two is before more =
    let taken : take (i + 1) hops ≡ take i hops ++ hop ∷ [] = take_more hops i hop (slice_get_within hops i hop is) ∙ ap (λ h. take i hops ++ h ∷ []) (get_or_from_slice_get hops i hop hop is) in
    more ∙ ap (λ xs. xs ++ hop_text n hop) before ∙ flat_map_more (hop_text n) old (take i hops) hop ∙ ap (λ hs. old ++ flat_map (hop_text n) hs) (sym taken)

pub put_hop-requires : goal.put_hop-requires
put_hop-requires c = hop-link c.args.net.now c.args.hops.now c.loop-place.place c.get-action.result c.requires c.get-action.ensures

pub loop-place-preserved : goal.loop-place-preserved
loop-place-preserved c = hop-more c.args.net.now c.args.hops.now c.loop-place.place c.get-action.result c.args.out.now.items c.loop-place.out.items c.put_hop.new.out.items c.get-action.ensures c.loop-place.invariant c.in_ok-put_hop.ensures.line

pub returns-in_err-put_hop-clause-err : goal.returns-in_err-put_hop-clause-err
returns-in_err-put_hop-clause-err c = on_err c.from_residual.result (begins-longer _ _ _ _ c.loop-place.invariant c.in_err-put_hop.ensures.err)
