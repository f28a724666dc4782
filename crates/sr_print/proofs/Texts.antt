-- Names that are kept as texts.
use Rattle.std.proofs.Common.{◌≡◌, List, [], ◌∷◌, ◌++◌, refl, ap, ◌∙◌, arith}
use Rattle.std.specs.Prelude.{All, codes, slice_index_or}
use Rattle.std.specs.List.{flat_map}
use Rattle.std.proofs.lemmas.List.Elements.{All-head, All-tail}
use Rattle.sr_model.specs.declared.repair.Segment.{Segment}
use Rattle.sr_model.specs.declared.repair.Segment.TheVariants.{Node, Adj}
use Rattle.sr_model.specs.Label.{Net}
use Rattle.sr_print.specs.Names.{Texts, AreNames, HasText, named_segment}
use Rattle.sr_print.specs.Repairs.{IsSegment, AreSegments, segment_word}

-- a segment that is kept is spelled by its word
pub segment-named : (n : Net) (names : Texts) → AreNames n names → (segment : Segment) → IsSegment n.graph segment → named_segment names segment ≡ segment_word n segment
unfolding segment_word
segment-named n names are (Node v) within = ap (λ t. codes " node:" ++ t) (are.nodes.each v.0 within)
segment-named n names are (Adj l) within = ap (λ t. codes " adj:" ++ t) (are.links.each l.0 within)

pub segments-named : (n : Net) (names : Texts) → AreNames n names → (segments : List Segment) → AreSegments n.graph segments → flat_map (named_segment names) segments ≡ flat_map (segment_word n) segments
segments-named n names are [] within = refl
segments-named n names are (s ∷ ss) within =
    ap (λ t. t ++ flat_map (named_segment names) ss) (segment-named n names are s (All-head (IsSegment n.graph) s ss within))
    ∙ ap (λ t. segment_word n s ++ t) (segments-named n names are ss (All-tail (IsSegment n.graph) s ss within))

has-text : (n : Net) (names : Texts) → AreNames n names → (segment : Segment) → IsSegment n.graph segment → HasText names segment
has-text n names are (Node v) within = omega (arith, are.nodes.long)
has-text n names are (Adj l) within = omega (arith, are.links.long)

pub have-texts : (n : Net) (names : Texts) → AreNames n names → (segments : List Segment) → AreSegments n.graph segments → All (HasText names) segments
have-texts n names are segments within = λ k d lt. has-text n names are (slice_index_or segments k d) (within k d lt)
