-- The segments and labels of a list, as they are appended.
use Rattle.std.proofs.Common.{◌≡◌, ℕ, ◌<◌, List, [], ◌∷◌, ◌++◌, refl, ap, sym, ◌∙◌, append_assoc, subst, reverse, length, arith}
use Rattle.std.specs.Prelude.{codes}
use Rattle.std.specs.List.{flat_map}
use Rattle.std.proofs.lemmas.List.{append-nil, reverse-reverse}
use Rattle.sr_model.specs.declared.repair.RepairList.{RepairList}
use Rattle.sr_model.specs.declared.repair.Answer.{Answer}
use Rattle.sr_model.specs.declared.repair.Segment.{Segment}
use Rattle.sr_model.specs.declared.repair.Answer.TheVariants.{Least, NoPath, NoList, TooDeep}
use Rattle.sr_model.specs.Forward.{Crossing, IsLabels}
use Rattle.sr_model.specs.Graph.{head}
use Rattle.sr_model.specs.Label.{Net}
use Rattle.sr_repair.proofs.StackLemmas.{last}
use Rattle.sr_encode.specs.Codes.{without_cost}
use Rattle.sr_print.specs.Answers.{PutsLabels, PutsStack, PutsAnswer, IsWayOf}
use Rattle.sr_print.specs.Links.{link_text, link_word}
use Rattle.sr_print.specs.Printed.{numbered}
use Rattle.sr_print.specs.Repairs.{label_word, labels_behind, labels_text, segment_word, segments_text, way_text}
use Rattle.sr_print.proofs.Appended.{two_pieces}
use Rattle.sr_print.proofs.Labelled.{labels-told}

-- no segment, and no label is left
pub bare-none : (n : Net) (d first : ℕ) (old new : List ℕ) → Crossing n d (head n.graph first) [] [] → new ≡ old ++ codes " none" → PutsStack n d first [] old new
bare-none n d first old new crossing is = record { labels = []; stack = crossing; text = is }

-- no segment, and a label is left
pub bare-some : (n : Net) (d first label wide : ℕ) (old new : List ℕ) → Crossing n d (head n.graph first) [] (label ∷ []) → wide ≡ label → new ≡ old ++ label_word wide → PutsStack n d first [] old new
bare-some n d first label wide old new crossing same is = record {
  labels = label ∷ [];
  stack = crossing;
  text = is
      ∙ ap (λ (w : ℕ). old ++ label_word w) same
      ∙ ap (λ (t : List ℕ). old ++ t) (sym (append-nil (label_word label)));
}

stacked-by : (n : Net) (d first : ℕ) (s : Segment) (ss : List Segment) (old new labels : List ℕ) → IsLabels n (head n.graph first) (s ∷ ss ++ last d ∷ []) labels → new ≡ old ++ flat_map label_word labels → PutsStack n d first (s ∷ ss) old new
stacked-by n d first s ss old new [] are c = absurd are
stacked-by n d first s ss old new (t ∷ ts) are c = record {
  labels = reverse (t ∷ ts);
  stack = subst (IsLabels n (head n.graph first) (s ∷ ss ++ last d ∷ [])) (sym (reverse-reverse (t ∷ ts))) are;
  text = c ∙ ap (λ (told : List ℕ). old ++ told) (sym (labels-told t ts));
}

-- the labels of segments and that of d
pub stacked : (n : Net) (d first : ℕ) (segments : List Segment) (old new : List ℕ) → 0 < length segments → PutsLabels n (head n.graph first) (segments ++ last d ∷ []) old new → PutsStack n d first segments old new
stacked n d first [] old new some puts = absurd {0} (omega arith)
stacked n d first (s ∷ ss) old new some puts = stacked-by n d first s ss old new puts.labels puts.are puts.text

-- a list with no segment as far as its labels
pub bare-way : (n : Net) (first : ℕ) (segments : List Segment) (old one two new : List ℕ) → length segments ≡ 0 → one ≡ old ++ codes " via " → two ≡ one ++ link_text n first → new ≡ two ++ codes " segments none labels" → new ≡ old ++ way_text n first segments
unfolding link_word
bare-way n first [] old one two new none a b c =
    let via = codes " via " ++ link_text n first in
    two_pieces old two new via (codes " segments none labels") (two_pieces old one two (codes " via ") (link_text n first) a b) c
    ∙ ap (λ (t : List ℕ). old ++ t) (sym (append_assoc via (codes " segments none") (codes " labels")))
bare-way n first (s ∷ ss) old one two new none a b c = absurd (omega arith)

-- a list with segments as far as its labels
pub steered-way : (n : Net) (first : ℕ) (segments : List Segment) (old one two three four new : List ℕ) → 0 < length segments → one ≡ old ++ codes " via " → two ≡ one ++ link_text n first → three ≡ two ++ codes " segments" → four ≡ three ++ flat_map (segment_word n) segments → new ≡ four ++ codes " labels" → new ≡ old ++ way_text n first segments
unfolding link_word
steered-way n first [] old one two three four new some a b c d e = absurd (omega arith)
steered-way n first (s ∷ ss) old one two three four new some a b c d e =
    let via = codes " via " ++ link_text n first in
    let words = flat_map (segment_word n) (s ∷ ss) in
    let segments : four ≡ two ++ (codes " segments" ++ words) = two_pieces two three four (codes " segments") words c d in
    two_pieces old four new (via ++ (codes " segments" ++ words)) (codes " labels")
    (two_pieces old two four via (codes " segments" ++ words) (two_pieces old one two (codes " via ") (link_text n first) a b) segments) e

-- a list as far as its labels is that of its answer
pub way-of : (n : Net) (answer : Answer) (list : RepairList) (text : List ℕ) → answer ≡ Least list → text ≡ way_text n list.first.0 list.segments → IsWayOf n answer text
way-of n answer list text is same other eq =
    let without : Least (record { first = list.first; segments = list.segments; cost = 0 }) ≡ Least other = sym (ap (λ (a : Answer). without_cost a) is) ∙ eq in
    let lists : record { first = list.first; segments = list.segments; cost = 0 } ≡ other = cc in
    same ∙ ap (λ (l : RepairList). way_text n l.first.0 l.segments) lists

told : (labels : List ℕ) → codes " labels" ++ labels_behind labels ≡ labels_text labels
told [] = refl
told (label ∷ more) = refl

-- a list by its text, its labels, and its cost
pub list-put : (n : Net) (d : ℕ) (list : RepairList) (text old two three new : List ℕ) → IsWayOf n (Least list) text → two ≡ old ++ text → PutsStack n d list.first.0 list.segments two three → new ≡ three ++ numbered (codes " cost ") list.cost → PutsAnswer n d (Least list) old new
list-put n d list text old two three new is a puts c =
    let body = codes " via" ++ link_word n list.first.0 ++ segments_text n list.segments in
    let way : two ≡ old ++ (body ++ codes " labels") = a ∙ ap (λ (t : List ℕ). old ++ t) (is (record { first = list.first; segments = list.segments; cost = 0 }) refl) in
    let joined : (body ++ codes " labels") ++ labels_behind puts.labels ≡ body ++ labels_text puts.labels = append_assoc body (codes " labels") (labels_behind puts.labels) ∙ ap (λ (t : List ℕ). body ++ t) (told puts.labels) in
    let so_far : three ≡ old ++ (body ++ labels_text puts.labels) = two_pieces old two three (body ++ codes " labels") (labels_behind puts.labels) way puts.text ∙ ap (λ (t : List ℕ). old ++ t) joined in
    record {
      labels = puts.labels;
      are = puts.stack;
      text = two_pieces old three new (body ++ labels_text puts.labels) (numbered (codes " cost ") list.cost) so_far c;
    }

-- an answer that isn't a list has no such text
pub no-way : (n : Net) (answer : Answer) (text : List ℕ) → ((list : RepairList) → answer ≡ Least list → ⊥) → IsWayOf n answer text
no-way n (Least list) text not other eq = absurd (not list refl)
no-way n NoPath text not other eq = absurd (cc)
no-way n NoList text not other eq = absurd (cc)
no-way n (TooDeep needed) text not other eq = absurd (cc)

-- answers of one code have one text
pub same-way : (n : Net) (one two : Answer) (text : List ℕ) → without_cost one ≡ without_cost two → IsWayOf n one text → IsWayOf n two text
same-way n one two text same way = λ list eq. way list (same ∙ eq)
