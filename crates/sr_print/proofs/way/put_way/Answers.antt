use Rattle.std.proofs.Common.{◌≡◌, ◌<◌, ◌++◌, ◌∙◌, ap, arith, List, ℕ, length}
use Rattle.std.specs.Prelude.{codes}
use Rattle.std.specs.List.{flat_map}
use Rattle.std.proofs.lemmas.Bool.Decides.{nat_tests}
use Rattle.std.proofs.lemmas.Result.{on_ok_weaker}
use Rattle.sr_print.specs.Links.{link_text}
use Rattle.sr_print.specs.Repairs.{segment_word}
use Rattle.sr_print.proofs.Appended.{on_ok}
use Rattle.sr_print.proofs.Labelled.{labels-within}
use Rattle.sr_print.proofs.Routes.{bare-way, steered-way}
use Rattle.sr_print.proofs.Texts.{segments-named}
use Rattle.sr_print.proofs.way.put_way.Goals as goal

pub returns-then-is_empty : goal.returns-then-is_empty
returns-then-is_empty c =
    let n = c.args.net.now in
    let first = c.args.first.0 in
    let one = c.extend_from_slice.new.self.items in
    let two = c.extend_from_slice-2.new.self.items in
    let new = c.extend_from_slice-then-is_empty.new.self.items in
    let none : length c.args.segments.now ≡ 0 = grind (arith, nat_tests) in
    let name : c.link.result.now ≡ link_text n first = c.link.ensures ∙ c.requires.names.links.each first c.requires.first in
    let second : two ≡ one ++ link_text n first = c.in_ok-extend_from_slice-2.ensures.items ∙ ap (λ (t : List ℕ). one ++ t) name in
    on_ok_weaker c.extend_from_slice-then-is_empty.result
    (λ is. bare-way n first c.args.segments.now c.args.out.now.items one two new none c.in_ok-extend_from_slice.ensures.items second is)
    (on_ok c.extend_from_slice-then-is_empty.result two new (codes " segments none labels") c.extend_from_slice-then-is_empty.ensures.items)

pub returns : goal.returns
returns c =
    let n = c.args.net.now in
    let first = c.args.first.0 in
    let segments = c.args.segments.now in
    let one = c.extend_from_slice.new.self.items in
    let two = c.extend_from_slice-2.new.self.items in
    let three = c.extend_from_slice-3.new.self.items in
    let four = c.put_each_named.new.out.items in
    let new = c.extend_from_slice-4.new.self.items in
    let some : 0 < length segments = grind (arith, nat_tests) in
    let name : c.link.result.now ≡ link_text n first = c.link.ensures ∙ c.requires.names.links.each first c.requires.first in
    let second : two ≡ one ++ link_text n first = c.in_ok-extend_from_slice-2.ensures.items ∙ ap (λ (t : List ℕ). one ++ t) name in
    let words : four ≡ three ++ flat_map (segment_word n) segments = c.in_ok-put_each_named.ensures.line ∙ ap (λ (t : List ℕ). three ++ t) (segments-named n c.args.names.now c.requires.names segments (labels-within n segments c.requires.segments)) in
    on_ok_weaker c.extend_from_slice-4.result
    (λ is. steered-way n first segments c.args.out.now.items one two three four new some c.in_ok-extend_from_slice.ensures.items second c.in_ok-extend_from_slice-3.ensures.items words is)
    (on_ok c.extend_from_slice-4.result four new (codes " labels") c.extend_from_slice-4.ensures.items)
