use Rattle.std.proofs.Common.{◌≡◌, ◌++◌, ℕ, ap, ◌∙◌}
use Rattle.std.specs.Prelude.{decimal}
use Rattle.std.proofs.lemmas.Result.{on_ok_weaker}
use Rattle.sr_model.specs.declared.link.Link.{Link}
use Rattle.sr_model.specs.declared.name.LinkKey.{LinkKey}
use Rattle.sr_model.specs.Case.{key_at}
use Rattle.sr_model.specs.Graph.{Graph}
use Rattle.sr_print.specs.Links.{end_words, named_link, link_place}
use Rattle.sr_print.specs.Printed.{word}
use Rattle.sr_print.proofs.Appended.{two_pieces}
use Rattle.sr_print.proofs.Places.{place_is}
use Rattle.sr_print.proofs.link.put_link_name.Goals as goal

pub returns-clause-line : goal.returns-clause-line
unfolding named_link
returns-clause-line c =
    let net = c.args.net.now in
    let old = c.args.out.now.items in
    let l = c.args.link.0 in
    let key : c.link-key.result.key ≡ key_at net.graph l = ap (λ (k : Link). k.key) c.link-key.ensures.link ∙ ap (λ (g : Graph). key_at g l) c.graph.ensures.value in
    let place : c.place.result ≡ link_place net l = place_is net l c.place.result c.graph.ensures.accepted c.requires c.place.ensures in
    on_ok_weaker c.put_value.result
    (λ last. two_pieces old c.put_end_words.new.out.items c.put_value.new.out.items (end_words c.link-key.result.key) (word (decimal c.place.result)) c.in_ok-put_end_words.ensures.line last
    ∙ ap (λ (k : LinkKey). old ++ (end_words k ++ word (decimal c.place.result))) key
    ∙ ap (λ (p : ℕ). old ++ (end_words (key_at net.graph l) ++ word (decimal p))) place)
    c.put_value.ensures.line
