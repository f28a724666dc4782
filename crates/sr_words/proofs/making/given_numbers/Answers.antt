use Rattle.std.proofs.Common.{◌≡◌, ◌∙◌, ap, subst, [], map, string_bytes}
use Rattle.clap.specs.Faults.{fault_of, is_simple_and_free}
use Rattle.clap.specs.Simple.{App, is_simple, matches_of}
use Rattle.sr_words.proofs.MakingLemmas.{given}
use Rattle.sr_words.proofs.making.given_numbers.Goals as goal

pub returns-in-Ok : goal.returns-in-Ok
returns-in-Ok c =
    let words = map (λ word. string_bytes word) c.args.words.now in
    let found = (c.in-Ok.ensures.matches (ap is_simple c.in_ok-command.ensures)).0 ∙ ap (λ (a : App). matches_of a words) c.in_ok-command.ensures in
    let fine = subst (λ (a : App). fault_of a words ≡ []) c.in_ok-command.ensures (c.in-Ok.ensures.kinds (ap is_simple_and_free c.in_ok-command.ensures)) in
    given words _ found fine c.shown_numbers.result c.shown_numbers.ensures
