use Rattle.std.proofs.Common.{◌≡◌, ◌∙◌, ap, ap₂, codes, true}
use Rattle.std.proofs.lemmas.Result.{IfOk-weaker}
use Rattle.clap.specs.Simple.{App, Shape, app_of, app_of_fields, new_app, on_top, with_rule}
use Rattle.sr_words.proofs.making.make_command.Goals as goal

pub returns : goal.returns
returns c =
    let bare = λ (a : App). on_top (λ (s : Shape). record s { no_binary_name = true }) a in
    let plain = λ (a : App). on_top (λ (s : Shape). record s { disable_help_flag = true }) a in
    let bare_is : app_of c.no_binary_name.result ≡ bare (new_app (codes "make")) = ap app_of_fields c.no_binary_name.ensures ∙ ap bare c.new.ensures.app in
    let plain_is : app_of c.disable_help_flag.result ≡ plain (bare (new_app (codes "make"))) = ap app_of_fields c.disable_help_flag.ensures ∙ ap plain bare_is in
    let one_is = c.in_ok-arg.ensures.shape c.number_option.ensures.local ∙ ap₂ with_rule plain_is c.number_option.ensures.rule in
    IfOk-weaker c.arg-2.result _ _ (λ command h. h.shape c.number_option-2.ensures.local ∙ ap₂ with_rule one_is c.number_option-2.ensures.rule) c.arg-2.ensures
