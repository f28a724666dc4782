use Rattle.std.proofs.Common.{◌++◌, ◌∷◌, [], ap, ◌∙◌}
use Rattle.sr_watch.proofs.watch.hold.Goals as goal

pub returns : goal.returns
returns g c = record {
  none = c.new-2.ensures.items;
  plan = c.set_one_apart.result;
  one = c.push_reserved.ensures.items ∙ ap (λ w. w ++ c.set_one_apart.result ∷ []) c.in-Ok.ensures.items;
  is = c.set_one_apart.ensures;
}
