-- The order of link keys as the program tests it.
use Rattle.std.specs.Prelude.{Bool}
use Rattle.std.specs.declared.cmp.Ordering.{Ordering}
use Rattle.std.specs.Ordering.{eq_by_cmp}
use Rattle.sr_model.specs.declared.name.LinkKey.{LinkKey}
use Rattle.sr_model.specs.contracts.name.LinkKeyOrd.TheImpl as link_key

-- what `cmp` of two keys answers
abbrev pub key_cmp : LinkKey → LinkKey → Ordering
key_cmp = link_key.cmp-value.it

-- the test of two equal keys
abbrev pub same_key : LinkKey → LinkKey → Bool
same_key = eq_by_cmp key_cmp
