use Rattle.sr_model.proofs.KeyOrderLemmas.{KeyLt-from_cmp, key_cmp-lt}
use Rattle.sr_laws.proofs.Places.{key-told}
use Rattle.sr_laws.proofs.keys_are_ordered.Goals as goal

pub returns : goal.returns
returns c = record { order = λ a b. (KeyLt-from_cmp a b, key_cmp-lt a b); told = key-told }
