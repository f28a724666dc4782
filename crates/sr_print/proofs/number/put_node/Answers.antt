use Rattle.std.proofs.Common.{◌≡◌, ◌++◌, ◌∷◌, [], List, ℕ, OnOk, subst, append_assoc}
use Rattle.sr_model.specs.SystemText.{system_text}
use Rattle.sr_print.specs.Printed.{node_word}
use Rattle.sr_print.proofs.number.put_node.Goals as goal

pub returns-clause-line : goal.returns-clause-line
unfolding node_word
returns-clause-line c = subst (λ (items : List ℕ). OnOk c.put.result (c.put.new.out.items ≡ items)) (append_assoc c.args.out.now.items (32 ∷ []) (system_text c.args.node)) (subst (λ (items : List ℕ). OnOk c.put.result (c.put.new.out.items ≡ items ++ system_text c.args.node)) c.in_ok-push.ensures.items c.put.ensures.ok)
