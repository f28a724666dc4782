-- the octets so far are 0
use Rattle.std.proofs.Common.{All, take, ◌≡◌}
use Rattle.sr_lsp.proofs.prefix.is_zero_past.Given as goal

abbrev pub invariant-loop-octet : goal.invariant-loop-octet
invariant-loop-octet l = All (λ octet. octet ≡ 0) (take l.octet-index l.octet-items)
