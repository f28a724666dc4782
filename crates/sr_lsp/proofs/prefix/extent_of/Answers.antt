use Rattle.std.proofs.Common.{◌+◌, refl, arith}
use Rattle.sr_lsp.proofs.PrefixLaws.{bare_extent, full_extent, no_prefix, no_sub_tlvs}
use Rattle.sr_lsp.proofs.prefix.extent_of.Goals as goal

pub returns-then-value-at-lt-OCTETS_BEFORE_PREFIX-clause-none : goal.returns-then-value-at-lt-OCTETS_BEFORE_PREFIX-clause-none
returns-then-value-at-lt-OCTETS_BEFORE_PREFIX-clause-none c = no_prefix c.args.value.now c.args.at _ refl (omega arith)

pub returns-then-value-prefix_end-clause-none : goal.returns-then-value-prefix_end-clause-none
returns-then-value-prefix_end-clause-none c = no_prefix c.args.value.now c.args.at (c.args.at + 5 + c.octets_of.result) (omega arith) c.if-value-prefix_end.true

pub returns-then-value-at-eq0-clause-extent : goal.returns-then-value-at-eq0-clause-extent
returns-then-value-at-eq0-clause-extent c =
    bare_extent c.args.value.now c.args.at (c.args.at + 5 + c.octets_of.result) (λ k. omega (arith, c.type_inv.value k)) (omega arith) c.if-value-prefix_end.false c.if-value-at-eq0.true

pub returns-then-value-prefix_end-2-clause-none : goal.returns-then-value-prefix_end-2-clause-none
returns-then-value-prefix_end-2-clause-none c =
    no_sub_tlvs c.args.value.now c.args.at (c.args.at + 5 + c.octets_of.result) (omega arith) c.if-value-at-eq0.false (omega arith)

pub returns-then-value-end-clause-none : goal.returns-then-value-end-clause-none
returns-then-value-end-clause-none c =
    no_sub_tlvs c.args.value.now c.args.at (c.args.at + 5 + c.octets_of.result) (omega arith) c.if-value-at-eq0.false (omega (arith, c.from.ensures))

pub returns-clause-extent : goal.returns-clause-extent
returns-clause-extent c =
    full_extent c.args.value.now c.args.at (c.args.at + 5 + c.octets_of.result) c.from.result (λ k. omega (arith, c.type_inv.value k)) (omega arith) c.from.ensures (omega arith) c.if-value-at-eq0.false
