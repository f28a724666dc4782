use Rattle.std.proofs.Common.{All, List, sym, subst, rules}
use Rattle.std.specs.BTreeMap.{is_at}
use Rattle.sr_lsp.specs.declared.lsp.LspId.{LspId}
use Rattle.sr_lsdb.specs.declared.facts.Stored.{Stored}
use Rattle.sr_lsdb.specs.Facts.{StandsUnderItsId}
use Rattle.sr_lsdb.specs.Order.{id_cmp}
use Rattle.sr_lsdb.proofs.RangeLemmas.{All-remove_entry, stands-found}
use Rattle.sr_lsdb.proofs.tables.Database.take_over.Goals as goal

pub insert-requires : goal.insert-requires
insert-requires c = stands-found c.args.id.now c.in_ok-shared-in-Some.shared c.args.source.now c.as_map.ensures.ids (search rules)

pub invariant_of-self : goal.invariant_of-self
invariant_of-self c =
    subst (λ (es : List (LspId × Stored)). All StandsUnderItsId es) (sym c.remove.ensures.entries)
    (All-remove_entry StandsUnderItsId (is_at (id_cmp c.args.id.now)) c.self.inside.entries.entries c.self.invariant)
