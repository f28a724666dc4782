-- The accepted facts beside the draft of the staged edits.
use Rattle.std.specs.Prelude.{◌≡◌, Bool, true, false, Result, OnOk, OnErr}
use Rattle.std.specs.BTreeMap.{insert_entry}
use Rattle.sr_lsp.specs.declared.lsp.LspId.{LspId}
use Rattle.sr_lsdb.specs.declared.facts.Facts.{Facts}
use Rattle.sr_lsdb.specs.declared.facts.Stored.{Stored}
use Rattle.sr_lsdb.specs.declared.sides.Sides.{Sides}
use Rattle.sr_lsdb.specs.Order.{id_cmp}
use Rattle.sr_lsdb.specs.Touched.{Agree}

-- the latest facts: the accepted ones where nothing is staged, else the draft
abbrev pub latest : Bool → Sides → Facts
latest true sides = sides.front
latest false sides = sides.back

-- the facts with this stored under an id
abbrev pub with_stored : LspId → Stored → Facts → Facts
with_stored id stored facts = record {
  database = insert_entry id_cmp facts.database id stored;
  costs = facts.costs;
  downs = facts.downs;
  depth = facts.depth;
}

-- the two sides agree beyond what is noted as touched
abbrev pub IsNoted : Sides → Type 0
IsNoted sides = Agree sides.touched.items sides.front sides.back

-- the draft is now these facts, or memory ran out and the latest facts stayed; the accepted facts stay, and what
-- differs is noted
pub record Drafts {E : Type 0} (idle : Bool) (facts : Facts) (old new : Sides)
    (result : Result (Unit {0}) E) : Type 0 where
  pub accepted : new.front ≡ old.front
  pub noted : IsNoted new
  pub ok : OnOk result (new.back ≡ facts)
  pub err : OnErr result (latest idle new ≡ latest idle old)
