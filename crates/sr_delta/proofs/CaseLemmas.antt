-- A case stays exactly where all that is asked of it holds.
use Rattle.std.proofs.Common.{◌≡◌, ℕ, ◌<◌, ⊎_elim, Bool, List, true, false, length, ap, sym, ◌∙◌, subst}
use Rattle.std.specs.Prelude.{◌&&◌, not}
use Rattle.std.proofs.lemmas.Bool.{and_from, and_left, and_right, cases_Bool, true≢false}
use Rattle.sr_model.specs.declared.link.LinkNo.{LinkNo}
use Rattle.sr_model.specs.declared.case.Case.{Case}
use Rattle.sr_model.specs.declared.name.LinkKey.{LinkKey}
use Rattle.sr_model.specs.Graph.{IsNamed, IsLink, link_at, node_count}
use Rattle.sr_model.specs.Walk.{IsRow}
use Rattle.sr_model.specs.Case.{IsFailedSet, IsOnRepairWay, source_of}
use Rattle.sr_model.specs.Label.{Net}
use Rattle.sr_model.specs.Stay.{HaveSameName, HaveSamePairs, IsChanged, IsIdle, IsKeptCase, IsOfFailedPair, case_with}
use Rattle.sr_walks.proofs.Rows.{row-one}
use Rattle.sr_laws.proofs.Keys.{key-one}
use Rattle.sr_laws.proofs.Parts.{link_is}
use Rattle.sr_laws.proofs.Failures.{failed-one}
use Rattle.sr_post.specs.Post.{Remains, IsPost}
use Rattle.sr_lanes.specs.declared.words.NodeBits.{NodeBits}
use Rattle.sr_lanes.specs.Bits.{is_in}
use Rattle.sr_walks.proofs.Walks.{walk-within}
use Rattle.sr_delta.specs.declared.staying.Staying.{Staying}
use Rattle.sr_delta.specs.Stayers.{AreStaying}
use Rattle.sr_delta.specs.declared.change.Change.{Change}
use Rattle.sr_delta.specs.Idle.{AreIdleOrFailed}
use Rattle.sr_delta.specs.Changed.{IsChange, change_at}
use Rattle.sr_delta.specs.Changes.{Differences, AreChanges}
use Rattle.sr_delta.specs.Pairs.{HaveSameFailures}
use Rattle.sr_delta.specs.Cases.{Computed, IsComputed, IsKeptHere, AreWalksKept}
use Rattle.sr_delta.proofs.IdleLemmas.{idle-from_change, change-from_idle}
use Rattle.sr_delta.proofs.FailureLemmas.{failed-exists, same-from_failures, failures-from_same, failing-from_failed, failed-from_failing}

-- there is a distance for each node
pub cells-long : (c : Computed) → IsComputed c → length c.cells ≡ node_count c.net.graph
cells-long c is = let x = failed-exists c.net.graph c.case in (is.row x.0 x.1).long

-- all that is asked gives that the case stays
pub kept-from_parts : (c : Computed) (m : Net) (d : Differences) (link : LinkNo) → IsComputed c → AreChanges c.net m d → d.same ≡ true → HaveSameName c.net.graph m.graph c.case.link.0 link.0 → IsKeptHere c m d.links → HaveSameFailures c.net.graph c.case m.graph (case_with c.case link) → AreWalksKept c.net m c.case → IsKeptCase c.net m c.case
kept-from_parts c m d link is changes same name here failures walks =
    let x = failed-exists c.net.graph c.case in
    let y = failed-exists m.graph (case_with c.case link) in
    record {
      within = is.within;
      nodes = changes.nodes.0 same;
      link = link;
      protected = name;
      x = x.0;
      y = y.0;
      failed = x.1;
      failed' = y.1;
      pairs = same-from_failures c.net.graph c.case x.0 m.graph (case_with c.case link) y.0 x.1 y.1 failures;
      depth = here.depth;
      tree = here.tree;
      post = c.cells;
      row = is.row x.0 x.1;
      idle = λ key changed free.
          let at = (changes.links same).whole key changed changed in
          let a : Change = change_at d.links at.0 in
          let idle = here.idle at.0 at.1 (λ of. free (subst (λ j. IsOfFailedPair c.net.graph x.0 j) at.2 (failed-from_failing c.net.graph c.case x.0 a.key x.1 of))) in
          subst (λ j. IsIdle c.net.graph m.graph c.cells j) at.2 (idle-from_change c.net.graph m.graph changes.old.named changes.new.named c.cells a ((changes.links same).each at.0 at.1) idle);
      index = λ v lt out hop. here.index v lt (out, hop);
      way = λ w lt on. walks x.0 x.1 w lt on;
    }

-- changed links are idle after the failure where those of no failed pair are idle for a row without the failed links
pub idle-from_row : (n m : Net) (case : Case) (cells post : List ℕ) (x : List Bool) (d : Differences) → ((z : List Bool) → IsFailedSet n.graph case z → IsRow n.graph z (source_of n.graph case) cells) → AreChanges n m d → d.same ≡ true
    → IsFailedSet n.graph case x → IsRow n.graph x (source_of n.graph case) post
    → ((key : LinkKey) → IsChanged n.graph m.graph key → (IsOfFailedPair n.graph x key → ⊥) → IsIdle n.graph m.graph post key)
    → AreIdleOrFailed n.graph case cells d.links
idle-from_row n m case cells post x d rows changes same failed row idle i lt free =
    let s : ℕ = source_of n.graph case in
    let one : post ≡ cells = row-one n.graph x s post cells row (rows x failed) in
    let a : Change = change_at d.links i in
    let is : IsChange n.graph m.graph a = (changes.links same).each i lt in
    let here : IsIdle n.graph m.graph post a.key = idle a.key is.changed (λ of. free (failing-from_failed n.graph case x a.key failed of)) in
    change-from_idle n.graph m.graph changes.old.named cells a is (subst (λ c. IsIdle n.graph m.graph c a.key) one here)

-- and the other way round
pub here-from_kept : (c : Computed) (m : Net) (d : Differences) → IsComputed c → AreChanges c.net m d → d.same ≡ true → IsKeptCase c.net m c.case → IsKeptHere c m d.links
here-from_kept c m d is changes same k = record {
  depth = k.depth;
  tree = k.tree;
  idle = idle-from_row c.net m c.case c.cells k.post k.x d is.row changes same k.failed k.row k.idle;
  index = λ v lt led. k.index v lt led.0 led.1;
}

-- the protected link has one partner
pub partner-one : (n m : Net) (case : Case) → IsNamed m.graph → (link there : LinkNo) → HaveSameName n.graph m.graph case.link.0 link.0 → HaveSameName n.graph m.graph case.link.0 there.0 → there ≡ link
partner-one n m case named link there name other = link_is there link (key-one m.graph named there.0 link.0 other.1 name.1 (other.2 ∙ sym name.2))

-- so the failures are the same where the failed links are of the same pairs
pub failures-from_pairs : (n m : Net) (case : Case) → IsNamed m.graph → (link there : LinkNo) → HaveSameName n.graph m.graph case.link.0 link.0 → HaveSameName n.graph m.graph case.link.0 there.0
    → (x y : List Bool) → IsFailedSet n.graph case x → IsFailedSet m.graph (case_with case there) y → HaveSamePairs n.graph x m.graph y
    → HaveSameFailures n.graph case m.graph (case_with case link)
failures-from_pairs n m case named link there name other x y failed failed' pairs =
    let e : there ≡ link = partner-one n m case named link there name other in
    failures-from_same n.graph case x m.graph (case_with case link) y failed (subst (λ j. IsFailedSet m.graph (case_with case j) y) e failed') pairs

pub failures-from_kept : (n m : Net) (case : Case) → IsNamed m.graph → (link : LinkNo) → HaveSameName n.graph m.graph case.link.0 link.0 → IsKeptCase n m case → HaveSameFailures n.graph case m.graph (case_with case link)
failures-from_kept n m case named link name k =
    failures-from_pairs n m case named link k.link name k.protected k.x k.y k.failed k.failed' k.pairs

pub walks-from_kept : (n m : Net) (case : Case) → IsKeptCase n m case → AreWalksKept n m case
walks-from_kept n m case k = λ x failed w lt on. k.way w lt (subst (λ z. IsOnRepairWay n case z w) (failed-one n.graph case x k.x failed k.failed) on)

-- where no node on the walks is missing from those that are kept, each of them is kept
pub walks-from_none : (c : Computed) (m : Net) (s : Staying) (rest : NodeBits) → IsComputed c → AreStaying c.net m s
    → ((v : ℕ) → is_in rest v ≡ (is_in c.walks v && not (is_in s.nodes v))) → ((v : ℕ) → is_in rest v ≡ false) → AreWalksKept c.net m c.case
walks-from_none c m s rest is stay minus none x failed w lt on =
    let there : is_in c.walks w ≡ true = (is.walks.marks x failed w).1 on in
    (stay.nodes.each w lt).0 (⊎_elim
    (λ yes'. yes')
    (λ (out : is_in s.nodes w ≡ false). absurd (true≢false (sym (minus w ∙ and_from (is_in c.walks w) (not (is_in s.nodes w)) there (ap not out)) ∙ none w)))
    (cases_Bool (is_in s.nodes w)))

-- and the other way round
pub none-from_walks : (c : Computed) (m : Net) (s : Staying) (rest : NodeBits) → IsComputed c → AreStaying c.net m s
    → ((v : ℕ) → is_in rest v ≡ (is_in c.walks v && not (is_in s.nodes v))) → AreWalksKept c.net m c.case → (v : ℕ) → is_in rest v ≡ false
none-from_walks c m s rest is stay minus kept v =
    ⊎_elim
    (λ (there : is_in c.walks v ≡ true).
    let x = failed-exists c.net.graph c.case in
    let on : IsOnRepairWay c.net c.case x.0 v = (is.walks.marks x.0 x.1 v).0 there in
    let ends : IsLink c.net.graph (link_at c.net.graph c.case.link.0) = is.trees.graph.each c.case.link.0 is.within in
    let lt : v < node_count c.net.graph = walk-within c.net.graph x.0 (source_of c.net.graph c.case) on.2.before v is.trees.graph ends.0 on.2.to in
    let one : is_in s.nodes v ≡ true = (stay.nodes.each v lt).1 (kept x.0 x.1 v lt on) in
    minus v ∙ and_right (is_in c.walks v) (not (is_in s.nodes v)) (ap not one))
    (λ (off : is_in c.walks v ≡ false). minus v ∙ and_left (is_in c.walks v) (not (is_in s.nodes v)) off)
    (cases_Bool (is_in c.walks v))

-- what a case leaves is told by any of its failed sets, which are one
pub row-from_post : (n : Net) (case : Case) (p : Remains) → IsPost n case p → (x : List Bool) → IsFailedSet n.graph case x → IsRow n.graph x (source_of n.graph case) p.cells
row-from_post n case p post x failed = subst (λ z. IsRow n.graph z (source_of n.graph case) p.cells) (failed-one n.graph case p.failed x post.failed failed) post.row
