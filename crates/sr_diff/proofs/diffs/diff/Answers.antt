use Rattle.std.proofs.Common.{List, subst}
use Rattle.sr_model.specs.declared.audit.Item.{Item}
use Rattle.sr_model.specs.Label.{Net}
use Rattle.sr_diff.specs.Diff.{IsLost, AreSuch}
use Rattle.sr_diff.specs.Matched.{AreCompared}
use Rattle.sr_diff.proofs.CompareLemmas.{audit-items}
use Rattle.sr_diff.proofs.diffs.diff.Goals as goal

pub lost_of-requires : goal.lost_of-requires
lost_of-requires g c =
    audit-items c.args.old.now.net c.net.result.now c.in_ok-before.before.items c.items.result.now
    c.in_ok-before.ensures.audit c.net.ensures.value c.items.ensures

pub lost_of-requires-2 : goal.lost_of-requires-2
lost_of-requires-2 g c =
    audit-items c.args.new.now.net c.net-2.result.now c.in_ok-after.after.items c.items-2.result.now
    c.in_ok-after.ensures.audit c.net-2.ensures.value c.items-2.ensures

pub compared_items-requires-clause-items : goal.compared_items-requires-clause-items
compared_items-requires-clause-items g c =
    audit-items c.args.new.now.net c.net-3.result.now c.in_ok-after.after.items c.items-3.result.now
    c.in_ok-after.ensures.audit c.net-3.ensures.value c.items-3.ensures

pub returns : goal.returns
returns g c =
    let old = c.args.old.now.net in
    let new = c.args.new.now.net in
    let lost = c.in_ok-lost.lost in
    let gained = c.in_ok-gained.gained in
    let both = c.in_ok-both.both in
    let compared = subst (λ (xs : List Item). AreCompared old new xs both) c.items-3.ensures
    (subst (λ (n : Net). AreCompared old n c.items-3.result.now both) c.net-3.ensures.value c.in_ok-both.ensures) in
    record {
      before = c.in_ok-before.before.items;
      after = c.in_ok-after.after.items;
      old_audit = c.in_ok-before.ensures.audit;
      new_audit = c.in_ok-after.ensures.audit;
      lost = subst (λ (xs : List Item). AreSuch (IsLost old new) xs lost) c.items.ensures
          (subst (λ (n : Net). AreSuch (IsLost n new) c.items.result.now lost) c.net.ensures.value c.in_ok-lost.ensures);
      gained = subst (λ (xs : List Item). AreSuch (IsLost new old) xs gained) c.items-2.ensures
          (subst (λ (n : Net). AreSuch (IsLost n old) c.items-2.result.now gained) c.net-2.ensures.value c.in_ok-gained.ensures);
      changed = compared.changed;
      pairs = compared.pairs;
      same = compared.same;
    }
