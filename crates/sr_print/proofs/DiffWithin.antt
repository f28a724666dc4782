-- What differs between two nets is told by nodes and links of their graphs.
use Rattle.std.proofs.Common.{ℕ, ◌<◌, List, [], ◌∷◌, get_or, map, All, inl, inr, subst, sym}
use Rattle.std.proofs.lemmas.List.{get_or-map, length-map}
use Rattle.std.proofs.lemmas.List.Elements.{All-nil, All-cons, All-head, All-tail}
use Rattle.std.proofs.lemmas.Option.{slice_get-get_or}
use Rattle.sr_model.specs.declared.audit.Item.{Item}
use Rattle.sr_model.specs.Audit.{IsAudit, IsItem}
use Rattle.sr_model.specs.Label.{Net}
use Rattle.sr_model.specs.Rule.{IsNet}
use Rattle.sr_encode.proofs.AnswerLemmas.{affected-within}
use Rattle.sr_diff.specs.declared.differences.Diff.{Diff}
use Rattle.sr_diff.specs.Diff.{AreSuch, IsDiff, IsLost, IsOther, after_of}
use Rattle.sr_print.specs.Differences.{IsDiffWithin, IsItemWithin}
use Rattle.sr_print.proofs.Within.{answer-within}

-- an item of the net
item-within : (n : Net) → IsNet n → (item : Item) → IsItem n item → IsItemWithin n.graph item
item-within n net item is = record {
  case = is.within;
  dest = affected-within n item.case item.dest.0 net.nodes is.affected;
  answer = answer-within n item.case item.dest.0 item.answer is.answer;
}

-- all items of an audit
items-within : (n : Net) → IsNet n → (items : List Item) → IsAudit n items → All (IsItemWithin n.graph) items
items-within n net items audit = λ k d lt. item-within n net (get_or items k d) (audit.each k (get_or items k d) (slice_get-get_or items k d lt))

-- what holds of all of a list holds of those of it that are taken
those-all : (P Q : Item → Type 0) (items those : List Item) → AreSuch P items those → All Q items → All Q those
those-all P Q [] those are all = subst (All Q) (sym are) (All-nil Q)
those-all P Q (item ∷ items) those (inl taken) all =
    subst (All Q) (sym taken.1.1) (All-cons Q item taken.1.0 (All-head Q item items all) (those-all P Q items taken.1.0 taken.1.2 (All-tail Q item items all)))
those-all P Q (item ∷ items) those (inr left) all = those-all P Q items those left.1 (All-tail Q item items all)

-- what differs
pub diff-within : (old new : Net) → IsNet old → IsNet new → (diff : Diff) → IsDiff old new diff → IsDiffWithin old.graph new.graph diff
diff-within old new before after diff is =
    let olds = items-within old before is.before is.old_audit in
    let news = items-within new after is.after is.new_audit in
    let afters = those-all (IsOther old new) (IsItemWithin new.graph) is.after (map after_of diff.changed) is.changed news in
    record {
      lost = those-all (IsLost old new) (IsItemWithin old.graph) is.before diff.lost is.lost olds;
      gained = those-all (IsLost new old) (IsItemWithin new.graph) is.after diff.gained is.gained news;
      changed = λ k d lt. record {
        before = item-within old before (get_or diff.changed k d).before ((is.pairs k (get_or diff.changed k d) (slice_get-get_or diff.changed k d lt)).0);
        after = subst (IsItemWithin new.graph) (get_or-map after_of diff.changed k d (after_of d) lt)
            (afters k (after_of d) (subst (λ (m : ℕ). k < m) (sym (length-map diff.changed after_of)) lt));
      };
    }
