-- The audit of a net: the answers of all cases, and how many are of each sort.
use Rattle.std.specs.Prelude.{◌≡◌, ℕ, ◌<◌, ◌⊎◌, Bool, true, false, List, [], Some, slice_get, reverse, count_by}
use Rattle.sr_model.specs.declared.case.Case.{Case}
use Rattle.sr_model.specs.declared.case.Kind.{Kind}
use Rattle.sr_model.specs.declared.case.Kind.TheVariants.{Link as LinkKind, Node as NodeKind, Risk as RiskKind}
use Rattle.sr_model.specs.declared.repair.Answer.{Answer}
use Rattle.sr_model.specs.declared.repair.Answer.TheVariants.{Least, NoPath, NoList, TooDeep}
use Rattle.sr_model.specs.declared.audit.Item.{Item}
use Rattle.sr_model.specs.declared.audit.Counts.{Counts}
use Rattle.sr_model.specs.Case.{IsCase, IsAffected}
use Rattle.sr_model.specs.Label.{Net}
use Rattle.sr_model.specs.Repair.{IsCaseAnswer}
use Rattle.sr_model.specs.Forward.{IsStack}

-- the kinds in order: link, node, risk
abbrev pub rank_of : Kind → ℕ
rank_of LinkKind = 0
rank_of NodeKind = 1
rank_of RiskKind = 2

-- by kind, then by protected link
abbrev pub CaseLt : Case → Case → Type 0
CaseLt a b = (rank_of a.kind < rank_of b.kind) ⊎ ((a.kind ≡ b.kind) × (a.link.0 < b.link.0))

-- then by destination
abbrev pub ItemLt : Item → Item → Type 0
ItemLt a b = CaseLt a.case b.case ⊎ ((a.case ≡ b.case) × (a.dest.0 < b.dest.0))

-- the labels on the first link, the top last, or none where the answer isn't a list
abbrev pub AreLabelsOf : Net → ℕ → Answer → List ℕ → Type 0
AreLabelsOf n d (Least list) labels = IsStack n d list.first.0 list.segments (reverse labels)
AreLabelsOf n d NoPath labels = labels ≡ []
AreLabelsOf n d NoList labels = labels ≡ []
AreLabelsOf n d (TooDeep k) labels = labels ≡ []

-- a case, a destination that it affects, its answer and the labels of that answer
pub record IsItem (n : Net) (item : Item) : Type 0 where
  pub within : IsCase n.graph item.case
  pub affected : IsAffected n item.case item.dest.0
  pub answer : IsCaseAnswer n item.case item.dest.0 item.answer
  pub labels : AreLabelsOf n item.dest.0 item.answer item.labels

-- the audit: each case and each destination that it affects once, in order
pub record IsAudit (n : Net) (items : List Item) : Type 0 where
  pub each : (k : ℕ) (item : Item) → slice_get items k ≡ Some item → IsItem n item
  pub ascending : (j k : ℕ) (a b : Item) → j < k → slice_get items j ≡ Some a → slice_get items k ≡ Some b
      → ItemLt a b
  pub all : (case : Case) (d : ℕ) → IsCase n.graph case → IsAffected n case d
      → (k : ℕ) × (item : Item) × (slice_get items k ≡ Some item) × (item.case ≡ case) × (item.dest.0 ≡ d)

-- the answer is a list
abbrev pub is_least : Answer → Bool
is_least (Least list) = true
is_least NoPath = false
is_least NoList = false
is_least (TooDeep k) = false

-- the answer is that no path is left
abbrev pub is_no_path : Answer → Bool
is_no_path (Least list) = false
is_no_path NoPath = true
is_no_path NoList = false
is_no_path (TooDeep k) = false

-- the answer is that no list is sound
abbrev pub is_no_list : Answer → Bool
is_no_list (Least list) = false
is_no_list NoPath = false
is_no_list NoList = true
is_no_list (TooDeep k) = false

-- the answer is that the least list is too deep
abbrev pub is_too_deep : Answer → Bool
is_too_deep (Least list) = false
is_too_deep NoPath = false
is_too_deep NoList = false
is_too_deep (TooDeep k) = true

-- how many answers are lists, no path, no list and too deep
abbrev pub counts_of : List Item → Counts
counts_of items = record {
  covered = count_by (λ (i : Item). is_least i.answer) items;
  nopath = count_by (λ (i : Item). is_no_path i.answer) items;
  nolist = count_by (λ (i : Item). is_no_list i.answer) items;
  toodeep = count_by (λ (i : Item). is_too_deep i.answer) items;
}
