-- How many items are of each sort.
use Rattle.std.proofs.Common.{◌≡◌, ℕ, ◌+◌, ◌*◌, ◌≤◌, Bool, List, [], ◌∷◌, ◌++◌, length, refl, sym, ap, arith, length-append, cond}
use Rattle.std.specs.List.{AllZip, count_by}
use Rattle.std.proofs.lemmas.List.Sums.{sum_by-append, sum_by-cons}
use Rattle.sr_model.specs.declared.case.Case.{Case}
use Rattle.sr_model.specs.declared.audit.Counts.{Counts}
use Rattle.sr_model.specs.declared.audit.Item.{Item}
use Rattle.sr_model.specs.declared.repair.Answer.{Answer}
use Rattle.sr_model.specs.Audit.{is_least, is_no_path, is_no_list, is_too_deep, counts_of}
use Rattle.sr_model.specs.Label.{Net}
use Rattle.sr_encode.specs.declared.answers.NodeAnswer.{NodeAnswer}
use Rattle.sr_encode.specs.Answered.{counts_in}
use Rattle.sr_repair.specs.Answers.{case_count}
use Rattle.sr_repair.specs.Items.{IsItemFor}
use Rattle.sr_audit.specs.Counted.{counts_sum, AreCountsAt, AreAuditCounts}
use Rattle.sr_audit.specs.Cases.{AreBetween}
use Rattle.sr_audit.proofs.JoinLemmas.{between-more, between-audit}

-- 1 where the answer passes the test
abbrev pass : (Answer → Bool) → Answer → ℕ
pass test answer = cond (test answer) 1 0

-- as many items as answers pass a test
counted : (n : Net) (case : Case) (test : Answer → Bool) (answers : List NodeAnswer) (items : List Item) → AllZip (IsItemFor n case) answers items → count_by (λ (e : NodeAnswer). test e.answer) answers ≡ count_by (λ (i : Item). test i.answer) items
counted n case test [] [] zip = refl
counted n case test [] (x ∷ items) zip = absurd zip
counted n case test (a ∷ answers) [] zip = absurd zip
counted n case test (a ∷ answers) (x ∷ items) zip =
    let one = sum_by-cons (λ (e : NodeAnswer). pass test e.answer) a answers in
    let two = sum_by-cons (λ (i : Item). pass test i.answer) x items in
    let more = counted n case test answers items zip.1 in
    let here = ap (λ (b : Answer). pass test b) zip.0.answer in
    omega (arith, one, two, more, here)

-- two counts are one where they are so sort by sort
pub counts-one : (a b : Counts) → a.covered ≡ b.covered → a.nopath ≡ b.nopath → a.nolist ≡ b.nolist → a.toodeep ≡ b.toodeep → a ≡ b
counts-one a b c d e f =
    let q : record { covered = a.covered; nopath = a.nopath; nolist = a.nolist; toodeep = a.toodeep } ≡ record { covered = b.covered; nopath = b.nopath; nolist = b.nolist; toodeep = b.toodeep } = rw (c, d, e, f) refl in
    q

-- the counts of the items are those of the answers
pub counts-items : (n : Net) (case : Case) (answers : List NodeAnswer) (items : List Item) → AllZip (IsItemFor n case) answers items → counts_in answers ≡ counts_of items
counts-items n case answers items zip = counts-one (counts_in answers) (counts_of items)
    (counted n case is_least answers items zip)
    (counted n case is_no_path answers items zip)
    (counted n case is_no_list answers items zip)
    (counted n case is_too_deep answers items zip)

-- how many items of two lists pass a test
both : (test : Answer → Bool) (xs ys : List Item) → count_by (λ (i : Item). test i.answer) (xs ++ ys) ≡ count_by (λ (i : Item). test i.answer) xs + count_by (λ (i : Item). test i.answer) ys
both test xs ys = sum_by-append (λ (i : Item). pass test i.answer) xs ys

-- the counts of two lists
pub counts-append : (xs ys : List Item) → counts_of (xs ++ ys) ≡ counts_sum (counts_of xs) (counts_of ys)
counts-append xs ys = counts-one (counts_of (xs ++ ys)) (counts_sum (counts_of xs) (counts_of ys)) (both is_least xs ys) (both is_no_path xs ys) (both is_no_list xs ys) (both is_too_deep xs ys)

-- these are the counts of the audit of the cases at the first m places
pub record AreFirstCounts (n : Net) (m : ℕ) (counts : Counts) : Type 0 where
  pub items : List Item
  pub between : AreBetween n 0 m items
  pub few : length items ≤ m * 256
  pub counted : counts ≡ counts_of items

-- the counts of the next case, added to those so far
pub counts-more : (n : Net) (m : ℕ) (so_far more : Counts) → AreFirstCounts n m so_far → AreCountsAt n m more → AreFirstCounts n (m + 1) (counts_sum so_far more)
counts-more n m so_far more r at = record {
  items = r.items ++ at.items;
  between = between-more n 0 m r.items at.items (omega arith) r.between at.audit;
  few = omega (arith, length-append r.items at.items, r.few, at.audit.few);
  counted = rw (r.counted, at.counted) (sym (counts-append r.items at.items));
}

-- the counts of all cases are those of an audit
pub counts-all : (n : Net) (counts : Counts) → AreFirstCounts n (case_count n.graph) counts → AreAuditCounts n counts
counts-all n counts r = record { items = r.items; audit = between-audit n r.items r.between; counted = r.counted }
