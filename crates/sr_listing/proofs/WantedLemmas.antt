-- Of the items of all cases those that are wanted, case by case.
use Rattle.std.proofs.Common.{◌≡◌, ℕ, suc, ◌+◌, ◌*◌, ◌<◌, ◌≤◌, Bool, true, false, cond, List, [], ◌∷◌, ◌++◌, length, Some, slice_get, refl, sym, ap, ◌∙◌, subst, arith, append-nil}
use Rattle.std.proofs.lemmas.Grind.{flat_map-append}
use Rattle.std.proofs.lemmas.List.{length-append}
use Rattle.std.proofs.lemmas.List.Elements.{filter-append}
use Rattle.sr_model.specs.declared.audit.Counts.{Counts}
use Rattle.sr_model.specs.declared.audit.Item.{Item}
use Rattle.sr_model.specs.declared.case.Case.{Case}
use Rattle.sr_model.specs.Audit.{counts_of}
use Rattle.sr_model.specs.Case.{IsCase}
use Rattle.sr_model.specs.Graph.{Graph}
use Rattle.sr_model.specs.Label.{Net}
use Rattle.sr_model.specs.Rule.{IsNet}
use Rattle.sr_laws.proofs.Audits.{audit-one}
use Rattle.sr_repair.specs.Answers.{place_of, case_count, IsAnswered}
use Rattle.sr_repair.proofs.PlaceLemmas.{place-one}
use Rattle.sr_audit.specs.Cases.{AreBetween}
use Rattle.sr_audit.specs.Counted.{counts_sum, AreCountsAt}
use Rattle.sr_audit.proofs.JoinLemmas.{between-none, between-case, between-append, between-audit}
use Rattle.sr_audit.proofs.RestLemmas.{audit-there}
use Rattle.sr_audit.proofs.CountLemmas.{counts-append}
use Rattle.sr_print.specs.Insight.{repairs_line}
use Rattle.sr_print.proofs.Appended.{two_pieces}
use Rattle.sr_print.specs.Repairs.{item_line, item_lines}
use Rattle.sr_listing.specs.declared.wanted.Wanted.{Wanted}
use Rattle.sr_listing.specs.Listed.{PutsCase}
use Rattle.sr_listing.specs.Wanted.{is_wanted, wanted_items, PutsItems, AreWantedCounts, PutsWanted}

-- ---- the items of one case
-- the items are of this case
abbrev AreOf : Case → List Item → Type 0
AreOf case items = (k : ℕ) (item : Item) → slice_get items k ≡ Some item → item.case ≡ case

-- of the items of a case all are wanted, or none
wanted-one : (g : Graph) (wanted : Wanted) (case : Case) (items : List Item) (b : Bool) → is_wanted g wanted case ≡ b → AreOf case items → wanted_items g wanted items ≡ cond b items []
wanted-one g wanted case [] true is of = refl
wanted-one g wanted case [] false is of = refl
wanted-one g wanted case (x ∷ xs) b is of =
    let here : is_wanted g wanted x.case ≡ b = ap (is_wanted g wanted) (of 0 x refl) ∙ is in
    let rest = wanted-one g wanted case xs b is (λ k item e. of (suc k) item e) in
    by b here rest
  where
    by : (b : Bool) → is_wanted g wanted x.case ≡ b → wanted_items g wanted xs ≡ cond b xs [] → wanted_items g wanted (x ∷ xs) ≡ cond b (x ∷ xs) []
    by true e r = ap (λ (c : Bool). cond c (x ∷ wanted_items g wanted xs) (wanted_items g wanted xs)) e ∙ ap (λ (l : List Item). x ∷ l) r
    by false e r = ap (λ (c : Bool). cond c (x ∷ wanted_items g wanted xs) (wanted_items g wanted xs)) e ∙ r

-- the items of the case at a place are of that case
between-of : (n : Net) (m : ℕ) (case : Case) (items : List Item) → IsCase n.graph case → place_of n.graph case ≡ m → AreBetween n m (m + 1) items → AreOf case items
between-of n m case items within place between k item e =
    let at = between.each k item e in
    let same : place_of n.graph item.case ≡ place_of n.graph case = omega (arith, at.1, at.2, place) in
    place-one n.graph item.case case at.0.within within same

module _ (n : Net) (wanted : Wanted) where
  -- the wanted items of a case more
  wanted-more : (m : ℕ) (case : Case) (items more : List Item) (b : Bool) → IsCase n.graph case → place_of n.graph case ≡ m → is_wanted n.graph wanted case ≡ b → AreBetween n m (m + 1) more → wanted_items n.graph wanted (items ++ more) ≡ wanted_items n.graph wanted items ++ cond b more []
  wanted-more m case items more b within at is between =
      filter-append (λ (item : Item). is_wanted n.graph wanted item.case) items more
      ∙ ap (λ (l : List Item). wanted_items n.graph wanted items ++ l) (wanted-one n.graph wanted case more b is (between-of n m case more within at between))

  between-next : (m : ℕ) (items more : List Item) → AreBetween n 0 m items → AreBetween n m (m + 1) more → AreBetween n 0 (m + 1) (items ++ more)
  between-next m items more between next = between-append n 0 m (m + 1) items more (omega arith) (omega arith) between next

  -- a case whose items aren't wanted
  record IsSkipped (m : ℕ) (items : List Item) : Type 0 where
    pub more : List Item
    pub between : AreBetween n 0 (m + 1) (items ++ more)
    pub same : wanted_items n.graph wanted (items ++ more) ≡ wanted_items n.graph wanted items

  skipped : (m : ℕ) (case : Case) (items : List Item) → IsNet n → IsAnswered n → m < case_count n.graph → IsCase n.graph case → place_of n.graph case ≡ m → is_wanted n.graph wanted case ≡ false → AreBetween n 0 m items → IsSkipped m items
  skipped m case items net answered lt within at is between =
      let there = audit-there n net answered m lt in
      let next : AreBetween n m (m + 1) there.0 = between-case n m there.0 there.1 in
      record {
        more = there.0;
        between = between-next m items there.0 between next;
        same = wanted-more m case items there.0 false within at is next ∙ append-nil (wanted_items n.graph wanted items);
      }

  -- ---- their lines
  -- the lines of the wanted items of the cases before place m were appended
  pub record WantedPut (m : ℕ) (before after : List ℕ) : Type 0 where
    pub items : List Item
    pub between : AreBetween n 0 m items
    pub lines : after ≡ before ++ item_lines n (wanted_items n.graph wanted items)

  pub put-none : (before : List ℕ) → WantedPut 0 before before
  put-none before = record { items = []; between = between-none n 0; lines = sym (append-nil before) }

  -- the next case, which is wanted
  pub put-more : (m : ℕ) (case : Case) (before now after : List ℕ) → IsCase n.graph case → place_of n.graph case ≡ m → is_wanted n.graph wanted case ≡ true → WantedPut m before now → PutsCase n m now after → WantedPut (m + 1) before after
  put-more m case before now after within at is so_far puts =
      record {
        items = so_far.items ++ puts.items;
        between = between-next m so_far.items puts.items so_far.between puts.between;
        lines =
            puts.lines ∙ two_pieces before now _ (item_lines n (wanted_items n.graph wanted so_far.items)) (item_lines n puts.items) so_far.lines refl
            ∙ ap (λ (text : List ℕ). before ++ text)
            (sym (flat_map-append (item_line n) (wanted_items n.graph wanted so_far.items) puts.items)
            ∙ ap (item_lines n) (sym (wanted-more m case so_far.items puts.items true within at is puts.between)));
      }

  -- the next case, which isn't
  pub put-skip : (m : ℕ) (case : Case) (before now : List ℕ) → IsNet n → IsAnswered n → m < case_count n.graph → IsCase n.graph case → place_of n.graph case ≡ m → is_wanted n.graph wanted case ≡ false → WantedPut m before now → WantedPut (m + 1) before now
  put-skip m case before now net answered lt within at is so_far =
      let skip = skipped m case so_far.items net answered lt within at is so_far.between in
      record {
        items = so_far.items ++ skip.more;
        between = skip.between;
        lines = so_far.lines ∙ ap (λ (l : List Item). before ++ item_lines n l) (sym skip.same);
      }

  -- all cases
  pub put-all : (m : ℕ) (before after : List ℕ) → m ≡ case_count n.graph → WantedPut m before after → PutsItems n wanted before after
  put-all m before after all so_far = record {
    items = so_far.items;
    audit = between-audit n so_far.items (subst (λ (k : ℕ). AreBetween n 0 k so_far.items) all so_far.between);
    lines = so_far.lines;
  }

  -- ---- their counts
  -- these are the counts of the wanted items of the cases before place m
  pub record WantedCounted (m : ℕ) (counts : Counts) : Type 0 where
    pub items : List Item
    pub between : AreBetween n 0 m items
    pub few : length (wanted_items n.graph wanted items) ≤ m * 256
    pub counted : counts ≡ counts_of (wanted_items n.graph wanted items)

  -- the next case, which is wanted
  pub counted-more : (m : ℕ) (case : Case) (so_far more : Counts) → IsCase n.graph case → place_of n.graph case ≡ m → is_wanted n.graph wanted case ≡ true → WantedCounted m so_far → AreCountsAt n m more → WantedCounted (m + 1) (counts_sum so_far more)
  counted-more m case so_far more within at is are own =
      let next : AreBetween n m (m + 1) own.items = between-case n m own.items own.audit in
      let same : wanted_items n.graph wanted (are.items ++ own.items) ≡ wanted_items n.graph wanted are.items ++ own.items = wanted-more m case are.items own.items true within at is next in
      let long : length (wanted_items n.graph wanted (are.items ++ own.items)) ≡ length (wanted_items n.graph wanted are.items) + length own.items = ap length same ∙ length-append (wanted_items n.graph wanted are.items) own.items in
      record {
        items = are.items ++ own.items;
        between = between-next m are.items own.items are.between next;
        few = omega (arith, long, are.few, own.audit.few);
        counted =
            ap (λ (c : Counts). counts_sum c more) are.counted ∙ ap (λ (c : Counts). counts_sum (counts_of (wanted_items n.graph wanted are.items)) c) own.counted
            ∙ sym (counts-append (wanted_items n.graph wanted are.items) own.items) ∙ ap counts_of (sym same);
      }

  -- the next case, which isn't
  pub counted-skip : (m : ℕ) (case : Case) (counts : Counts) → IsNet n → IsAnswered n → m < case_count n.graph → IsCase n.graph case → place_of n.graph case ≡ m → is_wanted n.graph wanted case ≡ false → WantedCounted m counts → WantedCounted (m + 1) counts
  counted-skip m case counts net answered lt within at is so_far =
      let skip = skipped m case so_far.items net answered lt within at is so_far.between in
      let long = ap length skip.same in
      record {
        items = so_far.items ++ skip.more;
        between = skip.between;
        few = omega (arith, long, so_far.few);
        counted = so_far.counted ∙ ap counts_of (sym skip.same);
      }

  -- all cases
  pub counted-all : (m : ℕ) (counts : Counts) → m ≡ case_count n.graph → WantedCounted m counts → AreWantedCounts n wanted counts
  counted-all m counts all so_far = record {
    items = so_far.items;
    audit = between-audit n so_far.items (subst (λ (k : ℕ). AreBetween n 0 k so_far.items) all so_far.between);
    counted = so_far.counted;
  }

  -- the lines of the wanted items, and then their counts
  pub wanted-put : (counts : Counts) (before now after : List ℕ) → PutsItems n wanted before now → AreWantedCounts n wanted counts → after ≡ now ++ repairs_line counts → PutsWanted n wanted before after
  wanted-put counts before now after puts are ends =
      let same : are.items ≡ puts.items = audit-one n are.items puts.items are.audit puts.audit in
      let counted : counts ≡ counts_of (wanted_items n.graph wanted puts.items) = are.counted ∙ ap (λ (l : List Item). counts_of (wanted_items n.graph wanted l)) same in
      record {
        items = puts.items;
        audit = puts.audit;
        lines = ends ∙ (ap (λ (c : Counts). now ++ repairs_line c) counted ∙ ap (λ (text : List ℕ). text ++ repairs_line (counts_of (wanted_items n.graph wanted puts.items))) puts.lines);
      }
