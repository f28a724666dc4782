-- The account of facts, LSP by LSP: how many lines it has, and that what is told of the LSPs one after the other makes it up.
use Rattle.std.proofs.Common.{◌≡◌, ℕ, ◌+◌, inl, inr, ⊎_elim, List, [], ◌∷◌, ◌++◌, length, length-append, refl, ap, sym, ◌∙◌, subst, append_assoc}
use Rattle.std.specs.Prelude.{Contains}
use Rattle.std.specs.List.Sorted.{IsStrictlySortedBy}
use Rattle.std.specs.Map.{keys_of}
use Rattle.std.proofs.lemmas.List.{append-nil}
use Rattle.sr_lsp.specs.declared.lsp.LspId.{LspId}
use Rattle.sr_lsdb.specs.declared.facts.Stored.{Stored}
use Rattle.sr_lsdb.specs.declared.facts.Facts.{Facts}
use Rattle.sr_lsdb.specs.Order.{id_cmp}
use Rattle.sr_domain.proofs.MemberLemmas.{here, later}
use Rattle.sr_account.specs.declared.aside.Aside.{Aside}
use Rattle.sr_account.specs.declared.aside.Reason.{Reason}
use Rattle.sr_account.specs.Items.{IsFactItem, Item}
use Rattle.sr_account.specs.Reasons.{IsUnhindered}
use Rattle.sr_account.specs.Asides.{AreAsides, IsAsideCount, IsTold, aside_of}
use Rattle.sr_account.specs.Steps.{AddsTold, AreTold, entry_items, items_of_entries}
use Rattle.sr_account.proofs.DeterminedLaw.{asides-one, reason-one}
use Rattle.sr_account.proofs.ItemLemmas.{item-from}
use Rattle.sr_account.proofs.ToldLemmas.{IsRestOfAll, account-end, are-asides, entry-next}

-- ---- how many lines it has

-- what was told of the LSPs so far has this many lines, and with what is told of the rest makes up the account
pub record IsCountedTo (facts : Facts) (es : List (LspId × Stored)) (count : ℕ) : Type 0 where
  pub said : List Aside
  pub rest : IsRestOfAll facts es said
  pub long : length said ≡ count

pub counted-none : (facts : Facts) (es : List (LspId × Stored)) → es ≡ facts.database → IsCountedTo facts es 0
counted-none facts es all = record {
  said = [];
  rest = λ more told. subst (λ (l : List (LspId × Stored)). AreTold facts (items_of_entries l) more) all told;
  long = refl;
}

pub counted-next : (facts : Facts) (entry : LspId × Stored) (es rest : List (LspId × Stored)) (count next : ℕ) (old new : List Aside) → es ≡ entry ∷ rest → old ≡ [] → AddsTold facts (entry_items entry) old new → next ≡ count + length new → IsCountedTo facts es count → IsCountedTo facts rest next
counted-next facts entry es rest count next old new step none adds sum c =
    let is : new ≡ adds.told = adds.appended ∙ ap (λ (l : List Aside). l ++ adds.told) none in
    record {
      said = c.said ++ adds.told;
      rest = entry-next facts entry es rest c.said adds.told step adds.are c.rest;
      long = length-append c.said adds.told ∙ ap (λ (n : ℕ). n + length adds.told) c.long ∙ ap (λ (l : List Aside). count + length l) (sym is) ∙ sym sum;
    }

pub counted-all : (facts : Facts) (es : List (LspId × Stored)) (count : ℕ) → IsStrictlySortedBy id_cmp (keys_of facts.database) → es ≡ [] → IsCountedTo facts es count → IsAsideCount facts count
counted-all facts es count up none c = (c.said, are-asides facts c.said up (account-end facts es c.said none c.rest), c.long)

-- ---- what is told of items

-- one thing alone is told of items
pub told-one : (facts : Facts) (items : List Item) (a b : List Aside) → AreTold facts items a → AreTold facts items b → a ≡ b
told-one facts [] a b x y = x ∙ sym y
told-one facts (item ∷ items) a b (inl x) (inl y) = told-one facts items a b x.1 y.1
told-one facts (item ∷ items) a b (inl x) (inr y) = absurd (x.0 y.0 y.2.holds)
told-one facts (item ∷ items) a b (inr x) (inl y) = absurd (y.0 x.0 x.2.holds)
told-one facts (item ∷ items) a b (inr x) (inr y) =
    x.3
    ∙ ap (λ (r : Reason). aside_of item r ∷ x.1) (reason-one facts item x.0 y.0 x.2 y.2)
    ∙ ap (λ (l : List Aside). aside_of item y.0 ∷ l) (told-one facts items x.1 y.1 x.4 y.4)
    ∙ sym y.3

-- what is told of the first of them, and of the others
record AreToldApart (facts : Facts) (xs ys : List Item) (all : List Aside) : Type 0 where
  first : List Aside
  others : List Aside
  all_are : all ≡ first ++ others
  of_first : AreTold facts xs first
  of_others : AreTold facts ys others

told-apart : (facts : Facts) (xs ys : List Item) (all : List Aside) → AreTold facts (xs ++ ys) all → AreToldApart facts xs ys all
told-apart facts [] ys all t = record { first = []; others = all; all_are = refl; of_first = refl; of_others = t }
told-apart facts (x ∷ xs) ys all (inl h) =
    let r = told-apart facts xs ys all h.1 in
    record { first = r.first; others = r.others; all_are = r.all_are; of_first = inl (h.0, r.of_first); of_others = r.of_others }
told-apart facts (x ∷ xs) ys all (inr h) =
    let r = told-apart facts xs ys h.1 h.4 in
    record {
      first = aside_of x h.0 ∷ r.first;
      others = r.others;
      all_are = h.3 ∙ ap (λ (l : List Aside). aside_of x h.0 ∷ l) r.all_are;
      of_first = inr (h.0, r.first, h.2, refl, r.of_first);
      of_others = r.of_others;
    }

-- ---- the account, LSP by LSP

-- of each of these items an account says whether it is told
told-there : (facts : Facts) (asides : List Aside) (items : List Item) → ((item : Item) → Contains items item → IsFactItem facts item) → AreAsides facts asides → (told : List Aside) × AreTold facts items told
told-there facts asides [] are a = ([], refl)
told-there facts asides (x ∷ xs) are a =
    let rest = told-there facts asides xs (λ item c. are item (later x xs item c)) a in
    ⊎_elim
    (λ (free : IsUnhindered facts x). (rest.0, inl (free, rest.1)))
    (λ (t : IsTold facts asides x). (aside_of x t.reason ∷ rest.0, inr (t.reason, rest.0, t.first, refl, rest.1)))
    (a.all x (are x (here x xs)))

-- so an account is what is told of all items of the database, in order
asides-told : (facts : Facts) (asides : List Aside) → IsStrictlySortedBy id_cmp (keys_of facts.database) → AreAsides facts asides → AreTold facts (items_of_entries facts.database) asides
asides-told facts asides up a =
    let t = told-there facts asides (items_of_entries facts.database) (λ item c. item-from facts item up c) a in
    subst (λ (l : List Aside). AreTold facts (items_of_entries facts.database) l) (asides-one facts t.0 asides (are-asides facts t.0 up t.1) a) t.1

-- what was told of the LSPs so far and what is told of the rest make up the account
pub record IsTakenTo (facts : Facts) (asides : List Aside) (es : List (LspId × Stored)) (said : List Aside) : Type 0 where
  pub rest : List Aside
  pub told : AreTold facts (items_of_entries es) rest
  pub all : asides ≡ said ++ rest

pub taken-none : (facts : Facts) (asides : List Aside) (es : List (LspId × Stored)) → IsStrictlySortedBy id_cmp (keys_of facts.database) → AreAsides facts asides → es ≡ facts.database → IsTakenTo facts asides es []
taken-none facts asides es up a all = record {
  rest = asides;
  told = subst (λ (l : List (LspId × Stored)). AreTold facts (items_of_entries l) asides) (sym all) (asides-told facts asides up a);
  all = refl;
}

pub taken-next : (facts : Facts) (asides : List Aside) (entry : LspId × Stored) (es rest : List (LspId × Stored)) (said old new : List Aside) → es ≡ entry ∷ rest → old ≡ [] → AddsTold facts (entry_items entry) old new → IsTakenTo facts asides es said → IsTakenTo facts asides rest (said ++ new)
taken-next facts asides entry es rest said old new step none adds t =
    let apart = told-apart facts (entry_items entry) (items_of_entries rest) t.rest (subst (λ (l : List (LspId × Stored)). AreTold facts (items_of_entries l) t.rest) step t.told) in
    let is : new ≡ apart.first = adds.appended ∙ ap (λ (l : List Aside). l ++ adds.told) none ∙ told-one facts (entry_items entry) adds.told apart.first adds.are apart.of_first in
    record {
      rest = apart.others;
      told = apart.of_others;
      all = t.all ∙ ap (λ (l : List Aside). said ++ l) (apart.all_are ∙ ap (λ (l : List Aside). l ++ apart.others) (sym is)) ∙ sym (append_assoc said new apart.others);
    }

pub taken-all : (facts : Facts) (asides : List Aside) (es : List (LspId × Stored)) (said : List Aside) → es ≡ [] → IsTakenTo facts asides es said → said ≡ asides
taken-all facts asides es said none t =
    let nothing : t.rest ≡ [] = subst (λ (l : List (LspId × Stored)). AreTold facts (items_of_entries l) t.rest) none t.told in
    sym (t.all ∙ ap (λ (l : List Aside). said ++ l) nothing ∙ append-nil said)
