-- The words of a text, told from its first blank and its first other byte.
use Rattle.std.proofs.Common.{◌≡◌, ℕ, ◌<◌, ◌≤◌, zero, suc, true, false, List, [], ◌∷◌, length, take, drop, get_or, refl, sym, ap, ◌∙◌, arith, length-drop, add-zero}
use Rattle.std.proofs.lemmas.Bool.{false≢true}
use Rattle.std.proofs.lemmas.List.{length-take, get_or-drop}
use Rattle.std.specs.Prelude.{filter}
use Rattle.std.specs.List.{slice_split, onto_first}
use Rattle.std.proofs.lemmas.List.Splits.{slice_split-cons_yes, slice_split-cons_no}
use Rattle.sr_script.specs.Words.{is_blank, is_written, pieces, words}

-- a blank in front of a text changes no word
blank-skip : (b : ℕ) (xs : List ℕ) → is_blank b ≡ true → words (b ∷ xs) ≡ words xs
unfolding words pieces
blank-skip b xs h = ap (filter is_written) (slice_split-cons_yes is_blank b xs h)

-- nor do several
blanks-skip : (xs : List ℕ) (k : ℕ) → k ≤ length xs → ((j : ℕ) → j < k → is_blank (get_or xs j 0) ≡ true) → words xs ≡ words (drop k xs)
blanks-skip xs zero l h = refl
blanks-skip [] (suc k) l h = absurd (omega arith)
blanks-skip (x ∷ xs) (suc k) l h = blank-skip x xs (h 0 (omega arith)) ∙ blanks-skip xs k (omega arith) (λ j b. h (suc j) (omega arith))

nothing-there : (xs : List ℕ) → length xs ≡ 0 → words xs ≡ []
unfolding words pieces
nothing-there [] e = refl
nothing-there (x ∷ xs) e = absurd (omega arith)

-- where all bytes are blanks there is no word
pub no-word : (xs from : List ℕ) (b : ℕ) → b ≤ length xs → ((j : ℕ) → j < b → is_blank (get_or xs j 0) ≡ true) → from ≡ drop b xs → length from ≡ 0 → words xs ≡ []
no-word xs from b l blank is none = blanks-skip xs b l blank ∙ ap words (sym is) ∙ nothing-there from none

-- the first piece ends at the first blank
first-piece : (xs : List ℕ) (k : ℕ) → k ≤ length xs → ((j : ℕ) → j < k → is_blank (get_or xs j 0) ≡ false) → (k < length xs → is_blank (get_or xs k 0) ≡ true)
    → (ps : List (List ℕ)) × (pieces xs ≡ take k xs ∷ ps) × (filter is_written ps ≡ words (drop k xs))
unfolding words pieces
first-piece [] zero l h e = ([], refl, refl)
first-piece (x ∷ xs) zero l h e = (slice_split is_blank xs, slice_split-cons_yes is_blank x xs (e (omega arith)), sym (blank-skip x xs (e (omega arith))))
first-piece [] (suc k) l h e = absurd (omega arith)
first-piece (x ∷ xs) (suc k) l h e =
    let p = first-piece xs k (omega arith) (λ j b. h (suc j) (omega arith)) (λ b. e (omega arith)) in
    (p.0, slice_split-cons_no is_blank x xs (h 0 (omega arith)) ∙ ap (onto_first x) p.1, p.2)

filter-written : (w : List ℕ) (ps : List (List ℕ)) → 0 < length w → filter is_written (w ∷ ps) ≡ w ∷ filter is_written ps
filter-written [] ps h = absurd (omega arith)
filter-written (x ∷ w) ps h = refl

first-word-here : (xs : List ℕ) (k : ℕ) → k ≤ length xs → 0 < k → ((j : ℕ) → j < k → is_blank (get_or xs j 0) ≡ false) → (k < length xs → is_blank (get_or xs k 0) ≡ true)
    → words xs ≡ take k xs ∷ words (drop k xs)
unfolding words
first-word-here xs k l some h e =
    let p = first-piece xs k l h e in
    ap (filter is_written) p.1 ∙ filter-written (take k xs) p.0 (omega (arith, length-take k xs)) ∙ ap (λ ws. take k xs ∷ ws) p.2

-- what follows the blanks begins with a word
some-word : (from : List ℕ) (k : ℕ) → 0 < length from → is_blank (get_or from 0 0) ≡ false → (k < length from → is_blank (get_or from k 0) ≡ true) → 0 < k
some-word from zero some filled e = absurd (false≢true (sym filled ∙ e some))
some-word from (suc k) some filled e = omega arith

pub first-word : (xs from : List ℕ) (b k : ℕ) → b ≤ length xs → ((j : ℕ) → j < b → is_blank (get_or xs j 0) ≡ true) → (b < length xs → is_blank (get_or xs b 0) ≡ false) → from ≡ drop b xs → 0 < length from
    → k ≤ length from → ((j : ℕ) → j < k → is_blank (get_or from j 0) ≡ false) → (k < length from → is_blank (get_or from k 0) ≡ true)
    → words xs ≡ take k from ∷ words (drop k from)
first-word xs from b k l blank filled is some m word end =
    let inside : b < length xs = omega (arith, length-drop b xs, ap length is) in
    let head : is_blank (get_or from 0 0) ≡ false = ap is_blank (ap (λ t. get_or t 0 0) is ∙ get_or-drop b xs 0 0 ∙ ap (λ j. get_or xs j 0) (add-zero b)) ∙ filled inside in
    blanks-skip xs b l blank ∙ ap words (sym is) ∙ first-word-here from k m (some-word from k some head end) word end
