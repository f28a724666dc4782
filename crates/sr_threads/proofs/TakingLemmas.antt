-- The numbers of what threads did, what is put into places, and what is taken out of them.
use Rattle.std.proofs.Common.{◌≡◌, ℕ, ◌+◌, ◌-◌, ◌≤◌, List, [], ◌∷◌, ◌++◌, ap, ◌∙◌, append_assoc, sym, ◌<◌, length, set, slice_index_or, Option, Some, None, inl, inr, subst, Result, Ok, IfSome, arith}
use Rattle.std.specs.List.{AllZip, range_with_len}
use Rattle.std.proofs.lemmas.Bool.{cases_lt}
use Rattle.std.proofs.lemmas.Grind.{get_or-set_at}
use Rattle.std.proofs.lemmas.List.{map-append, get_or-set_other, get_or_append_left, get_or_push, length_push}
use Rattle.std.proofs.lemmas.List.Elements.{All-cons}
use Rattle.std.proofs.lemmas.Option.{none-some}
use Rattle.rayon.proofs.ListFacts.{AllZip-append}
use Rattle.rayon.specs.Shown.{run-append}
use Rattle.sr_threads.specs.declared.taking.Done.{Done}
use Rattle.sr_threads.specs.Taking.{numbers_of, AreSilentOn, AreTakenFrom}

module _ {T : Type 0} where
  -- one number more
  pub numbers-more : (before done after : List (Done T)) (begin number : ℕ) (one : Done T) → begin ≤ number → one.number ≡ number → after ≡ done ++ one ∷ [] → numbers_of done ≡ numbers_of before ++ range_with_len begin (number - begin) → numbers_of after ≡ numbers_of before ++ range_with_len begin (number + 1 - begin)
  numbers-more before done after begin number one le is more so_far =
      let count : number + 1 - begin ≡ number - begin + 1 = omega (arith, le) in
      let at : begin + (number - begin) ≡ one.number = omega (arith, le, is) in
      let range : range_with_len begin (number + 1 - begin) ≡ range_with_len begin (number - begin) ++ one.number ∷ [] = ap (range_with_len begin) count ∙ sym (run-append begin (number - begin) 1) ∙ ap (λ (x : ℕ). range_with_len begin (number - begin) ++ x ∷ []) at in
      rw (more, range, map-append (λ (d : Done T). d.number) done (one ∷ []), so_far)
      (append_assoc (numbers_of before) (range_with_len begin (number - begin)) (one.number ∷ []))

  -- once one is put at its place, there is nothing only where what is left and it are silent
  pub filled-more : (rest : List (Done T)) (places after : List (Option T)) (one : Done T) (i : ℕ) → one.number < length places → after ≡ set places one.number (Some one.made) → slice_index_or after i None ≡ None → AreSilentOn i rest → (slice_index_or places i None ≡ None) × AreSilentOn i (one ∷ rest)
  filled-more rest places after one i lt put nothing silent =
      let other : one.number ≡ i → ⊥ = λ same. none-some one.made (sym nothing ∙ ap (λ (xs : List (Option T)). slice_index_or xs i None) put ∙ get_or-set_at places one.number i (Some one.made) None (sym same) lt) in
      let before : slice_index_or places i None ≡ None = sym (get_or-set_other places one.number i (Some one.made) None (λ same. other (sym same))) ∙ ap (λ (xs : List (Option T)). slice_index_or xs i None) (sym put) ∙ nothing in
      (before, All-cons (λ (d : Done T). d.number ≡ i → ⊥) one rest other silent)

  -- one more is what stands at its place, where there is something
  pub taken-more : (places : List (Option T)) (all after : List T) (x : T) (number : ℕ) → length all ≡ number → after ≡ all ++ x ∷ [] → AreTakenFrom places all → ((one : T) → slice_index_or places number None ≡ Some one → x ≡ one) → AreTakenFrom places after
  taken-more places all after x number long more taken last i one default lt is =
      elim (cases_lt i number) [
        | inl before ↦
            let within : i < length all = omega (arith, before, long) in
            let same : slice_index_or after i default ≡ slice_index_or all i default = ap (λ (xs : List T). slice_index_or xs i default) more ∙ get_or_append_left all (x ∷ []) default i within in
            same ∙ taken i one default within is
        | inr behind ↦
            let bound : length after ≡ length all + 1 = rw more (length_push all x) in
            let at : i ≡ number = omega (arith, behind, lt, bound, long) in
            let same : slice_index_or after i default ≡ x = ap (λ (xs : List T). slice_index_or xs i default) more ∙ get_or_push all x default i (long ∙ sym at) in
            same ∙ last one (subst (λ (k : ℕ). slice_index_or places k None ≡ Some one) at is)
      ]

  -- the result is the value that was found
  pub last-is : (E : Type 0) (found : Option T) (x one : T) → found ≡ Some one → IfSome found (λ (made : T). ◌≡◌ {A = Result T E} (Ok x) (Ok made)) → x ≡ one
  last-is E found x one is kept =
      let same = subst (λ (f : Option T). IfSome f (λ (made : T). ◌≡◌ {A = Result T E} (Ok x) (Ok made))) is kept in
      grind (arith, same)

  -- what belongs to the first numbers, and to the next one
  pub made-more : (Belongs : ℕ → T → Type 0) (number : ℕ) (all after : List T) (x : T) → AllZip Belongs (range_with_len 0 number) all → Belongs number x → after ≡ all ++ x ∷ [] → AllZip Belongs (range_with_len 0 (number + 1)) after
  made-more Belongs number all after x so_far here more =
      let zero : 0 + number ≡ number = omega arith in
      let range : range_with_len 0 (number + 1) ≡ range_with_len 0 number ++ number ∷ [] = sym (run-append 0 number 1) ∙ ap (λ (k : ℕ). range_with_len 0 number ++ k ∷ []) zero in
      rw (more, range) (AllZip-append Belongs (range_with_len 0 number) (number ∷ []) all (x ∷ []) so_far (here, tt))
