-- The letters of flags, and that there are none.
use Rattle.std.proofs.Common.{◌≡◌, ℕ, Bool, List, [], ◌∷◌, ◌++◌, ap, ◌∙◌, length, arith}
use Rattle.std.specs.Prelude.{codes}
use Rattle.std.proofs.lemmas.List.{append-nil, length-append}
use Rattle.sr_print.specs.Account.{flags_text, letters, letters_text}
use Rattle.sr_print.proofs.Appended.{two_pieces}

none-put : (ls one two new : List ℕ) → two ≡ one ++ ls → length two ≡ length one → new ≡ two ++ codes "none" → new ≡ one ++ letters_text ls
none-put [] one two new a same b = b ∙ ap (λ t. t ++ codes "none") (a ∙ append-nil one)
none-put (letter ∷ ls) one two new a same b = absurd (omega (arith, same, ap length a, length-append one (letter ∷ ls)))

some-put : (ls one two : List ℕ) → two ≡ one ++ ls → (length two ≡ length one → ⊥) → two ≡ one ++ letters_text ls
some-put [] one two a other = absurd (other (ap length (a ∙ append-nil one)))
some-put (letter ∷ ls) one two a other = a

-- where the text has become no longer, no flag is set
pub no-flag : (flags : List (Bool × ℕ)) (old one two new : List ℕ) → one ≡ old ++ codes " flags " → two ≡ one ++ letters flags → length two ≡ length one → new ≡ two ++ codes "none" → new ≡ old ++ flags_text flags
unfolding flags_text
no-flag flags old one two new p a same b = two_pieces old one new (codes " flags ") (letters_text (letters flags)) p (none-put (letters flags) one two new a same b)

-- and else some are
pub some-flag : (flags : List (Bool × ℕ)) (old one two : List ℕ) → one ≡ old ++ codes " flags " → two ≡ one ++ letters flags → (length two ≡ length one → ⊥) → two ≡ old ++ flags_text flags
unfolding flags_text
some-flag flags old one two p a other = two_pieces old one two (codes " flags ") (letters_text (letters flags)) p (some-put (letters flags) one two a other)
