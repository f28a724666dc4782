-- Texts that are appended piece by piece.
use Rattle.std.proofs.Common.{◌≡◌, ℕ, List, ◌++◌, ap, ◌∙◌, append_assoc, Result, Ok, Err}
use Rattle.std.specs.Prelude.{OnOk, OnErr, is_ok, if◌then◌else◌}
use Rattle.sr_print.specs.Printed.{BeginsWith}

pub two_pieces : (old one two a b : List ℕ) → one ≡ old ++ a → two ≡ one ++ b → two ≡ old ++ (a ++ b)
two_pieces old one two a b p q = q ∙ ap (λ xs. xs ++ b) p ∙ append_assoc old a b

pub three_pieces : (old one two three a b c : List ℕ) → one ≡ old ++ a → two ≡ one ++ b → three ≡ two ++ c → three ≡ old ++ (a ++ b ++ c)
three_pieces old one two three a b c p q r = two_pieces old two three (a ++ b) c (two_pieces old one two a b p q) r

-- what a text begins with, a longer one begins with
pub begins-longer : (old one two a : List ℕ) → one ≡ old ++ a → BeginsWith one two → BeginsWith old two
begins-longer old one two a p b = (a ++ b.0, b.1 ∙ ap (λ xs. xs ++ b.0) p ∙ append_assoc old a b.0)

-- also behind two pieces
pub begins-behind : (old one two a b : List ℕ) → one ≡ old ++ a ++ b → BeginsWith one two → BeginsWith old two
begins-behind old one two a b p begins = begins-longer old one two (a ++ b) (p ∙ append_assoc old a b) begins

pub on_err : {T E P : Type 0} (r : Result T E) → P → OnErr r P
on_err (Ok t) p = tt
on_err (Err e) p = p

-- what `extend_from_slice` appends on success
pub on_ok : {T E : Type 0} (r : Result T E) (old new more : List ℕ) → new ≡ (if is_ok r then old ++ more else old) → OnOk r (new ≡ old ++ more)
on_ok (Ok t) old new more e = e
on_ok (Err e) old new more p = tt

-- what follows from what holds on success
pub ok_then : {T E P Q : Type 0} (r : Result T E) → (P → Q) → OnOk r P → OnOk r Q
ok_then (Ok t) f p = f p
ok_then (Err e) f p = tt
