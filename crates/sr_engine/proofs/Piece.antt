-- What of a piece was looked at.
use Rattle.std.proofs.Common.{length-drop, refl, ◌≡◌, ℕ, zero, suc, ◌+◌, ◌-◌, ◌<◌, ◌≤◌, Bool, true, false, List, [], ◌∷◌, ◌++◌, length, take, drop, sym, ap, ◌∙◌, arith, append_assoc, take-append-drop, length-take, length-take-le, Some, min}
use Rattle.std.proofs.lemmas.List.{take_min, take-take, drop-take}
use Rattle.std.proofs.Math.Seq.{drop-nil}
use Rattle.memchr.specs.Find.{IsFirstByte, is_byte}
use Rattle.sr_engine.specs.Lines.{IsUnbroken, head_of}
use Rattle.sr_engine.specs.Reading.{line_in}
use Rattle.sr_engine.proofs.Heads.{head_of-short}
use Rattle.sr_engine.proofs.Steps.{first-line, kept-none}

drop_further : (a b : ℕ) (xs : List ℕ) → drop b (drop a xs) ≡ drop (a + b) xs
drop_further zero b xs =
    let e : 0 + b ≡ b = omega arith in
    ap (λ n. drop n xs) (sym e)
drop_further (suc a) b [] = drop-nil b ∙ sym (drop-nil (suc a + b))
drop_further (suc a) b (x ∷ xs) =
    let e : suc a + b ≡ suc (a + b) = omega arith in
    drop_further a b xs ∙ ap (λ n. drop n (x ∷ xs)) (sym e)

drop_taken : (piece : List ℕ) (at end count n : ℕ) → at ≤ end → n ≡ end - at → count < n
    → drop (count + 1) (take n (drop at piece)) ≡ take (end - (at + (count + 1))) (drop (at + (count + 1)) piece)
drop_taken piece at end count n low is high =
    let sum : n ≡ count + 1 + (end - (at + (count + 1))) = omega (arith, is) in
    ap (λ k. drop (count + 1) (take k (drop at piece))) sum
    ∙ drop-take (count + 1) (end - (at + (count + 1))) (drop at piece)
    ∙ ap (λ l. take (end - (at + (count + 1))) l) (drop_further at (count + 1) piece)

-- the bytes from `at` to `end`, of which the first `count` and the line feed behind them are looked at
pub record Cut (unread rest : List ℕ) (count : ℕ) : Type 0 where
  pub unbroken : IsUnbroken (take count unread)
  pub split : unread ≡ take count unread ++ 10 ∷ rest
  pub high : count < length unread

pub cut : (piece : List ℕ) (at end count n : ℕ) → at ≤ end → end ≤ length piece → n ≡ end - at → IsFirstByte (is_byte 10) (take n (drop at piece)) (Some count)
    → Cut (take n (drop at piece)) (take (end - (at + (count + 1))) (drop (at + (count + 1)) piece)) count
cut piece at end count n low high is first =
    let unread : List ℕ = take n (drop at piece) in
    let f = first-line unread count first in
    record {
      unbroken = f.0;
      split =
          sym (take-append-drop (count + 1) unread)
          ∙ ap (λ l. l ++ drop (count + 1) unread) (sym f.1)
          ∙ append_assoc (take count unread) (10 ∷ []) (drop (count + 1) unread)
          ∙ ap (λ l. take count unread ++ 10 ∷ l) (drop_taken piece at end count n low is (omega (arith, f.2, length-take n (drop at piece))));
      high = f.2;
    }

pub all-taken : (end : ℕ) (piece : List ℕ) → take (end - end) (drop end piece) ≡ []
all-taken end piece =
    let e : end - end ≡ 0 = omega arith in
    ap (λ n. take n (drop end piece)) e

pub piece-taken : (buffer : List ℕ) (count taken within : ℕ) → count ≤ length buffer → within ≡ min count (33554432 - taken)
    → take (within - 0) (drop 0 buffer) ≡ take (33554432 - taken) (take count buffer)
piece-taken buffer count taken within few is =
    let long : length (take count buffer) ≡ count = length-take-le count buffer few in
    let e : within - 0 ≡ min (33554432 - taken) (length (take count buffer)) = omega (arith, long, is) in
    let f : within - 0 ≤ count = omega (arith, is) in
    sym (take-take (within - 0) count buffer f) ∙ ap (λ n. take n (take count buffer)) e ∙ take_min (33554432 - taken) (take count buffer)

pub gathered : (b : Bool) (piece line : List ℕ) → b ≡ false → line_in b piece line ≡ line
gathered true piece line e = cc
gathered false piece line e = refl

-- nothing was held, and the line lies in the piece
pub whole-line : (piece kept rest : List ℕ) (at end count : ℕ) → kept ≡ [] → kept ≡ head_of rest → length piece ≤ 65536 → count ≤ end - at
    → take (at + count - at) (drop at piece) ≡ head_of (rest ++ take count (take (end - at) (drop at piece)))
whole-line piece kept rest at end count none is few within =
    let e : at + count - at ≡ count = omega arith in
    let more : List ℕ = take count (take (end - at) (drop at piece)) in
    let short : length more ≤ 140000 = omega (arith, few, length-take count (take (end - at) (drop at piece)), length-take (end - at) (drop at piece), length-drop at piece) in
    ap (λ n. take n (drop at piece)) e
    ∙ sym (take-take count (end - at) (drop at piece) within)
    ∙ sym (head_of-short more short)
    ∙ ap (λ l. head_of (l ++ more)) (sym (kept-none kept rest none is))
