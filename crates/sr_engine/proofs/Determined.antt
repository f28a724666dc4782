-- A text has one list of lines.
use Rattle.std.proofs.Common.{◌≡◌, ℕ, List, [], ◌∷◌, ◌++◌, refl, sym, ap, ◌∙◌, append_assoc}
use Rattle.std.specs.List.{flat_map}
use Rattle.sr_engine.specs.Lines.{Splits, IsUnbroken, AreUnbroken, with_feed}

-- two lines are the same, and so is what follows them
record Same (a b x y : List ℕ) : Type 0 where
  line : a ≡ b
  later : x ≡ y

-- the first line feed stands at one place
first-feed : (a b x y : List ℕ) → IsUnbroken a → IsUnbroken b → a ++ 10 ∷ x ≡ b ++ 10 ∷ y → Same a b x y
first-feed [] [] x y p q e = record { line = refl; later = cc }
first-feed [] (c ∷ b) x y p q e = let h : c ≡ 10 = cc in absurd (q.0 h)
first-feed (c ∷ a) [] x y p q e = let h : c ≡ 10 = cc in absurd (p.0 h)
first-feed (c ∷ a) (d ∷ b) x y p q e =
    let t : a ++ 10 ∷ x ≡ b ++ 10 ∷ y = cc in
    let h : c ≡ d = cc in
    let s = first-feed a b x y p.1 q.1 t in
    record { line = ap (λ l. c ∷ l) s.line ∙ ap (λ n. n ∷ b) h; later = s.later }

no-feed : (a x rest : List ℕ) → IsUnbroken rest → a ++ 10 ∷ x ≡ rest → ⊥
no-feed [] x [] q e = cc
no-feed [] x (c ∷ rest) q e = let h : c ≡ 10 = cc in q.0 h
no-feed (c ∷ a) x [] q e = cc
no-feed (c ∷ a) x (d ∷ rest) q e = let t : a ++ 10 ∷ x ≡ rest = cc in no-feed a x rest q.1 t

-- lines and a rest as one text, with the first line in front
front : (line : List ℕ) (lines : List (List ℕ)) (rest : List ℕ) → flat_map with_feed (line ∷ lines) ++ rest ≡ line ++ 10 ∷ (flat_map with_feed lines ++ rest)
front line lines rest = append_assoc (line ++ 10 ∷ []) (flat_map with_feed lines) rest ∙ append_assoc line (10 ∷ []) (flat_map with_feed lines ++ rest)

lines-one : (lines others : List (List ℕ)) (rest other : List ℕ) → AreUnbroken lines → AreUnbroken others → IsUnbroken rest → IsUnbroken other
    → flat_map with_feed lines ++ rest ≡ flat_map with_feed others ++ other → (lines ≡ others) × (rest ≡ other)
lines-one [] [] rest other p q r s e = (refl, e)
lines-one [] (b ∷ others) rest other p q r s e = absurd (no-feed b (flat_map with_feed others ++ other) rest r (sym (e ∙ front b others other)))
lines-one (a ∷ lines) [] rest other p q r s e = absurd (no-feed a (flat_map with_feed lines ++ rest) other s (sym (front a lines rest) ∙ e))
lines-one (a ∷ lines) (b ∷ others) rest other p q r s e =
    let f = first-feed a b (flat_map with_feed lines ++ rest) (flat_map with_feed others ++ other) p.0 q.0 (sym (front a lines rest) ∙ e ∙ front b others other) in
    let t = lines-one lines others rest other p.1 q.1 r s f.later in
    (ap (λ l. l ∷ lines) f.line ∙ ap (λ ls. b ∷ ls) t.0, t.1)

pub splits-one : (bytes : List ℕ) (lines others : List (List ℕ)) (rest other : List ℕ) → Splits bytes lines rest → Splits bytes others other → (lines ≡ others) × (rest ≡ other)
splits-one bytes lines others rest other p q = lines-one lines others rest other p.each q.each p.last q.last (sym p.whole ∙ q.whole)
