-- The first words of a text, kept in an array.
use Rattle.std.proofs.Common.{◌≡◌, ℕ, ◌+◌, ◌<◌, ◌≤◌, List, [], ◌∷◌, ◌++◌, map, length, take, get_or, set, sym, ap, ◌∙◌, arith, append_assoc, Bor}
use Rattle.std.proofs.Math.ListN.{get_or-eq_default}
use Rattle.std.proofs.lemmas.List.{take_more_set, map-append, append-nil, get_or-map, get_or-take, get_or_append_left, length-map, length-take}
use Rattle.sr_script.specs.Words.{word_at}

-- what the first m places show
abbrev pub kept : List (Bor (List ℕ)) → ℕ → List (List ℕ)
kept texts count = map (λ (text : Bor (List ℕ)). text.now) (take count texts)

pub length-kept : (texts : List (Bor (List ℕ))) (count : ℕ) → count ≤ length texts → length (kept texts count) ≡ count
length-kept texts count l = omega (arith, length-map (take count texts) (λ (text : Bor (List ℕ)). text.now), length-take count texts)

-- one more word is kept
pub one-more : (texts : List (Bor (List ℕ))) (count : ℕ) (word : Bor (List ℕ)) (rest behind all : List (List ℕ)) → count < length texts
    → kept texts count ++ rest ≡ all → rest ≡ word.now ∷ behind → kept (set texts count word) (count + 1) ++ behind ≡ all
one-more texts count word rest behind all l whole next =
    ap (λ ws. ws ++ behind) (ap (map (λ (text : Bor (List ℕ)). text.now)) (take_more_set texts count word l) ∙ map-append (λ (text : Bor (List ℕ)). text.now) (take count texts) (word ∷ []))
    ∙ append_assoc (kept texts count) (word.now ∷ []) behind ∙ ap (λ ws. kept texts count ++ ws) (sym next) ∙ whole

-- a word that is kept
pub kept-at : (texts : List (Bor (List ℕ))) (count place : ℕ) (other : Bor (List ℕ)) (behind : List (List ℕ)) → place < count → count ≤ length texts
    → (get_or texts place other).now ≡ word_at (kept texts count ++ behind) place
unfolding word_at
kept-at texts count place other behind l room =
    ap (λ (text : Bor (List ℕ)). text.now) (sym (get_or-take count texts place other l))
    ∙ sym (get_or-map (λ (text : Bor (List ℕ)). text.now) (take count texts) place other [] (omega (arith, length-take count texts)))
    ∙ sym (get_or_append_left (kept texts count) behind [] place (omega (arith, length-kept texts count room)))

-- no word stands behind those that are kept, where there are no others
pub none-kept : (texts : List (Bor (List ℕ))) (count place : ℕ) (behind : List (List ℕ)) → count ≤ place → behind ≡ [] → word_at (kept texts count ++ behind) place ≡ []
unfolding word_at
none-kept texts count place behind l none =
    ap (λ (ws : List (List ℕ)). get_or (kept texts count ++ ws) place []) none
    ∙ ap (λ (ws : List (List ℕ)). get_or ws place []) (append-nil (kept texts count))
    ∙ get_or-eq_default (kept texts count) [] (omega (arith, length-map (take count texts) (λ (text : Bor (List ℕ)). text.now), length-take count texts))
