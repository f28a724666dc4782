-- Words that give the values of a list, one each.
use Rattle.std.proofs.Common.{◌≡◌, ℕ, ◌+◌, ◌<◌, ◌≤◌, List, [], ◌∷◌, ◌++◌, length, get_or, map, drop, drop-cons, length-drop, add-one, Option, Some, None, refl, sym, ap, ◌∙◌, arith}
use Rattle.std.proofs.lemmas.List.{drop_all, length-map}
use Rattle.sr_script.specs.Words.{word_at}
use Rattle.sr_script.specs.Says.{Argument, IsGiven, AreGiven}
use Rattle.sr_script.specs.Answers.{IsListFault, IsValueFault}
use Rattle.sr_script.specs.declared.line.LineFault.{LineFault}
use Rattle.sr_script.specs.declared.line.LineFault.TheVariants.{TooLong, UnknownWord, BadForm, BadHex, Memory}

-- a list whose words give values so far, and then one that gives none
pub none-given : {T : Type 0} (values xs : List T) (rest : List (Option T)) → map Some xs ++ None ∷ rest ≡ map Some values → ⊥
none-given [] [] rest e = grind arith
none-given (v ∷ vs) [] rest e = grind arith
none-given [] (x ∷ xs) rest e = grind arith
none-given (v ∷ vs) (x ∷ xs) rest e = none-given vs xs rest (grind arith)

-- the fault of one value is that of the list
pub value-refused : {T : Type 0} (given : Option T) (values : List T) (rest whole : List (Option T)) (most : ℕ) (fault : LineFault)
    → whole ≡ map Some values ++ given ∷ rest → IsValueFault given fault → IsListFault whole most fault
value-refused given values rest whole most BadForm e none =
    λ all is. absurd (none-given all values rest (ap (λ o. map Some values ++ o ∷ rest) (sym none) ∙ sym e ∙ is))
value-refused given values rest whole most (Memory error) e none = tt
value-refused given values rest whole most TooLong e none = absurd none
value-refused given values rest whole most UnknownWord e none = absurd none
value-refused given values rest whole most BadHex e none = absurd none

-- what gives one list of values gives no other
pub values-one : {T : Type 0} (xs ys : List T) → map Some xs ≡ map Some ys → xs ≡ ys
values-one [] [] e = refl
values-one [] (y ∷ ys) e = grind arith
values-one (x ∷ xs) [] e = grind arith
values-one (x ∷ xs) (y ∷ ys) e =
    let rest : xs ≡ ys = values-one xs ys (grind arith) in
    let first : x ≡ y = grind arith in
    cc

-- ---- words that were passed

-- where none is left, none is left later
pub dropped-later : {T : Type 0} (k n : ℕ) (xs : List T) → drop k xs ≡ [] → k ≤ n → drop n xs ≡ []
dropped-later k n xs e le = drop_all n xs (omega (arith, le, ap length e, length-drop k xs))

-- behind the next word
pub dropped-next : {T : Type 0} (k : ℕ) (xs : List T) (y : T) (ys : List T) → drop k xs ≡ y ∷ ys → drop (k + 1) xs ≡ ys
dropped-next k xs y ys e =
    let some : k < length xs = omega (arith, ap length e, length-drop k xs) in
    let next : drop k xs ≡ get_or xs k y ∷ drop (k + 1) xs = rw add-one (drop-cons xs k y some) in
    let same : get_or xs k y ∷ drop (k + 1) xs ≡ y ∷ ys = sym next ∙ e in
    grind arith

-- ---- arguments

-- the words from place i on are the word there and those behind it
words-next : (ws : List (List ℕ)) (i : ℕ) → i < length ws → drop i ws ≡ word_at ws i ∷ drop (i + 1) ws
unfolding word_at
words-next ws i some = rw add-one (drop-cons ws i [] some)

-- words that give arguments give their values
pub values-read : (read : List ℕ → Option ℕ) (argument : ℕ → Argument) → ((word : List ℕ) (n : ℕ) → IsGiven word (argument n) → read word ≡ Some n)
    → (ws : List (List ℕ)) (i : ℕ) (values : List ℕ) → AreGiven ws i (map argument values) → length ws ≡ i + length values
    → map read (drop i ws) ≡ map Some values
values-read read argument to ws i [] given count = ap (map read) (drop_all i ws (omega (arith, count)))
values-read read argument to ws i (v ∷ vs) given count =
    let first : read (word_at ws i) ≡ Some v = to (word_at ws i) v given.0 in
    let rest : map read (drop (i + 1) ws) ≡ map Some vs = values-read read argument to ws (i + 1) vs given.1 (omega (arith, count)) in
    ap (map read) (words-next ws i (omega (arith, count))) ∙ ap (λ o. o ∷ map read (drop (i + 1) ws)) first ∙ ap (λ os. Some v ∷ os) rest

-- there are as many words as values
pub values-count : (read : List ℕ → Option ℕ) (ws : List (List ℕ)) (i : ℕ) (values : List ℕ) → i ≤ length ws → map read (drop i ws) ≡ map Some values
    → length ws ≡ i + length values
values-count read ws i values within e =
    let same : length (drop i ws) ≡ length values = sym (length-map (drop i ws) read) ∙ ap length e ∙ length-map values Some in
    omega (arith, same, length-drop i ws, within)

-- words that give values give their arguments
pub values-given : (read : List ℕ → Option ℕ) (argument : ℕ → Argument) → ((word : List ℕ) (n : ℕ) → read word ≡ Some n → IsGiven word (argument n))
    → (ws : List (List ℕ)) (i : ℕ) (values : List ℕ) → i ≤ length ws → map read (drop i ws) ≡ map Some values
    → AreGiven ws i (map argument values)
values-given read argument from ws i [] within e = tt
values-given read argument from ws i (v ∷ vs) within e =
    let count : length ws ≡ i + length (v ∷ vs) = values-count read ws i (v ∷ vs) within e in
    let next : read (word_at ws i) ∷ map read (drop (i + 1) ws) ≡ Some v ∷ map Some vs = sym (ap (map read) (words-next ws i (omega (arith, count)))) ∙ e in
    let first : read (word_at ws i) ≡ Some v = grind arith in
    let rest : map read (drop (i + 1) ws) ≡ map Some vs = grind arith in
    (from (word_at ws i) v first, values-given read argument from ws (i + 1) vs (omega (arith, count)) rest)
