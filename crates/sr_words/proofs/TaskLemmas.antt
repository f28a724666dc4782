-- Words of `make` that its command doesn't take, and why words ask for one task.
use Rattle.std.proofs.Common.{ℕ, ◌≡◌, ◌≤◌, Result, Ok, Err, IfErr, List, ◌∷◌, None, codes, length, ap, ap₂, sym, subst, refl, ◌∙◌, arith}
use Rattle.std.specs.Str.Parse.{digits_value, without_leading_plus}
use Rattle.clap.specs.Walk.{Row, Text}
use Rattle.sr_words.specs.declared.task.AskedTask.{AskedTask}
use Rattle.sr_words.specs.declared.task.AskedTask.TheVariants.{Run, Make}
use Rattle.sr_words.specs.Making.{Ranged, nodes_range, start_range, HasNumber, GiveNumbers, AreNumbersOf}
use Rattle.sr_words.specs.Tasks.{AskFor}
use Rattle.sr_words.specs.Laws.{WordsAskForOneTask}

pub asks-for-none : (first : Text) (rest : List Text) → 4 ≤ length first → AreNumbersOf rest None → (task : AskedTask) → ¬ AskFor (first ∷ rest) task
asks-for-none first rest long none Run asks =
    let is : first ≡ codes "run" = cc asks in
    let three : length first ≡ 3 = ap length is in
    absurd (omega (arith, three))
asks-for-none first rest long none (Make nodes start) asks =
    let is : rest ≡ asks.0 = cc asks.1 in
    none (nodes, start) (subst (λ (w : List Text). GiveNumbers w (nodes, start)) (sym is) asks.2)

-- a word is `run` or `make`, not both
run-is-not-make : codes "run" ≡ codes "make" → ⊥
run-is-not-make e = let long : 3 ≡ 4 = ap length e in omega (arith, long)

-- an option has one number
one-number : (range : Ranged) (rows : List Row) (n m : ℕ) → HasNumber range rows n → HasNumber range rows m → n ≡ m
one-number range rows n m a b =
    let same : a.text ≡ b.text = cc (a.given, b.given) in
    a.value ∙ (ap (λ (t : Text). digits_value 10 (without_leading_plus t)) same ∙ sym b.value)

-- words ask for one task
pub one-task : WordsAskForOneTask
one-task words Run Run a b = refl
one-task words Run (Make nodes start) a b = absurd (run-is-not-make (cc (sym a ∙ b.1)))
one-task words (Make nodes start) Run a b = absurd (run-is-not-make (cc (sym b ∙ a.1)))
one-task words (Make nodes start) (Make more again) a b =
    let rest : b.0 ≡ a.0 = cc (sym b.1 ∙ a.1) in
    let other = subst (λ (w : List Text). GiveNumbers w (more, again)) rest b.2 in
    ap₂ Make (one-number nodes_range _ nodes more a.2.shown.nodes other.shown.nodes) (one-number start_range _ start again a.2.shown.start other.shown.start)

-- what holds anyway holds of an error
pub error-has : {A E : Type 0} (r : Result A E) (P : Type 0) → P → IfErr r (λ _. P)
error-has (Ok a) P p = tt
error-has (Err e) P p = p
