-- A text has one run of pieces, and one first fault, where no piece begins another.
use Rattle.std.proofs.Common.{◌≡◌, ℕ, ◌+◌, inl, inr, ◌⊎◌, List, [], ◌∷◌, ◌++◌, length, refl, sym, ap, ◌∙◌, subst, append_assoc}
use Rattle.std.specs.List.{flat_map, AllByRecursion}
use Rattle.sr_wire.proofs.Codes.{IsCode, same_pieces}
use Rattle.sr_wire.specs.declared.fault.Check.{Check}
use Rattle.sr_wire.specs.Run.{FaultyPiece, Layout, IsRun, NoPiece, RunFault}

-- octets are one run
pub same_run : {X : Type 0} (layout : Layout X) → IsCode layout.is layout.text → (octets : List ℕ) (xs ys : List X) → IsRun layout octets xs → IsRun layout octets ys → xs ≡ ys
same_run layout code octets xs ys a b = same_pieces layout.is layout.text code xs ys a.each b.each (sym a.text ∙ b.text)

-- a piece has no fault inside
abbrev pub IsSound : {X : Type 0} → Layout X → X → Type 0
IsSound layout x = (at : ℕ) (check : Check) → layout.fault x at check → ⊥

-- a run goes no further: no whole piece stands there, or one with a fault inside
abbrev Stops : {X : Type 0} → Layout X → List ℕ → Type 0
Stops layout rest = NoPiece layout rest ⊎ ((at : ℕ) × (check : Check) × FaultyPiece layout rest at check)

-- a run goes further where a whole piece without a fault stands
no_stop : {X : Type 0} (layout : Layout X) → IsCode layout.is layout.text → (rest : List ℕ) (x : X) (more : List ℕ) → layout.is x → IsSound layout x → rest ≡ layout.text x ++ more → Stops layout rest → ⊥
no_stop {X = X} layout code rest x more is sound text stops =
    elim stops [
      | inl none ↦ none.none x more is text
      | inr some ↦ (let faulty = some.2 in
          let same = code.one faulty.piece x faulty.rest more faulty.is is (sym faulty.text ∙ text) in
          let P : X → Type 0 = λ y. layout.fault y some.0 some.1 in
          sound some.0 some.1 (subst P same.0 faulty.fault))
    ]

-- the same pieces, and the same rest
record SameFront {X : Type 0} (xs ys : List X) (rest other : List ℕ) : Type 0 where
  pub pieces : xs ≡ ys
  pub rests : rest ≡ other

-- where two runs of one text go no further, they are one
same_front : {X : Type 0} (layout : Layout X) → IsCode layout.is layout.text → (xs ys : List X) (rest other : List ℕ) → AllByRecursion layout.is xs → AllByRecursion layout.is ys
    → AllByRecursion (IsSound layout) xs → AllByRecursion (IsSound layout) ys → flat_map layout.text xs ++ rest ≡ flat_map layout.text ys ++ other
    → Stops layout rest → Stops layout other → SameFront xs ys rest other
same_front layout code [] [] rest other px py sx sy e a b = record { pieces = refl; rests = e }
same_front layout code [] (y ∷ ys) rest other px py sx sy e a b =
    absurd (no_stop layout code rest y (flat_map layout.text ys ++ other) py.0 sy.0 (e ∙ append_assoc (layout.text y) (flat_map layout.text ys) other) a)
same_front layout code (x ∷ xs) [] rest other px py sx sy e a b =
    absurd (no_stop layout code other x (flat_map layout.text xs ++ rest) px.0 sx.0 (sym e ∙ append_assoc (layout.text x) (flat_map layout.text xs) rest) b)
same_front layout code (x ∷ xs) (y ∷ ys) rest other px py sx sy e a b =
    let heads = code.one x y (flat_map layout.text xs ++ rest) (flat_map layout.text ys ++ other) px.0 py.0
    (sym (append_assoc (layout.text x) (flat_map layout.text xs) rest) ∙ e ∙ append_assoc (layout.text y) (flat_map layout.text ys) other) in
    let tails = same_front layout code xs ys rest other px.1 py.1 sx.1 sy.1 heads.1 a b in
    record { pieces = ap (λ z. z ∷ xs) heads.0 ∙ ap (λ zs. y ∷ zs) tails.pieces; rests = tails.rests }

-- one place, and one check
pub record SamePlace (at other : ℕ) (check check' : Check) : Type 0 where
  pub places : at ≡ other
  pub checks : check ≡ check'

-- a piece has at most one fault
abbrev pub HasOneFault : {X : Type 0} → Layout X → Type 0
HasOneFault {X = X} layout = (x : X) (at other : ℕ) (check check' : Check) → layout.fault x at check → layout.fault x other check' → SamePlace at other check check'

-- a run stops at its first fault
stops_there : {X : Type 0} (layout : Layout X) (own : Check) (octets : List ℕ) (at : ℕ) (check : Check) (fault : RunFault layout own octets at check) → Stops layout fault.rest
stops_there layout own octets at check fault = elim fault.here [ inl here ↦ inl here.0 | inr here ↦ inr (here.0, check, here.1) ]

-- the piece that stands next has at most one fault
same_piece_fault : {X : Type 0} (layout : Layout X) → IsCode layout.is layout.text → HasOneFault layout → (rest : List ℕ) (at other : ℕ) (check check' : Check)
    → FaultyPiece layout rest at check → FaultyPiece layout rest other check' → SamePlace at other check check'
same_piece_fault {X = X} layout code one rest at other check check' a b =
    let same = code.one a.piece b.piece a.rest b.rest a.is b.is (sym a.text ∙ b.text) in
    let P : X → Type 0 = λ x. layout.fault x at check in
    one b.piece at other check check' (subst P same.0 a.fault) b.fault

-- what a run's first fault is, where the pieces before it have that many octets
abbrev Here : {X : Type 0} → Layout X → Check → List ℕ → ℕ → ℕ → Check → Type 0
Here layout own rest long at check = (NoPiece layout rest × (at ≡ long) × (check ≡ own)) ⊎ ((inside : ℕ) × FaultyPiece layout rest inside check × (at ≡ long + inside))

-- the first fault behind given pieces is one
same_here : {X : Type 0} (layout : Layout X) → IsCode layout.is layout.text → HasOneFault layout → (own : Check) (rest : List ℕ) (long at other : ℕ) (check check' : Check)
    → Here layout own rest long at check → Here layout own rest long other check' → SamePlace at other check check'
same_here layout code one own rest long at other check check' a b =
    elim a [
      | inl none ↦ elim b [
        | inl alike ↦ record { places = none.1 ∙ sym alike.1; checks = none.2 ∙ sym alike.2 }
        | inr some ↦ absurd (none.0.none some.1.piece some.1.rest some.1.is some.1.text)
      ]
      | inr faulty ↦ elim b [
        | inl none ↦ absurd (none.0.none faulty.1.piece faulty.1.rest faulty.1.is faulty.1.text)
        | inr alike ↦ (let same = same_piece_fault layout code one rest faulty.0 alike.0 check check' faulty.1 alike.1 in
            record { places = faulty.2 ∙ ap (λ (k : ℕ). long + k) same.places ∙ sym alike.2; checks = same.checks })
      ]
    ]

-- a run has one first fault
pub same_run_fault : {X : Type 0} (layout : Layout X) → IsCode layout.is layout.text → HasOneFault layout → (own : Check) (octets : List ℕ) (at other : ℕ) (check check' : Check)
    → RunFault layout own octets at check → RunFault layout own octets other check' → SamePlace at other check check'
same_run_fault {X = X} layout code one own octets at other check check' a b =
    let texts : flat_map layout.text a.before ++ a.rest ≡ flat_map layout.text b.before ++ b.rest =
    ap (λ (xs : List ℕ). xs ++ a.rest) (sym a.sound.text) ∙ sym a.text ∙ b.text ∙ ap (λ (xs : List ℕ). xs ++ b.rest) b.sound.text in
    let same : SameFront a.before b.before a.rest b.rest = same_front layout code a.before b.before a.rest b.rest a.sound.each b.sound.each a.sound.sound b.sound.sound texts
    (stops_there layout own octets at check a) (stops_there layout own octets other check' b) in
    let fronts : a.front ≡ b.front = a.sound.text ∙ ap (λ (xs : List X). flat_map layout.text xs) same.pieces ∙ sym b.sound.text in
    let P : List ℕ → Type 0 = λ rest. Here layout own rest (length a.front) at check in
    let Q : ℕ → Type 0 = λ long. Here layout own b.rest long at check in
    same_here layout code one own b.rest (length b.front) at other check check' (subst Q (ap length fronts) (subst P same.rests a.here)) b.here
