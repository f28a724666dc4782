-- What `cmp` of two link keys says: the order of keys, and equality.
use Rattle.std.proofs.Common.{◌≡◌, ℕ, ◌<◌, ◌⊎◌, ⊎_elim, inl, inr, refl, arith, ap, sym, ◌∙◌, true}
use Rattle.std.specs.declared.cmp.Ordering.{Ordering}
use Rattle.std.specs.declared.cmp.Ordering.TheVariants.{Less, Equal, Greater}
use Rattle.std.specs.Ordering.{is_eq, nat_cmp, ordering_then}
use Rattle.std.specs.Cmp.{IsTotalOrder}
use Rattle.std.proofs.lemmas.Cmp.{ranked, by_ranked, tied_itself}
use Rattle.sr_model.specs.declared.name.Ident.{Ident}
use Rattle.sr_model.specs.declared.name.Ident.TheVariants.{None, Addr, Link}
use Rattle.sr_model.specs.declared.name.LinkKey.{LinkKey}
use Rattle.sr_model.specs.contracts.name.IdentOrd.TheImpl as ident
use Rattle.sr_model.specs.contracts.name.LinkKeyOrd.TheImpl.Laws.{total-law}
use Rattle.sr_model.specs.Key.{KeyLt, IdentLt}
use Rattle.sr_model.specs.KeyOrder.{key_cmp}

pub is_eq-true : (r : Ordering) → is_eq r ≡ true → r ≡ Equal
is_eq-true Less e = absurd (cc)
is_eq-true Equal e = refl
is_eq-true Greater e = absurd (cc)

pub key_total : IsTotalOrder key_cmp
key_total = total-law

abbrev ident_cmp : Ident → Ident → Ordering
ident_cmp = ident.cmp-value.it

then-less : (x y : ℕ) (r : Ordering) → ordering_then (nat_cmp x y) r ≡ Less → (x < y) ⊎ ((x ≡ y) × (r ≡ Less))
then-less x y r h =
    by_ranked (x < y) (x ≡ y) (y < x) (nat_cmp x y) (ranked x y (nat_cmp x y) refl)
    (λ e lt. inl lt)
    (λ e same. inr (same, ap (λ t. ordering_then t r) (sym e) ∙ h))
    (λ e gt. absurd (let bad : Greater ≡ Less = ap (λ t. ordering_then t r) (sym e) ∙ h in cc))

then-equal : (x y : ℕ) (r : Ordering) → ordering_then (nat_cmp x y) r ≡ Equal → (x ≡ y) × (r ≡ Equal)
then-equal x y r h =
    by_ranked (x < y) (x ≡ y) (y < x) (nat_cmp x y) (ranked x y (nat_cmp x y) refl)
    (λ e lt. absurd (let bad : Less ≡ Equal = ap (λ t. ordering_then t r) (sym e) ∙ h in cc))
    (λ e same. (same, ap (λ t. ordering_then t r) (sym e) ∙ h))
    (λ e gt. absurd (let bad : Greater ≡ Equal = ap (λ t. ordering_then t r) (sym e) ∙ h in cc))

lt-from_cmp : (x y : ℕ) → nat_cmp x y ≡ Less → x < y
lt-from_cmp x y h =
    by_ranked (x < y) (x ≡ y) (y < x) (nat_cmp x y) (ranked x y (nat_cmp x y) refl)
    (λ e lt. lt)
    (λ e same. absurd (let bad : Equal ≡ Less = sym e ∙ h in cc))
    (λ e gt. absurd (let bad : Greater ≡ Less = sym e ∙ h in cc))

same-from_cmp : (x y : ℕ) → nat_cmp x y ≡ Equal → x ≡ y
same-from_cmp x y h =
    by_ranked (x < y) (x ≡ y) (y < x) (nat_cmp x y) (ranked x y (nat_cmp x y) refl)
    (λ e lt. absurd (let bad : Less ≡ Equal = sym e ∙ h in cc))
    (λ e same. same)
    (λ e gt. absurd (let bad : Greater ≡ Equal = sym e ∙ h in cc))

PairLt-from_cmp : (a b c d : ℕ) → ordering_then (nat_cmp a c) (nat_cmp b d) ≡ Less → (a < c) ⊎ ((a ≡ c) × (b < d))
PairLt-from_cmp a b c d h = ⊎_elim (λ lt. inl lt) (λ rest. inr (rest.0, lt-from_cmp b d rest.1)) (then-less a c (nat_cmp b d) h)

IdentLt-from_cmp : (a b : Ident) → ident_cmp a b ≡ Less → IdentLt a b
IdentLt-from_cmp None None h = absurd (cc)
IdentLt-from_cmp None (Addr c d) h = tt
IdentLt-from_cmp None (Link c d) h = tt
IdentLt-from_cmp (Addr a b) None h = absurd (cc)
IdentLt-from_cmp (Addr a b) (Addr c d) h = PairLt-from_cmp a b c d h
IdentLt-from_cmp (Addr a b) (Link c d) h = tt
IdentLt-from_cmp (Link a b) None h = absurd (cc)
IdentLt-from_cmp (Link a b) (Addr c d) h = absurd (cc)
IdentLt-from_cmp (Link a b) (Link c d) h = PairLt-from_cmp a b c d h

ident-from_cmp : (a b : Ident) → ident_cmp a b ≡ Equal → a ≡ b
ident-from_cmp None None h = refl
ident-from_cmp None (Addr c d) h = absurd (cc)
ident-from_cmp None (Link c d) h = absurd (cc)
ident-from_cmp (Addr a b) None h = absurd (cc)
ident-from_cmp (Addr a b) (Addr c d) h =
    let first = then-equal a c (nat_cmp b d) h in
    let second : b ≡ d = same-from_cmp b d first.1 in
    cc
ident-from_cmp (Addr a b) (Link c d) h = absurd (cc)
ident-from_cmp (Link a b) None h = absurd (cc)
ident-from_cmp (Link a b) (Addr c d) h = absurd (cc)
ident-from_cmp (Link a b) (Link c d) h =
    let first = then-equal a c (nat_cmp b d) h in
    let second : b ≡ d = same-from_cmp b d first.1 in
    cc

abbrev key_made : ℕ → ℕ → Ident → LinkKey
key_made from to id = record { from = from; to = to; ident = id }

-- keys of the same nodes with the same identity are the same
pub key-parts : (a b : LinkKey) → a.from ≡ b.from → a.to ≡ b.to → a.ident ≡ b.ident → a ≡ b
key-parts a b from to id = ap (λ n. key_made n a.to a.ident) from ∙ ap (λ n. key_made b.from n a.ident) to ∙ ap (key_made b.from b.to) id

-- `Less` is the order of keys
pub KeyLt-from_cmp : (a b : LinkKey) → key_cmp a b ≡ Less → KeyLt a b
KeyLt-from_cmp a b h =
    ⊎_elim
    (λ lt. inl lt)
    (λ rest. inr (rest.0, ⊎_elim (λ lt. inl lt) (λ last. inr (last.0, IdentLt-from_cmp a.ident b.ident last.1)) (then-less a.to b.to (ident_cmp a.ident b.ident) rest.1)))
    (then-less a.from b.from (ordering_then (nat_cmp a.to b.to) (ident_cmp a.ident b.ident)) h)

-- `Equal` is equality
pub key-from_cmp : (a b : LinkKey) → key_cmp a b ≡ Equal → a ≡ b
key-from_cmp a b h =
    let first = then-equal a.from b.from (ordering_then (nat_cmp a.to b.to) (ident_cmp a.ident b.ident)) h in
    let second = then-equal a.to b.to (ident_cmp a.ident b.ident) first.1 in
    key-parts a b first.0 second.0 (ident-from_cmp a.ident b.ident second.1)

pub key_cmp-same : (a b : LinkKey) → a ≡ b → key_cmp a b ≡ Equal
key_cmp-same a b e = ap (key_cmp a) (sym e) ∙ tied_itself key_total a

then_from : (x y : ℕ) (r : Ordering) → (x < y) ⊎ ((x ≡ y) × (r ≡ Less)) → ordering_then (nat_cmp x y) r ≡ Less
then_from x y r h =
    by_ranked (x < y) (x ≡ y) (y < x) (nat_cmp x y) (ranked x y (nat_cmp x y) refl)
    (λ e lt. ap (λ t. ordering_then t r) e)
    (λ e same. ap (λ t. ordering_then t r) e ∙ ⊎_elim (λ lt. absurd (omega arith)) (λ rest. rest.1) h)
    (λ e gt. ⊎_elim (λ lt. absurd (omega arith)) (λ rest. absurd (let same : x ≡ y = rest.0 in omega arith)) h)

nat_cmp-lt : (x y : ℕ) → x < y → nat_cmp x y ≡ Less
nat_cmp-lt x y lt =
    by_ranked (x < y) (x ≡ y) (y < x) (nat_cmp x y) (ranked x y (nat_cmp x y) refl)
    (λ e _. e)
    (λ e same. absurd (omega arith))
    (λ e gt. absurd (omega arith))

pair-from : (a b c d : ℕ) → (a < c) ⊎ ((a ≡ c) × (b < d)) → ordering_then (nat_cmp a c) (nat_cmp b d) ≡ Less
pair-from a b c d h = then_from a c (nat_cmp b d) (⊎_elim (λ lt. inl lt) (λ rest. inr (rest.0, nat_cmp-lt b d rest.1)) h)

ident_cmp-lt : (a b : Ident) → IdentLt a b → ident_cmp a b ≡ Less
ident_cmp-lt None None h = absurd h
ident_cmp-lt None (Addr c d) h = refl
ident_cmp-lt None (Link c d) h = refl
ident_cmp-lt (Addr a b) None h = absurd h
ident_cmp-lt (Addr a b) (Addr c d) h = pair-from a b c d h
ident_cmp-lt (Addr a b) (Link c d) h = refl
ident_cmp-lt (Link a b) None h = absurd h
ident_cmp-lt (Link a b) (Addr c d) h = absurd h
ident_cmp-lt (Link a b) (Link c d) h = pair-from a b c d h

pub key_cmp-lt : (a b : LinkKey) → KeyLt a b → key_cmp a b ≡ Less
key_cmp-lt a b h =
    then_from a.from b.from (ordering_then (nat_cmp a.to b.to) (ident_cmp a.ident b.ident))
    (⊎_elim
    (λ lt. inl lt)
    (λ rest. inr (rest.0, then_from a.to b.to (ident_cmp a.ident b.ident) (⊎_elim (λ lt. inl lt) (λ last. inr (last.0, ident_cmp-lt a.ident b.ident last.1)) rest.1)))
    h)
