-- What the tests for the same graph tell.
use Rattle.std.proofs.Common.{◌≡◌, ◌↔◌, Bool, true, false, IsTrue, refl, ap, sym, ◌∙◌}
use Rattle.std.specs.Bool.{Decides}
use Rattle.std.proofs.lemmas.Bool.Decides.{Decides-eqb, Decides-and, Decides-like}
use Rattle.sr_model.specs.declared.link.Link.{Link}
use Rattle.sr_model.specs.declared.name.Ident.{Ident}
use Rattle.sr_model.specs.declared.name.Ident.TheVariants.{None, Addr, Link as Numbers}
use Rattle.sr_model.specs.declared.name.LinkKey.{LinkKey}
use Rattle.sr_model.specs.contracts.name.IdentPartialEq.TheImpl as ident
use Rattle.sr_model.specs.contracts.name.LinkKeyPartialEq.TheImpl as key
use Rattle.sr_model.specs.contracts.link.LinkPartialEq.TheImpl as link
use Rattle.sr_model.specs.Graph.{Graph}

-- `==` of two identities
idents-decide : (a b : Ident) → Decides (ident.eq-value.it a b) (a ≡ b)
idents-decide None None = (λ h. refl, λ h. refl)
idents-decide None (Addr c d) = (λ h. absurd (cc), λ h. absurd (cc))
idents-decide None (Numbers c d) = (λ h. absurd (cc), λ h. absurd (cc))
idents-decide (Addr a b) None = (λ h. absurd (cc), λ h. absurd (cc))
idents-decide (Addr a b) (Addr c d) = Decides-like _ (λ h. let one = h.0 in let two = h.1 in cc) (λ h. (cc, cc)) (Decides-and _ _ (Decides-eqb a c) (Decides-eqb b d))
idents-decide (Addr a b) (Numbers c d) = (λ h. absurd (cc), λ h. absurd (cc))
idents-decide (Numbers a b) None = (λ h. absurd (cc), λ h. absurd (cc))
idents-decide (Numbers a b) (Addr c d) = (λ h. absurd (cc), λ h. absurd (cc))
idents-decide (Numbers a b) (Numbers c d) = Decides-like _ (λ h. let one = h.0 in let two = h.1 in cc) (λ h. (cc, cc)) (Decides-and _ _ (Decides-eqb a c) (Decides-eqb b d))

-- `==` of two keys
keys-decide : (a b : LinkKey) → Decides (key.eq-value.it a b) (a ≡ b)
keys-decide a b =
    Decides-like _
    (λ h i. record { from = h.0 i; to = h.1.0 i; ident = h.1.1 i })
    (λ h. (ap (λ (k : LinkKey). k.from) h, (ap (λ (k : LinkKey). k.to) h, ap (λ (k : LinkKey). k.ident) h)))
    (Decides-and _ _ (Decides-eqb a.from b.from) (Decides-and _ _ (Decides-eqb a.to b.to) (idents-decide a.ident b.ident)))

-- `==` of two links
pub links-decide : (a b : Link) → Decides (link.eq-value.it a b) (a ≡ b)
links-decide a b =
    Decides-like _
    (λ h i. record { key = h.0 i; from = record { 0 = h.1.0 i }; to = record { 0 = h.1.1.0 i }; metric = h.1.1.1 i })
    (λ h. (ap (λ (l : Link). l.key) h, (ap (λ (l : Link). l.from.0) h, (ap (λ (l : Link). l.to.0) h, ap (λ (l : Link). l.metric) h))))
    (Decides-and _ _ (keys-decide a.key b.key) (Decides-and _ _ (Decides-eqb a.from.0 b.from.0) (Decides-and _ _ (Decides-eqb a.to.0 b.to.0) (Decides-eqb a.metric b.metric))))

-- a test that is made only where the one before it is met
pub then-tested : {P Q : Type 0} (r t v : Bool) → Decides r P → r ≡ true → v ≡ t → Decides t Q → Decides v (P × Q)
then-tested r t v p met is q = (λ yes. (p.0 met, q.0 (sym is ∙ yes)), λ both. is ∙ q.1 both.1)

pub else-left : {P Q : Type 0} (r v : Bool) → Decides r P → r ≡ false → v ≡ r → Decides v (P × Q)
else-left r v p missed is = (λ yes. absurd (cc), λ both. let met : r ≡ true = p.1 both.0 in absurd (cc))

-- the graphs are the same up to their groups
abbrev pub AreSameUpToGroups : Graph → Graph → Type 0
AreSameUpToGroups g h = ((g.systems ≡ h.systems) × (g.links ≡ h.links)) × (g.overloaded ≡ h.overloaded)

-- the last test, where those before it are met; x and y are what the graphs hold
pub same-told : (x y g h : Graph) (v r : Bool) → x ≡ g → y ≡ h → Decides v (AreSameUpToGroups x y) → v ≡ true → IsTrue r ↔ (x.groups ≡ y.groups) → IsTrue r ↔ (g ≡ h)
same-told x y g h v r one other tests met groups =
    let same : AreSameUpToGroups x y = tests.0 met in (
      λ yes. sym one ∙ (λ i. record { systems = same.0.0 i; links = same.0.1 i; groups = groups.0 yes i; overloaded = same.1 i }) ∙ other,
      λ is. groups.1 (ap (λ (k : Graph). k.groups) (one ∙ is ∙ sym other)),
    )

-- where one before it isn't
pub other-told : (x y g h : Graph) (v : Bool) → x ≡ g → y ≡ h → Decides v (AreSameUpToGroups x y) → v ≡ false → IsTrue v ↔ (g ≡ h)
other-told x y g h v one other tests missed = (
  λ yes. absurd (cc),
  λ is.
      let same : x ≡ y = one ∙ is ∙ sym other in
      tests.1 ((ap (λ (k : Graph). k.systems) same, ap (λ (k : Graph). k.links) same), ap (λ (k : Graph). k.overloaded) same),
)
