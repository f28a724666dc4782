-- Numbers and names that have the same parts are the same, and a test is true or false.
use Rattle.std.proofs.Common.{◌≡◌, ◌⊎◌, inl, inr, Bool, true, false, refl}
use Rattle.sr_model.specs.declared.link.LinkNo.{LinkNo}
use Rattle.sr_model.specs.declared.link.NodeNo.{NodeNo}

-- links of the same number are the same
pub link_is : (a b : LinkNo) → a.0 ≡ b.0 → a ≡ b
link_is a b e = let q : record { 0 = a.0 } ≡ record { 0 = b.0 } = rw e refl in q

-- nodes of the same number are the same
pub node_is : (a b : NodeNo) → a.0 ≡ b.0 → a ≡ b
node_is a b e = let q : record { 0 = a.0 } ≡ record { 0 = b.0 } = rw e refl in q

-- a test is true or false
pub true_or : (b : Bool) → (b ≡ true) ⊎ (b ≡ false)
true_or true = inl refl
true_or false = inr refl
