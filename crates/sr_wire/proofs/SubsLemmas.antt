-- The loop over sub-TLVs.
use Rattle.std.proofs.Common.{ℕ, ◌++◌, List, [], ◌∷◌}
use Rattle.sr_wire.specs.declared.place.Frame.{Frame}
use Rattle.sr_wire.specs.Tlv.{Tlv, framed, IsFrame}
use Rattle.sr_wire.specs.Sub.{sub_layout}
use Rattle.sr_wire.proofs.SubLemmas.{RunSoFar, one_sub}

-- sub-TLVs before a place, which say this
pub record SaidSoFar {S : Type 0} (said : List Tlv → S → Type 0) (run : List ℕ) (at : ℕ) (x : S) : Type 0 where
  pub subs : List Tlv
  pub so_far : RunSoFar sub_layout run at subs
  pub say : said subs x

-- one sub-TLV more
pub one_said : {S : Type 0} (said : List Tlv → S → Type 0) (run : List ℕ) (at : ℕ) (frame : Frame) (x y : S) → SaidSoFar said run at x → IsFrame run at frame
    → ((subs : List Tlv) → said subs x → said (subs ++ framed run frame ∷ []) y) → SaidSoFar said run frame.to y
one_said said run at frame x y s found adds = record { subs = s.subs ++ framed run frame ∷ []; so_far = one_sub run at frame s.subs s.so_far found; say = adds s.subs s.say }
