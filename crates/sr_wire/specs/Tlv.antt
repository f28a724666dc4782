-- Values behind their type and their length. The octets of TLVs are laid out so (ISO 10589, 9.9), and those of
-- sub-TLVs (RFC 5305, 3).
use Rattle.std.specs.Prelude.{◌≡◌, ℕ, ◌+◌, ◌≤◌, List, ◌∷◌, ◌++◌, length, drop, slice_range}
use Rattle.sr_wire.specs.declared.place.Frame.{Frame}
use Rattle.sr_wire.specs.declared.place.Overrun.{Overrun}

-- a type, and the octets of a value
pub record Tlv : Type 0 where
  pub kind : ℕ
  pub value : List ℕ

-- one octet of type, one of length, and the value
abbrev pub tlv_text : Tlv → List ℕ
tlv_text tlv = tlv.kind ∷ length tlv.value ∷ tlv.value

-- the TLV whose value stands in a frame of a run
abbrev pub framed : List ℕ → Frame → Tlv
framed run frame = record { kind = frame.kind; value = slice_range run frame.from frame.to }

-- a TLV begins at octet `at` of the run: its value stands behind two octets, and the run goes on behind the value
pub record IsFrame (run : List ℕ) (at : ℕ) (frame : Frame) : Type 0 where
  pub from : frame.from ≡ at + 2
  pub to : frame.from ≤ frame.to
  pub within : frame.to ≤ length run
  pub text : drop at run ≡ tlv_text (framed run frame) ++ drop frame.to run

-- no TLV begins at that octet, since the run ends before the TLV would
pub record IsOverrun (run : List ℕ) (overrun : Overrun) : Type 0 where
  pub none : (tlv : Tlv) (rest : List ℕ) → drop overrun.offset run ≡ tlv_text tlv ++ rest → ⊥
