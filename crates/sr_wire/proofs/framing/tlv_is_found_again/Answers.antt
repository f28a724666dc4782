use Rattle.std.proofs.Common.{◌++◌, length, sym}
use Rattle.std.proofs.Math.Seq.{drop-append_seam}
use Rattle.sr_wire.specs.Tlv.{tlv_text}
use Rattle.sr_wire.proofs.TlvLemmas.{one_frame}
use Rattle.sr_wire.proofs.framing.tlv_is_found_again.Goals as goal

pub returns-clause-found : goal.returns-clause-found
returns-clause-found c = λ before rest tlv frame is.
    sym (one_frame (before ++ (tlv_text tlv ++ rest)) (length before) frame tlv rest is (drop-append_seam before (tlv_text tlv ++ rest)))

pub returns-clause-fits : goal.returns-clause-fits
returns-clause-fits c = λ before rest tlv is. is.none tlv rest (drop-append_seam before (tlv_text tlv ++ rest))
