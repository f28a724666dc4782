use Rattle.std.proofs.Common.{take, drop, append-nil, sym, ◌≡◌, ◌∙◌, take-append-drop}
use Rattle.sr_engine.proofs.answers.Answers.flush.Goals as goal

pub returns-in-Err : goal.returns-in-Err
returns-in-Err g c =
    let h = c.in-Err.ensures in
    let v : c.as_slice.result.now ≡ c.args.self.now = c.as_slice.ensures.value ∙ c.self.view_is in
    record {
      given = take h.bytes.0 c.as_slice.result.now;
      more = drop h.bytes.0 c.as_slice.result.now;
      appended = h.bytes.2;
      rest = append-nil c.args.self.now ∙ sym v ∙ sym (take-append-drop h.bytes.0 c.as_slice.result.now);
      cause = h.cause;
    }
