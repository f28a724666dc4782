-- How a run ends.
use Rattle.std.proofs.Common.{◌≡◌, ℕ, ◌+◌, ◌≤◌, Bool, true, false, ◌||◌, List, [], ◌∷◌, ◌++◌, length, drop, refl, sym, ap, subst, ◌∙◌, arith, append_assoc, append-nil, inl, inr, ⊎_elim}
use Rattle.std.specs.List.{flat_map}
use Rattle.std.specs.declared.option.Option.{Option}
use Rattle.std.specs.declared.alloc.AllocError.{AllocError}
use Rattle.std.specs.Io.KnownBytes.{Consumes, Appends, IsAtEnd}
use Rattle.std.proofs.KnownBytes.{Consumes-trans, Consumes-kept}
use Rattle.std.proofs.lemmas.Grind.{flat_map-append}
use Rattle.sr_base.specs.Writing.{CauseOf}
use Rattle.sr_base.specs.Faults.{Rose}
use Rattle.sr_base.specs.declared.SinkFault.{SinkFault}
use Rattle.sr_base.specs.declared.SinkFault.TheVariants as fault
use Rattle.sr_engine.specs.declared.end.End.{End}
use Rattle.sr_engine.specs.declared.end.End.TheVariants.{Done, ReadFailed, Memory, TooMuch}
use Rattle.sr_engine.specs.declared.script.Fill.{Fill}
use Rattle.sr_engine.specs.declared.script.Fill.TheVariants as fill
use Rattle.sr_engine.specs.Lines.{AreUnbroken, with_feed, script_of, last_line}
use Rattle.sr_engine.specs.Replies.{Answering, Conduct, Replies, Script, Gave, Broke, HasSome, ToHead, ToLast}
use Rattle.sr_engine.specs.Written.{Written, Says, Breaks, Flushed}
use Rattle.sr_engine.specs.Reading.{Held, Streams, NextIs, HasRead, HasBroken, held_first}
use Rattle.sr_engine.specs.Going.{Going, Stand, stand}
use Rattle.sr_engine.specs.Endings.{Course, Devices, Ends, CountsShow, BeginsAnswers, BeginsOutput, OutputIs, Finishes, ending_of, shown}
use Rattle.sr_engine.proofs.Steps.{are_unbroken_append, unbroken_append}
use Rattle.sr_engine.proofs.Answering.{says-then, breaks-then, breaks-nothing, replies-then, replies-one}
use Rattle.sr_engine.proofs.Going.{going-start, going-none, going-read, found, found-none, filled, script-whole, script-split, regroup}

-- what is given of what was said, where all is in the sink
given-all : (start now : Written) (said : List ℕ) → start.gathered ≡ [] → now.gathered ≡ [] → Says start now said → Appends start.held now.held said
given-all start now said none sent p =
    let e : said ≡ p.given = ap (λ l. l ++ said) (sym none) ∙ p.rest ∙ ap (λ l. p.given ++ l) sent ∙ append-nil p.given in
    subst (Appends start.held now.held) (sym e) p.appended

counts-broken : (old new : Devices) (cause : SinkFault) → new.read_faults ≡ old.read_faults → CauseOf old.write_faults new.write_faults cause → CountsShow old new (ending_of cause)
counts-broken old new fault.Failed same rose = (rose, same)
counts-broken old new (fault.Memory e) same kept = (same, kept)

output-broken : {S : Type 0} (conduct : Conduct S) (left : Option (List ℕ)) (run : Course S) (cause : SinkFault)
    → BeginsOutput conduct run.opening left run.taken run.out → OutputIs conduct left run (ending_of cause)
output-broken conduct left run fault.Failed b = b
output-broken conduct left run (fault.Memory e) b = b

all-looked : (taken : List ℕ) (lines : List (List ℕ)) (rest unread : List ℕ) → script_of taken ≡ flat_map with_feed lines ++ (rest ++ unread) → unread ≡ [] → script_of taken ≡ flat_map with_feed lines ++ rest
all-looked taken lines rest unread is none = is ∙ ap (λ l. flat_map with_feed lines ++ (rest ++ l)) none ∙ ap (λ l. flat_map with_feed lines ++ l) (append-nil rest)

line-ended : (taken : List ℕ) (lines : List (List ℕ)) (rest more unread after : List ℕ) → script_of taken ≡ flat_map with_feed lines ++ (rest ++ unread) → unread ≡ more ++ 10 ∷ after
    → taken ≡ flat_map with_feed (lines ++ (rest ++ more) ∷ []) ++ (after ++ drop 33554432 taken)
line-ended taken lines rest more unread after is split =
    script-split taken
    ∙ ap (λ l. l ++ drop 33554432 taken)
    (is ∙ ap (λ l. flat_map with_feed lines ++ (rest ++ l)) split ∙ regroup (flat_map with_feed lines) rest more after ∙ ap (λ l. l ++ ([] ++ after)) (sym (flat_map-append with_feed lines ((rest ++ more) ∷ []))))
    ∙ append_assoc (flat_map with_feed (lines ++ (rest ++ more) ∷ [])) after (drop 33554432 taken)

-- the bytes are these lines and something behind them, and a beginning of their answers was given
front-begun : {S : Type 0} (answers : Answering S) (opening : S) (taken back out more said : List ℕ) (lines : List (List ℕ)) (refused : Bool) (last : S)
    → AreUnbroken lines → taken ≡ flat_map with_feed lines ++ back → Replies answers opening 1 lines said refused last → said ≡ out ++ more → BeginsAnswers answers opening taken out
front-begun answers opening taken back out more said lines refused last each is replies e = record {
  front = flat_map with_feed lines;
  back = back;
  taken_is = is;
  more = more;
  answered = record {
    lines = lines;
    rest = [];
    splits = record { whole = sym (append-nil (flat_map with_feed lines)); each = each; last = tt };
    refused = refused;
    last = last;
    replies = subst (λ l. Replies answers opening 1 lines l refused last) e replies;
  };
}

-- a beginning of what was said and of this was given, so the run ended
broken-so : {S : Type 0} (conduct : Conduct S) (opening : S) (start after : Streams) (taken all : List ℕ) (cause : SinkFault) (end : End) (final : S)
    → Consumes start.source.left after.source.left taken → length taken ≤ 33554433 → start.sink.gathered ≡ [] → (b : Breaks start.sink after.sink all cause)
    → after.source.faults ≡ start.source.faults → end ≡ ending_of cause
    → ((out more : List ℕ) → all ≡ out ++ more → BeginsOutput conduct opening after.source.left taken out)
    → Ends conduct opening start after end final
broken-so {S} conduct opening start after taken all cause end final took few none b same is begins =
    let e : all ≡ b.given ++ b.more = ap (λ l. l ++ all) (sym none) ∙ b.rest in
    let run : Course S = record { opening = opening; taken = taken; out = b.given; final = final } in
    subst (λ x. Ends conduct opening start after x final) (sym is) (record {
      ran = record {
        taken = taken;
        took = took;
        few = few;
        out = b.given;
        appended = b.appended;
        output = output-broken conduct after.source.left run cause (begins b.given b.more e);
      };
      counts = counts-broken (shown start) (shown after) cause same b.cause;
    })

-- nothing more was said than the answers so far
pub broke-here : {S : Type 0} {conduct : Conduct S} {opening : S} {start now after : Streams} {at : Stand S} {cause : SinkFault} {end : End} (final : S)
    → Going conduct opening start now at → start.sink.gathered ≡ [] → Breaks now.sink after.sink [] cause
    → after.source.left ≡ now.source.left → after.source.faults ≡ now.source.faults → end ≡ ending_of cause
    → Ends conduct opening start after end final
broke-here {S} {conduct} {opening} {start} {now} {after} {at} {cause} {end} final p none b kept same is =
    broken-so conduct opening start after p.taken p.said cause end final (subst (λ l. Consumes start.source.left l p.taken) (sym kept) p.took) (omega (arith, p.counted, p.few)) none
    (subst (λ l. Breaks start.sink after.sink l cause) (append-nil p.said) (breaks-then start.sink now.sink after.sink p.said [] cause p.says b)) (same ∙ p.reads) is
    (λ out more e. inl (front-begun conduct.answers opening p.taken ((p.rest ++ at.script.unread) ++ drop 33554432 p.taken) out more p.said p.lines at.refused at.state p.each
    (script-split p.taken ∙ ap (λ l. l ++ drop 33554432 p.taken) p.whole ∙ append_assoc (flat_map with_feed p.lines) (p.rest ++ at.script.unread) (drop 33554432 p.taken)) p.replies e))

-- memory was wanted by the reader
pub wants-memory : {S : Type 0} {conduct : Conduct S} {opening : S} {start now : Streams} {at : Stand S} (final : S) (error : AllocError)
    → Going conduct opening start now at → start.sink.gathered ≡ [] → Ends conduct opening start now Memory final
wants-memory {S} {conduct} {opening} {start} {now} {at} final error p none =
    broke-here final p none (breaks-nothing now.sink error) refl refl refl

-- memory was wanted before anything was read
pub early : {S : Type 0} (conduct : Conduct S) (opening final : S) (start : Streams) (error : AllocError) → start.sink.gathered ≡ [] → Ends conduct opening start start Memory final
early conduct opening final start error none = wants-memory final error (going-start conduct opening start held_first refl) none

-- the sink had a fault before more was read
pub broke-read : {S : Type 0} {conduct : Conduct S} {opening : S} {start now after : Streams} {at : Stand S} {script script' : Held} {b : Bool} {cause : SinkFault} {end : End} (final : S)
    → Going conduct opening start now at → start.sink.gathered ≡ [] → b ≡ false → NextIs at.script script b → HasBroken now after script script' cause → end ≡ ending_of cause
    → Ends conduct opening start after end final
broke-read {S} {conduct} {opening} {start} {now} {after} {at} {script} {script'} {b} {cause} {end} final p none left n h is =
    broke-here final (going-none script p (found-none at.script script b left n)) none h.breaks h.left h.faults is

-- a line feed was found, and a fault came while the line was answered
pub broke-line : {S : Type 0} {conduct : Conduct S} {opening : S} {start now : Streams} {at : Stand S} (script : Held) {way : Bool} {head : List ℕ} {after : Written} {cause : SinkFault} {end : End} (final : S)
    → Going conduct opening start now at → start.sink.gathered ≡ [] → way ≡ true → NextIs at.script script way → head ≡ script.line
    → Broke (ToHead conduct.answers at.state (at.number + 1) head) now.sink after cause → end ≡ ending_of cause
    → Ends conduct opening start (record { source = now.source; sink = after }) end final
broke-line {S} {conduct} {opening} {start} {now} {at} script {way} {head} {after} {cause} {end} final p none came n line_is b is =
    let f = found at.script script way came n in
    let then : Streams = record { source = now.source; sink = after } in
    ⊎_elim {A = b.text ≡ []} {B = HasSome (ToHead conduct.answers at.state (at.number + 1) head) b.text} {C = Ends conduct opening start then end final}
    (λ e. broke-here final p none (subst (λ l. Breaks now.sink after l cause) e b.breaks) refl refl is)
    (λ h.
    let line : List ℕ = p.rest ++ f.more in
    let which : at.number + 1 ≡ 1 + length p.lines = omega (arith, p.number_is) in
    let said : conduct.answers at.state (at.number + 1) line b.text h.refused h.new = h.is line (line_is ∙ f.line p.rest p.line) in
    let replies : Replies conduct.answers opening 1 (p.lines ++ line ∷ []) (p.said ++ b.text) (at.refused || h.refused) h.new =
    replies-then conduct.answers opening 1 p.lines (line ∷ []) p.said b.text at.refused h.refused at.state h.new p.replies
    (subst (λ n. Replies conduct.answers at.state n (line ∷ []) b.text h.refused h.new) which (replies-one conduct.answers at.state (at.number + 1) line b.text h.refused h.new said)) in
    broken-so conduct opening start then p.taken (p.said ++ b.text) cause end final p.took (omega (arith, p.counted, p.few)) none
    (breaks-then start.sink now.sink after p.said b.text cause p.says b.breaks) p.reads is
    (λ out more e. inl (front-begun conduct.answers opening p.taken (script.unread ++ drop 33554432 p.taken) out more (p.said ++ b.text) (p.lines ++ line ∷ []) (at.refused || h.refused) h.new
    (are_unbroken_append p.lines (line ∷ []) p.each (unbroken_append p.rest f.more p.unbroken f.unbroken, tt))
    (line-ended p.taken p.lines p.rest f.more at.script.unread script.unread p.whole f.split) replies e)))
    b.begins

-- the read failed
pub read-failed : {S : Type 0} {conduct : Conduct S} {opening : S} {start now after : Streams} {at : Stand S} {script script' : Held} {b : Bool} {what : Fill}
    → Going conduct opening start now at → start.sink.gathered ≡ [] → b ≡ false → NextIs at.script script b → what ≡ fill.Failed → HasRead now after script script' what
    → Ends conduct opening start after ReadFailed at.state
read-failed {S} {conduct} {opening} {start} {now} {after} {at} {script} {script'} {b} {what} before none left n is r =
    let p = going-read before left n r in
    let looked : script.unread ≡ [] = (found-none at.script script b left n).unread in
    let f = filled now.source after.source script script' what fill.Failed is r.fills in
    record {
      ran = record {
        taken = p.taken;
        took = Consumes-kept start.source.left now.source.left after.source.left p.taken p.took f.0;
        few = omega (arith, p.counted, p.few);
        out = p.said;
        appended = given-all start.sink after.sink p.said none r.sent.none p.says;
        output = record { lines = p.lines; rest = p.rest; splits = record { whole = sym (script-whole p.taken (omega (arith, p.counted, f.2))) ∙ all-looked p.taken p.lines p.rest script.unread p.whole looked; each = p.each; last = p.unbroken }; refused = at.refused; last = at.state; replies = p.replies };
      };
      counts = (subst (λ n. Rose n after.source.faults) p.reads f.1, p.says.faults);
    }

-- a byte too many came
pub too-much : {S : Type 0} {conduct : Conduct S} {opening : S} {start now after : Streams} {at : Stand S} {script script' : Held} {b : Bool} {what : Fill}
    → Going conduct opening start now at → start.sink.gathered ≡ [] → b ≡ false → NextIs at.script script b → what ≡ fill.TooMuch → HasRead now after script script' what
    → Ends conduct opening start after TooMuch at.state
too-much {S} {conduct} {opening} {start} {now} {after} {at} {script} {script'} {b} {what} before none left n is r =
    let p = going-read before left n r in
    let looked : script.unread ≡ [] = (found-none at.script script b left n).unread in
    let f = filled now.source after.source script script' what fill.TooMuch is r.fills in
    record {
      ran = record {
        taken = p.taken;
        took = subst (λ l. Consumes start.source.left l p.taken) (sym f.0) p.took;
        few = omega (arith, p.counted, p.few);
        out = p.said;
        appended = given-all start.sink after.sink p.said none r.sent.none p.says;
        output = (omega (arith, p.counted, f.1), record { lines = p.lines; rest = p.rest; splits = record { whole = all-looked p.taken p.lines p.rest script.unread p.whole looked; each = p.each; last = p.unbroken }; refused = at.refused; last = at.state; replies = p.replies });
      };
      counts = (f.2 ∙ p.reads, p.says.faults);
    }

-- the source is at its end, and this answers what is held and the end
script-said : {S : Type 0} {conduct : Conduct S} {opening : S} {start now : Streams} {at : Stand S} (text : List ℕ) (again : Bool) (final : S)
    → (p : Going conduct opening start now at) → at.script.unread ≡ [] → at.script.taken ≤ 33554432
    → ToLast conduct at.state (at.number + 1) at.script.line text again final → Script conduct opening p.taken (p.said ++ text) (at.refused || again) final
script-said {S} {conduct} {opening} {start} {now} {at} text again final p looked few last =
    let l = last p.rest p.line in
    let which : at.number + 1 ≡ 1 + length p.lines = omega (arith, p.number_is) in
    record {
      lines = p.lines;
      rest = p.rest;
      splits = record { whole = sym (script-whole p.taken (omega (arith, p.counted, few))) ∙ all-looked p.taken p.lines p.rest at.script.unread p.whole looked; each = p.each; last = p.unbroken };
      last = l.last;
      said = p.said ++ l.front;
      replies = replies-then conduct.answers opening 1 p.lines (last_line p.rest) p.said l.front at.refused again at.state l.last p.replies
          (subst (λ n. Replies conduct.answers at.state n (last_line p.rest) l.front again l.last) which l.is);
      tail = l.tail;
      end = l.end;
      whole = ap (λ x. p.said ++ x) l.whole ∙ sym (append_assoc p.said l.front l.tail);
    }

-- the source is at its end, all that was taken was looked at, and the script was read whole
record AtLast {S : Type 0} (conduct : Conduct S) (opening : S) (start now : Streams) (at : Stand S) : Type 0 where
  going : Going conduct opening start now at
  looked : at.script.unread ≡ []
  few : at.script.taken ≤ 33554432
  at_end : IsAtEnd now.source.left

at-last : {S : Type 0} {conduct : Conduct S} {opening : S} {start now mid : Streams} {at : Stand S} {script script' : Held} {b : Bool} {what : Fill}
    → Going conduct opening start now at → b ≡ false → NextIs at.script script b → what ≡ fill.End → HasRead now mid script script' what
    → AtLast conduct opening start mid (stand script at.number at.refused at.state) × (script'.line ≡ script.line)
at-last {S} {conduct} {opening} {start} {now} {mid} {at} {script} {script'} {b} {what} before left n is r =
    let p = going-read before left n r in
    let f = filled now.source mid.source script script' what fill.End is r.fills in
    let q : Going conduct opening start mid (stand script at.number at.refused at.state) = record {
      taken = p.taken;
      took = subst (Consumes start.source.left mid.source.left) (append-nil p.taken) (Consumes-trans start.source.left now.source.left mid.source.left p.taken [] p.took f.0);
      counted = p.counted;
      few = p.few;
      lines = p.lines;
      rest = p.rest;
      each = p.each;
      unbroken = p.unbroken;
      whole = p.whole;
      line = p.line;
      said = p.said;
      replies = p.replies;
      says = p.says;
      number_is = p.number_is;
      lent = p.lent;
      room = p.room;
      reads = f.3 ∙ p.reads;
    } in
    (record { going = q; looked = (found-none at.script script b left n).unread; few = f.2; at_end = f.1 }, ap (λ (s : Held). s.line) f.4)

-- a fault came while a last line and the end were answered, or behind them
last-broken : {S : Type 0} {conduct : Conduct S} {opening : S} {start now : Streams} {at : Stand S} {after : Written} {cause : SinkFault} {end : End} (final : S)
    → AtLast conduct opening start now at → start.sink.gathered ≡ [] → Broke (ToLast conduct at.state (at.number + 1) at.script.line) now.sink after cause → end ≡ ending_of cause
    → Ends conduct opening start (record { source = now.source; sink = after }) end final
last-broken {S} {conduct} {opening} {start} {now} {at} {after} {cause} {end} final l none b is =
    let p = l.going in
    let then : Streams = record { source = now.source; sink = after } in
    ⊎_elim {A = b.text ≡ []} {B = HasSome (ToLast conduct at.state (at.number + 1) at.script.line) b.text} {C = Ends conduct opening start then end final}
    (λ t. broke-here final p none (subst (λ x. Breaks now.sink after x cause) t b.breaks) refl refl is)
    (λ s. broken-so conduct opening start then p.taken (p.said ++ b.text) cause end final p.took (omega (arith, p.counted, p.few)) none
    (breaks-then start.sink now.sink after p.said b.text cause p.says b.breaks) p.reads is
    (λ out more x. inr (record {
      at_end = l.at_end;
      more = more;
      refused = at.refused || s.refused;
      final = s.new;
      script = subst (λ y. Script conduct opening p.taken y (at.refused || s.refused) s.new) x (script-said b.text s.refused s.new p l.looked l.few s.is);
    })))
    b.begins

-- the source is at its end, and a fault came while a last line and the end were answered
pub ended-broken : {S : Type 0} {conduct : Conduct S} {opening : S} {start now mid : Streams} {at : Stand S} {script script' : Held} {b : Bool} {what : Fill} {head : List ℕ} {after : Written} {cause : SinkFault} {end : End} (final : S)
    → Going conduct opening start now at → start.sink.gathered ≡ [] → b ≡ false → NextIs at.script script b → what ≡ fill.End → HasRead now mid script script' what
    → head ≡ script'.line → Broke (ToLast conduct at.state (at.number + 1) head) mid.sink after cause → end ≡ ending_of cause
    → Ends conduct opening start (record { source = mid.source; sink = after }) end final
ended-broken {S} {conduct} {opening} {start} {now} {mid} {at} {script} {script'} {b} {what} {head} {after} {cause} {end} final p none left n is r line_is e ending =
    let l = at-last p left n is r in
    last-broken final l.0 none (subst (λ x. Broke (ToLast conduct at.state (at.number + 1) x) mid.sink after cause) (line_is ∙ l.1) e) ending

-- the source is at its end, a last line and the end were answered so, and what was gathered was written, or there was
-- a fault
pub ended : {S : Type 0} {conduct : Conduct S} {opening : S} {start now mid : Streams} {at : Stand S} {script script' : Held} {b : Bool} {what : Fill} {head : List ℕ} {then after : Written} {again : Bool} {end : End} {final : S}
    → Going conduct opening start now at → start.sink.gathered ≡ [] → b ≡ false → NextIs at.script script b → what ≡ fill.End → HasRead now mid script script' what
    → head ≡ script'.line → Gave (ToLast conduct at.state (at.number + 1) head) mid.sink then again final → Finishes then after (at.refused || again) end
    → Ends conduct opening start (record { source = mid.source; sink = after }) end final
ended {S} {conduct} {opening} {start} {now} {mid} {at} {script} {script'} {b} {what} {head} {then} {after} {again} {end} {final} before none left n is r line_is gave t =
    let l = (at-last before left n is r).0 in
    let p = l.going in
    let same = line_is ∙ (at-last before left n is r).1 in
    let g = subst (λ x. Gave (ToLast conduct at.state (at.number + 1) x) mid.sink then again final) same gave in
    ⊎_elim {A = (end ≡ Done (at.refused || again)) × Flushed then after} {B = (fault : SinkFault) × Breaks then after [] fault × (end ≡ ending_of fault)} {C = Ends conduct opening start (record { source = mid.source; sink = after }) end final}
    (λ h.
    let says = subst (Says start.sink after) (append-nil (p.said ++ g.said)) (says-then start.sink then after (p.said ++ g.said) [] (says-then start.sink mid.sink then p.said g.said p.says g.says) h.1.says) in
    subst (λ x. Ends conduct opening start (record { source = mid.source; sink = after }) x final) (sym h.0) (record {
      ran = record {
        taken = p.taken;
        took = p.took;
        few = omega (arith, p.counted, p.few);
        out = p.said ++ g.said;
        appended = given-all start.sink after (p.said ++ g.said) none h.1.none says;
        output = (l.at_end, omega (arith, p.counted, l.few), script-said g.said again final p l.looked l.few g.is);
      };
      counts = (p.reads, says.faults);
    }))
    (λ h. last-broken final l none (record { text = g.said; breaks = subst (λ x. Breaks mid.sink after x h.0) (append-nil g.said) (breaks-then mid.sink then after g.said [] h.0 g.says h.1); begins = inr (record { refused = again; new = final; is = g.is }) }) h.2)
    t
