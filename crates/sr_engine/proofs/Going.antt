-- How a run goes on from one step to the next.
use Rattle.std.proofs.Common.{◌≡◌, ℕ, ◌+◌, ◌-◌, ◌≤◌, Bool, true, false, ◌||◌, List, [], ◌∷◌, ◌++◌, length, take, drop, refl, sym, ap, subst, ◌∙◌, arith, append_assoc, append-nil, length-append, take-append-drop, length-take}
use Rattle.std.specs.List.{flat_map}
use Rattle.std.proofs.KnownBytes.{Consumes-trans, Consumes-nil}
use Rattle.std.proofs.lemmas.List.{take_all}
use Rattle.std.proofs.Math.Seq.{take-append-add}
use Rattle.std.proofs.lemmas.Grind.{flat_map-append}
use Rattle.sr_engine.specs.Lines.{with_feed, script_of}
use Rattle.sr_engine.specs.Replies.{Conduct, Replies, Gave, ToHead}
use Rattle.sr_engine.specs.Written.{Written, Says}
use Rattle.sr_engine.specs.Reading.{Held, Supply, Streams, Fills, FindsLine, FindsNone, NextIs, HasRead, held_after, held_first}
use Rattle.sr_engine.specs.declared.script.Fill.{Fill}
use Rattle.sr_engine.specs.declared.script.Fill.TheVariants.{More}
use Rattle.sr_engine.specs.Going.{Going, Stand, stand}
use Rattle.sr_engine.proofs.Steps.{kept-nothing, unbroken_append, are_unbroken_append}
use Rattle.sr_engine.proofs.Answering.{says-nothing, says-then, replies-then, replies-one}

pub script-whole : (taken : List ℕ) → length taken ≤ 33554432 → script_of taken ≡ taken
unfolding script_of
script-whole taken few = take_all 33554432 taken few

script-more : (taken piece : List ℕ) → length taken ≤ 33554432 → script_of (taken ++ piece) ≡ script_of taken ++ take (33554432 - length taken) piece
unfolding script_of
script-more taken piece few =
    let sum : length taken + (33554432 - length taken) ≡ 33554432 = omega arith in
    ap (λ n. take n (taken ++ piece)) (sym sum) ∙ take-append-add taken piece (33554432 - length taken) ∙ ap (λ l. l ++ take (33554432 - length taken) piece) (sym (take_all 33554432 taken few))

pub script-split : (taken : List ℕ) → taken ≡ script_of taken ++ drop 33554432 taken
unfolding script_of
script-split taken = sym (take-append-drop 33554432 taken)

script-none : script_of [] ≡ []
unfolding script_of
script-none = refl

pub regroup : (front rest more after : List ℕ) → front ++ (rest ++ (more ++ 10 ∷ after)) ≡ (front ++ (((rest ++ more) ++ 10 ∷ []) ++ [])) ++ ([] ++ after)
regroup front rest more after =
    ap (λ l. front ++ l) (sym (append_assoc rest more (10 ∷ after)) ∙ sym (append_assoc (rest ++ more) (10 ∷ []) after))
    ∙ sym (append_assoc front ((rest ++ more) ++ 10 ∷ []) after)
    ∙ ap (λ l. (front ++ l) ++ after) (sym (append-nil ((rest ++ more) ++ 10 ∷ [])))

-- ---- which way a step went

pub found : (old new : Held) (b : Bool) → b ≡ true → NextIs old new b → FindsLine old new
found old new b is n = subst (NextIs old new) is n

pub found-none : (old new : Held) (b : Bool) → b ≡ false → NextIs old new b → FindsNone old new
found-none old new b is n = subst (NextIs old new) is n

pub filled : (source source' : Supply) (old new : Held) (fill same : Fill) → fill ≡ same → Fills source source' old new fill → Fills source source' old new same
filled source source' old new fill same is f = subst (Fills source source' old new) is f

-- ---- the steps

-- a run begins
pub going-start : {S : Type 0} (conduct : Conduct S) (opening : S) (start : Streams) (script : Held) → script ≡ held_first → Going conduct opening start start (stand script 0 false opening)
going-start conduct opening start script is = record {
  taken = [];
  took = Consumes-nil start.source.left;
  counted = ap (λ (s : Held). s.taken) is;
  few = omega (arith, ap (λ (s : Held). s.taken) is);
  lines = [];
  rest = [];
  each = tt;
  unbroken = tt;
  whole = script-none ∙ sym (ap (λ (s : Held). s.unread) is);
  line = ap (λ (s : Held). s.line) is ∙ kept-nothing;
  said = [];
  replies = (refl, refl, refl);
  says = says-nothing start.sink;
  number_is = refl;
  lent = ap (λ (s : Held). s.lent) is;
  room = omega (arith, ap (λ (s : Held). s.taken) is, ap (λ (s : Held). length s.unread) is);
  reads = refl;
}

-- nothing was answered, and what was gathered moved on to the sink
pub going-says : {S : Type 0} {conduct : Conduct S} {opening : S} {start now : Streams} {at : Stand S} (after : Written)
    → Going conduct opening start now at → Says now.sink after [] → Going conduct opening start (record { source = now.source; sink = after }) at
going-says {S} {conduct} {opening} {start} {now} {at} after p q = record {
  says = subst (Says start.sink after) (append-nil p.said) (says-then start.sink now.sink after p.said [] p.says q);
  taken = p.taken;
  took = p.took;
  counted = p.counted;
  few = p.few;
  lines = p.lines;
  rest = p.rest;
  each = p.each;
  unbroken = p.unbroken;
  whole = p.whole;
  line = p.line;
  said = p.said;
  replies = p.replies;
  number_is = p.number_is;
  lent = p.lent;
  room = p.room;
  reads = p.reads;
}

-- no line feed was left
pub going-none : {S : Type 0} {conduct : Conduct S} {opening : S} {start now : Streams} {at : Stand S} (script : Held)
    → Going conduct opening start now at → FindsNone at.script script → Going conduct opening start now (stand script at.number at.refused at.state)
going-none {S} {conduct} {opening} {start} {now} {at} script p f = record {
  counted = f.taken ∙ p.counted;
  few = omega (arith, f.taken, p.few);
  rest = p.rest ++ at.script.unread;
  unbroken = unbroken_append p.rest at.script.unread p.unbroken f.unbroken;
  whole = p.whole ∙ ap (λ l. flat_map with_feed p.lines ++ l) (sym (append-nil (p.rest ++ at.script.unread)) ∙ ap (λ l. (p.rest ++ at.script.unread) ++ l) (sym f.unread));
  line = f.line p.rest p.line;
  lent = f.lent;
  room = omega (arith, p.room, f.taken, ap length f.unread);
  taken = p.taken;
  took = p.took;
  lines = p.lines;
  each = p.each;
  said = p.said;
  replies = p.replies;
  says = p.says;
  number_is = p.number_is;
  reads = p.reads;
}

-- a line feed was found, and the line was answered so and let go
pub going-line : {S : Type 0} {conduct : Conduct S} {opening : S} {start now : Streams} {at : Stand S} (script : Held) {spent : Held} {b : Bool} {head : List ℕ} {after : Written} {again : Bool} {next : S}
    → Going conduct opening start now at → b ≡ true → NextIs at.script script b → head ≡ script.line
    → Gave (ToHead conduct.answers at.state (at.number + 1) head) now.sink after again next → spent ≡ held_after script
    → Going conduct opening start (record { source = now.source; sink = after }) (stand spent (at.number + 1) (at.refused || again) next)
going-line {S} {conduct} {opening} {start} {now} {at} script {spent} {b} {head} {after} {again} {next} p came n same a is =
    let f = found at.script script b came n in
    let line : List ℕ = p.rest ++ f.more in
    let unread : spent.unread ≡ script.unread = ap (λ (s : Held). s.unread) is in
    let counts : spent.taken ≡ at.script.taken = ap (λ (s : Held). s.taken) is ∙ f.taken in
    let which : at.number + 1 ≡ 1 + length p.lines = omega (arith, p.number_is) in
    record {
      taken = p.taken;
      took = p.took;
      counted = counts ∙ p.counted;
      few = omega (arith, counts, p.few);
      lines = p.lines ++ line ∷ [];
      rest = [];
      each = are_unbroken_append p.lines (line ∷ []) p.each (unbroken_append p.rest f.more p.unbroken f.unbroken, tt);
      unbroken = tt;
      whole =
          p.whole
          ∙ ap (λ l. flat_map with_feed p.lines ++ (p.rest ++ l)) f.split
          ∙ regroup (flat_map with_feed p.lines) p.rest f.more script.unread
          ∙ ap (λ l. l ++ ([] ++ script.unread)) (sym (flat_map-append with_feed p.lines (line ∷ [])))
          ∙ ap (λ l. flat_map with_feed (p.lines ++ line ∷ []) ++ ([] ++ l)) (sym unread);
      line = ap (λ (s : Held). s.line) is ∙ kept-nothing;
      said = p.said ++ a.said;
      replies = replies-then conduct.answers opening 1 p.lines (line ∷ []) p.said a.said at.refused again at.state next p.replies
          (subst (λ n. Replies conduct.answers at.state n (line ∷ []) a.said again next) which
          (replies-one conduct.answers at.state (at.number + 1) line a.said again next (a.is line (same ∙ f.line p.rest p.line))));
      says = says-then start.sink now.sink after p.said a.said p.says a.says;
      number_is = omega (arith, p.number_is, length-append p.lines (line ∷ []));
      lent = ap (λ (s : Held). s.lent) is;
      room = omega (arith, p.room, counts, ap length unread, ap length f.split, length-append f.more (10 ∷ script.unread));
      reads = p.reads;
    }

-- no line feed was left, and all that was gathered was written
pub going-read : {S : Type 0} {conduct : Conduct S} {opening : S} {start now after : Streams} {at : Stand S} {script script' : Held} {b : Bool} {fill : Fill}
    → Going conduct opening start now at → b ≡ false → NextIs at.script script b → HasRead now after script script' fill
    → Going conduct opening start (record { source = now.source; sink = after.sink }) (stand script at.number at.refused at.state)
going-read {S} {conduct} {opening} {start} {now} {after} {at} {script} {script'} {b} {fill} p left n r =
    going-says after.sink (going-none script p (found-none at.script script b left n)) r.sent.says

-- no line feed was left, and more bytes were taken
pub going-takes : {S : Type 0} {conduct : Conduct S} {opening : S} {start now after : Streams} {at : Stand S} {script script' : Held} {b : Bool} {fill : Fill}
    → Going conduct opening start now at → b ≡ false → NextIs at.script script b → fill ≡ More → HasRead now after script script' fill
    → Going conduct opening start after (stand script' at.number at.refused at.state)
going-takes {S} {conduct} {opening} {start} {now} {after} {at} {script} {script'} {b} {fill} before left n more r =
    let p = going-read before left n r in
    let none : script.unread ≡ [] = (found-none at.script script b left n).unread in
    let g = filled now.source after.source script script' fill More more r.fills in
    let f = g.0 in
    let within : length p.taken ≤ 33554432 = omega (arith, p.counted, f.taken, f.few, f.some) in
    let none_left : p.rest ++ script.unread ≡ p.rest = ap (λ l. p.rest ++ l) none ∙ append-nil p.rest in
    record {
      taken = p.taken ++ f.bytes;
      took = Consumes-trans start.source.left now.source.left after.source.left p.taken f.bytes p.took f.took;
      counted = omega (arith, f.taken, p.counted, length-append p.taken f.bytes);
      few = f.few;
      whole =
          script-more p.taken f.bytes within
          ∙ ap (λ l. l ++ take (33554432 - length p.taken) f.bytes) (p.whole ∙ ap (λ l. flat_map with_feed p.lines ++ l) none_left)
          ∙ append_assoc (flat_map with_feed p.lines) p.rest (take (33554432 - length p.taken) f.bytes)
          ∙ ap (λ n. flat_map with_feed p.lines ++ (p.rest ++ take (33554432 - n) f.bytes)) (sym p.counted)
          ∙ ap (λ l. flat_map with_feed p.lines ++ (p.rest ++ l)) (sym f.unread);
      line = f.line ∙ p.line;
      lent = f.lent ∙ p.lent;
      room = omega (arith, p.room, ap length none, f.taken, ap length f.unread, length-take (33554432 - script.taken) f.bytes);
      lines = p.lines;
      rest = p.rest;
      each = p.each;
      unbroken = p.unbroken;
      said = p.said;
      replies = p.replies;
      says = p.says;
      number_is = p.number_is;
      reads = g.1 ∙ p.reads;
    }
