use Rattle.std.proofs.Common.{take, drop, length-take, refl, sym, ap, subst, ◌∙◌, ◌-◌, ◌≡◌, arith, [], false, List, ℕ, Some, None, ◌++◌}
use Rattle.memchr.specs.Find.{IsFirstByte, is_byte}
use Rattle.sr_engine.specs.Lines.{head_of}
use Rattle.sr_engine.specs.Reading.{Held}
use Rattle.sr_engine.proofs.Steps.{no-line}
use Rattle.sr_engine.proofs.Last.{no-bytes}
use Rattle.sr_engine.proofs.Piece.{cut, all-taken, gathered, whole-line}
use Rattle.sr_engine.proofs.script.Script.next.Goals as goal

pub returns-in_ok-keep-in-Some : goal.returns-in_ok-keep-in-Some
returns-in_ok-keep-in-Some c =
    let v : c.deref.result.now ≡ c.self.inside.piece.items = c.deref.ensures.value in
    let spent : c.self.inside.lent ≡ false = ap (λ (s : Held). s.lent) c.self.view_is ∙ c.requires in
    let e = subst (λ (l : List ℕ). IsFirstByte (is_byte 10) (take (c.self.inside.end - c.self.inside.at) (drop c.self.inside.at l)) (Some c.in-Some.count)) v c.in-Some.ensures in
    let k = cut c.self.inside.piece.items c.self.inside.at c.self.inside.end c.in-Some.count _ c.self.invariant.0 (omega (arith, c.self.invariant.1, c.self.inside.piece.ok.0)) refl e in
    rw (← c.self.view_is) (record {
      more = take c.in-Some.count (take (c.self.inside.end - c.self.inside.at) (drop c.self.inside.at c.self.inside.piece.items));
      split = k.split;
      unbroken = k.unbroken;
      line = λ rest is. gathered c.self.inside.lent (take (c.self.inside.to - c.self.inside.from) (drop c.self.inside.from c.self.inside.piece.items)) c.keep.new.kept.items spent ∙ subst (λ (l : List ℕ). c.keep.new.kept.items ≡ head_of (rest ++ take c.in-Some.count (take (c.self.inside.end - c.self.inside.at) (drop c.self.inside.at l)))) v (c.in_ok-keep-in-Some.ensures rest (sym (gathered c.self.inside.lent (take (c.self.inside.to - c.self.inside.from) (drop c.self.inside.from c.self.inside.piece.items)) c.self.inside.line.items spent) ∙ is));
      taken = refl;
    })

pub returns-in_ok-keep-in-None : goal.returns-in_ok-keep-in-None
returns-in_ok-keep-in-None c =
    let v : c.deref.result.now ≡ c.self.inside.piece.items = c.deref.ensures.value in
    let spent : c.self.inside.lent ≡ false = ap (λ (s : Held). s.lent) c.self.view_is ∙ c.requires in
    let e = subst (λ (l : List ℕ). IsFirstByte (is_byte 10) (take (c.self.inside.end - c.self.inside.at) (drop c.self.inside.at l)) None) v c.in-None.ensures in
    rw (← c.self.view_is) (record {
      unread = all-taken c.self.inside.end c.self.inside.piece.items;
      unbroken = no-line _ e;
      lent = spent;
      line = λ rest is. gathered c.self.inside.lent (take (c.self.inside.to - c.self.inside.from) (drop c.self.inside.from c.self.inside.piece.items)) c.keep-in-None.new.kept.items spent ∙ subst (λ (l : List ℕ). c.keep-in-None.new.kept.items ≡ head_of (rest ++ take (c.self.inside.end - c.self.inside.at) (drop c.self.inside.at l))) v (c.in_ok-keep-in-None.ensures rest (sym (gathered c.self.inside.lent (take (c.self.inside.to - c.self.inside.from) (drop c.self.inside.from c.self.inside.piece.items)) c.self.inside.line.items spent) ∙ is));
      taken = refl;
    })

pub returns-then-is_empty : goal.returns-then-is_empty
returns-then-is_empty c =
    let v : c.deref.result.now ≡ c.self.inside.piece.items = c.deref.ensures.value in
    let spent : c.self.inside.lent ≡ false = ap (λ (s : Held). s.lent) c.self.view_is ∙ c.requires in
    let e = subst (λ (l : List ℕ). IsFirstByte (is_byte 10) (take (c.self.inside.end - c.self.inside.at) (drop c.self.inside.at l)) (Some c.in-Some.count)) v c.in-Some.ensures in
    let k = cut c.self.inside.piece.items c.self.inside.at c.self.inside.end c.in-Some.count _ c.self.invariant.0 (omega (arith, c.self.invariant.1, c.self.inside.piece.ok.0)) refl e in
    let none : c.self.inside.line.items ≡ [] = sym c.as_slice.ensures.value ∙ no-bytes c.as_slice.result.now c.if-is_empty.ensures in
    rw (← c.self.view_is) (record {
      more = take c.in-Some.count (take (c.self.inside.end - c.self.inside.at) (drop c.self.inside.at c.self.inside.piece.items));
      split = k.split;
      unbroken = k.unbroken;
      line = λ rest is. whole-line c.self.inside.piece.items c.self.inside.line.items rest c.self.inside.at c.self.inside.end c.in-Some.count none (sym (gathered c.self.inside.lent (take (c.self.inside.to - c.self.inside.from) (drop c.self.inside.from c.self.inside.piece.items)) c.self.inside.line.items spent) ∙ is)
          (omega (arith, c.self.invariant.3, c.self.inside.piece.ok.0)) (omega (arith, k.high, length-take (c.self.inside.end - c.self.inside.at) (drop c.self.inside.at c.self.inside.piece.items)));
      taken = refl;
    })
