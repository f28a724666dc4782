-- How the making of a script ends.
use Rattle.std.proofs.Common.{◌≡◌, ℕ, false, List, [], ◌++◌, sym, ap, subst, ◌∙◌, append-nil, inl, inr, Ok, Err}
use Rattle.std.specs.declared.option.Option.{Option}
use Rattle.std.specs.declared.result.Result.{Result}
use Rattle.sr_base.specs.declared.SinkFault.{SinkFault}
use Rattle.sr_base.specs.declared.SinkFault.TheVariants.{Failed, Memory}
use Rattle.sr_engine.specs.Endings.{Finishes, ending_of}
use Rattle.sr_engine.specs.Written.{Breaks, Puts, Says, Written, written}
use Rattle.sr_engine.specs.declared.end.End.{End}
use Rattle.sr_engine.proofs.Answering.{breaks-then, says-then}
use Rattle.sr_make.specs.Making.{Makes}

-- one text was answered, and then another was, or a beginning of it
pub puts-then : (a b c : Written) (x y : List ℕ) (result : Result (Unit {0}) SinkFault) → Says a b x → Puts b c y result → Puts a c (x ++ y) result
puts-then a b c x y (Ok done) p q = says-then a b c x y p q
puts-then a b c x y (Err fault) p q = breaks-then a b c x y fault p q

-- a fault came where nothing was gathered at first
broke : (script : List ℕ) (held : Option (List ℕ)) (faults : ℕ) (c : Written) (fault : SinkFault) → Breaks (written held faults []) c script fault
    → Makes script held c.held faults c.faults (ending_of fault)
broke script held faults c Failed p = record { out = p.given; appended = p.appended; shows = ((p.more, p.rest), p.cause) }
broke script held faults c (Memory error) p = record { out = p.given; appended = p.appended; shows = ((p.more, p.rest), p.cause) }

-- the same, where the ending is known by an equation
pub makes-broke : (script : List ℕ) (held : Option (List ℕ)) (faults : ℕ) (c : Written) (fault : SinkFault) (end : End) → Breaks (written held faults []) c script fault
    → end ≡ ending_of fault → Makes script held c.held faults c.faults end
makes-broke script held faults c fault end p e = subst (Makes script held c.held faults c.faults) (sym e) (broke script held faults c fault p)

-- the whole script was answered, and what was gathered was written
pub makes-ended : (script : List ℕ) (held : Option (List ℕ)) (faults : ℕ) (b c : Written) (end : End) → Says (written held faults []) b script → Finishes b c false end
    → Makes script held c.held faults c.faults end
makes-ended script held faults b c end p (inl f) =
    let says = says-then (written held faults []) b c script [] p f.1.says in
    let whole : says.given ≡ script = sym (append-nil says.given) ∙ ap (λ l. says.given ++ l) (sym f.1.none) ∙ sym says.rest ∙ append-nil script in
    subst (Makes script held c.held faults c.faults) (sym f.0) (record { out = says.given; appended = says.appended; shows = (whole, says.faults) })
makes-ended script held faults b c end p (inr f) =
    let breaks = breaks-then (written held faults []) b c script [] f.0 p f.1 in
    makes-broke script held faults c f.0 end (subst (λ l. Breaks (written held faults []) c l f.0) (append-nil script) breaks) f.2
