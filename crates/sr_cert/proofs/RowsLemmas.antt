-- Rows that are appended, as the segments ask for them.
use Rattle.std.proofs.Common.{◌≡◌, ℕ, ◌<◌, List, [], ◌∷◌, ◌++◌, length, refl, sym, ◌∙◌, ap, append_assoc, append-nil, ◌+◌, suc, drop, get_or, add-one}
use Rattle.std.proofs.Math.Seq.{drop-cons}
use Rattle.std.specs.List.{AllZip}
use Rattle.sr_model.specs.declared.repair.Segment.{Segment}
use Rattle.sr_model.specs.declared.repair.Segment.TheVariants.{Node, Adj}
use Rattle.sr_model.specs.Graph.{Graph}
use Rattle.sr_model.specs.Label.{Net}
use Rattle.sr_repair.specs.Stack.{goes_to}
use Rattle.sr_cert.specs.Rows.{Heading, HoldsDistances, headings}
use Rattle.sr_cert.specs.Taken.{AddsRows, AreBegun, headings_of}

zip-append : (g : Graph) (hs ks : List Heading) (a b : List (List ℕ)) → AllZip (HoldsDistances g) hs a → AllZip (HoldsDistances g) ks b → AllZip (HoldsDistances g) (hs ++ ks) (a ++ b)
zip-append g [] ks [] b p q = q
zip-append g [] ks (row ∷ a) b p q = absurd p
zip-append g (h ∷ hs) ks [] b p q = absurd p
zip-append g (h ∷ hs) ks (row ∷ a) b p q = (p.0, zip-append g hs ks a b p.1 q)

-- nothing is appended yet
pub begun-none : (g : Graph) (asked : List Heading) (rows : List (List ℕ)) → AreBegun g asked asked rows rows
begun-none g asked rows = record { added = []; joined = sym (append-nil rows); goes_on = λ more h. h }

-- some of the headings that are left have their rows
pub begun-more : (g : Graph) (asked hs left : List Heading) (before mid after : List (List ℕ)) → AreBegun g asked (hs ++ left) before mid → AddsRows g hs mid after → AreBegun g asked left before after
begun-more g asked hs left before mid after b a = record {
  added = b.added ++ a.added;
  joined = a.joined ∙ (ap (λ (r : List (List ℕ)). r ++ a.added) b.joined ∙ append_assoc before b.added a.added);
  goes_on = λ more h. rw append_assoc (b.goes_on (a.added ++ more) (zip-append g hs left a.added more a.exact h));
}

-- all of the headings that are left have their rows
pub begun-all : (g : Graph) (asked hs : List Heading) (before mid after : List (List ℕ)) → AreBegun g asked hs before mid → AddsRows g hs mid after → AddsRows g asked before after
begun-all g asked hs before mid after b a = record {
  added = b.added ++ a.added;
  joined = a.joined ∙ (ap (λ (r : List (List ℕ)). r ++ a.added) b.joined ∙ append_assoc before b.added a.added);
  exact = b.goes_on a.added a.exact;
}

-- the rows of the first segment, and then those of the others
pub headings-cons : (n : Net) (u : ℕ) (s : Segment) (ss : List Segment) (d : ℕ) → headings n.graph u (s ∷ ss) d ≡ headings_of u s ++ headings n.graph (goes_to n s) ss d
headings-cons n u (Node v) ss d = refl
headings-cons n u (Adj l) ss d = refl

-- segment number k is the next, and leads to v
pub headings-next : (n : Net) (u v : ℕ) (ss : List Segment) (k d : ℕ) (s : Segment) → k < length ss → v ≡ goes_to n (get_or ss k s) → headings n.graph u (drop k ss) d ≡ headings_of u (get_or ss k s) ++ headings n.graph v (drop (k + 1) ss) d
headings-next n u v ss k d s lt is =
    rw (add-one, is)
    (ap (λ (t : List Segment). headings n.graph u t d) (drop-cons ss k s lt)
    ∙ headings-cons n u (get_or ss k s) (drop (suc k) ss) d)
