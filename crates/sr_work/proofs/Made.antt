-- From what watchers and a store promise to what is reported.
use Rattle.std.proofs.Common.{◌≡◌, ℕ, suc, ◌+◌, ◌-◌, ◌≤◌, Bool, true, false, not, List, [], ◌∷◌, ◌++◌, map, length, length-append, slice_get, Some, refl, sym, ap, ◌∙◌, subst, append_assoc, arith}
use Rattle.std.proofs.lemmas.List.{map-append}
use mathlib.Core.List.{IsPrefix}
use Rattle.sr_model.specs.declared.audit.Counts.{Counts}
use Rattle.sr_model.specs.declared.audit.RoundReport.{RoundReport}
use Rattle.sr_repair.specs.Version.{NumberedNet}
use Rattle.sr_audit.specs.Counted.{AreAuditCounts}
use Rattle.sr_store.specs.declared.reader.Reader.{Reader}
use Rattle.sr_store.specs.Histories.{History, with_mark}
use Rattle.sr_store.specs.Closes.{Ended}
use Rattle.sr_watch.specs.declared.inspect.Round.{Round}
use Rattle.sr_watch.specs.declared.task.Task.{Task}
use Rattle.sr_watch.specs.declared.seated.Seated.{Seated}
use Rattle.sr_watch.specs.declared.apart.Apart.{Apart}
use Rattle.sr_watch.specs.Rounds.{Inspection, inspection_by, Chain, Repeats}
use Rattle.sr_watch.specs.Starts.{Plans, task_of, next_task, SeatedFrom, ApartFrom}
use Rattle.sr_watch.specs.Joins.{Back, SeatedRounds, ApartRounds, AllRounds}
use Rattle.sr_watch.proofs.Chains.{chain-grows}
use Rattle.sr_work.specs.declared.counting.Counting.{Counting}
use Rattle.sr_work.specs.Watched.{Watched, AreNumberedFrom}
use Rattle.sr_work.specs.Started.{WasStarted}
use Rattle.sr_work.specs.Reports.{AreReports}
use Rattle.sr_work.specs.Reported.{is_refused, report_of, report_made, AreMade}
use Rattle.sr_store.proofs.Fronts.{get-prefix, prefix-length, prefix_trans}
use Rattle.sr_work.proofs.Numbers.{numbered-at}
use Rattle.sr_work.proofs.Refused.{refused-mid, refused-out}
use Rattle.sr_work.proofs.Rows.{round_is, OfOne, OfMany, one-none, one-more, many-none, many-more, are-reports}

-- the versions are inspected by the counts of their audits
abbrev pub counting : Inspection NumberedNet Counting Counts
counting = inspection_by (λ (v : NumberedNet). v.number) (λ i v out. AreAuditCounts v.net out)

made-own : (es : List Bool) (f : ℕ) (anew : Counts) (r : Round Counts) (w n : ℕ) → r.watcher ≡ w → r.round ≡ n → is_refused es (w - 1) ≡ false
    → report_made es f anew r ≡ report_of (Some (round_is w n)) r.number r.out
made-own es f anew r w n rw_ rr fresh = rw (rw_, rr, fresh) refl

made-anew : (es : List Bool) (f : ℕ) (anew : Counts) (r : Round Counts) (w n : ℕ) → r.watcher ≡ w → r.round ≡ n → is_refused es (w - 1) ≡ true
    → report_made es f anew r ≡ report_of (Some (round_is w n)) f anew
made-anew es f anew r w n rw_ rr refused = rw (rw_, rr, refused) refl

module _ (W : List NumberedNet) (es : List Bool) (first : NumberedNet) (anew : Counts) (b : ℕ) where
  -- the report of a round
  abbrev made : Round Counts → RoundReport
  made r = report_made es first.number anew r

  -- a watcher's own rounds, where its reader's list begins the writer's
  own : (task : Task Counting) (n least : ℕ) (start end : History NumberedNet) (rs : List (Round Counts))
      → AreNumberedFrom b W → Chain counting task n start end rs → IsPrefix end.versions W → least ≤ b + (length start.versions - 1) → is_refused es (task.watcher - 1) ≡ false
      → OfOne W task.watcher n least (map made rs)
  own task n least start end [] nums h p le fresh = one-none W task.watcher n least
  own task n least start end (x ∷ xs) nums h p le fresh =
      let w = task.watcher in
      let list = h.0 in
      let of = h.2 in
      let v = of.0 in
      let longer = prefix-length start.versions list.versions h.1.versions in
      let grown = chain-grows counting task (n + 1) list end xs h.3 in
      let place = length list.versions - 1 in
      let at = get-prefix list.versions W place v (prefix_trans list.versions end.versions W grown.versions p) of.1 in
      let number = numbered-at b W place v nums at in
      let named : x.number ≡ v.number = of.2.2 in
      let y = report_of (Some (round_is w n)) x.number x.out in
      let same : made x ≡ y = made-own es first.number anew x w n of.2.0 of.2.1 fresh in
      let rest = own task (n + 1) x.number list end xs nums h.3 p (omega (arith, number, named)) fresh in
      subst (λ (z : RoundReport). OfOne W w n least (z ∷ map made xs)) (sym same)
      (one-more W w n least y (map made xs) refl (place, v, at, record { number = named; counts = of.2.3 }) (omega (arith, le, longer, number, named)) rest)

  -- the rounds of a watcher on the first version
  repeated : (task : Task Counting) (n least : ℕ) (rs : List (Round Counts))
      → slice_get W 0 ≡ Some first → Repeats counting task n first rs → least ≤ first.number → is_refused es (task.watcher - 1) ≡ false
      → OfOne W task.watcher n least (map made rs)
  repeated task n least [] at h le fresh = one-none W task.watcher n least
  repeated task n least (x ∷ xs) at h le fresh =
      let w = task.watcher in
      let of = h.0 in
      let named : x.number ≡ first.number = of.2 in
      let y = report_of (Some (round_is w n)) x.number x.out in
      let same : made x ≡ y = made-own es first.number anew x w n of.0 of.1 fresh in
      let rest = repeated task (n + 1) x.number xs at h.1 (omega (arith, named)) fresh in
      subst (λ (z : RoundReport). OfOne W w n least (z ∷ map made xs)) (sym same)
      (one-more W w n least y (map made xs) refl (0, first, at, record { number = named; counts = of.3 }) (omega (arith, le, named)) rest)

  -- its rounds made anew on the first version
  renewed : (task : Task Counting) (n least : ℕ) (start end : History NumberedNet) (rs : List (Round Counts))
      → slice_get W 0 ≡ Some first → AreAuditCounts first.net anew → Chain counting task n start end rs → least ≤ first.number → is_refused es (task.watcher - 1) ≡ true
      → OfOne W task.watcher n least (map made rs)
  renewed task n least start end [] at counts h le refused = one-none W task.watcher n least
  renewed task n least start end (x ∷ xs) at counts h le refused =
      let w = task.watcher in
      let of = h.2 in
      let y = report_of (Some (round_is w n)) first.number anew in
      let same : made x ≡ y = made-anew es first.number anew x w n of.2.0 of.2.1 refused in
      let rest = renewed task (n + 1) first.number h.0 end xs at counts h.3 (omega arith) refused in
      subst (λ (z : RoundReport). OfOne W w n least (z ∷ map made xs)) (sym same)
      (one-more W w n least y (map made xs) refl (0, first, at, record { number = refl; counts = counts }) le rest)

  either : (task : Task Counting) (start end : History NumberedNet) (rs : List (Round Counts)) (e : Bool)
      → AreNumberedFrom b W → slice_get W 0 ≡ Some first → AreAuditCounts first.net anew → Chain counting task 1 start end rs
      → (e ≡ true → IsPrefix end.versions W) → is_refused es (task.watcher - 1) ≡ not e → OfOne W task.watcher 1 0 (map made rs)
  either task start end rs true nums at counts h p is = own task 1 0 start end rs nums h (p refl) (omega arith) is
  either task start end rs false nums at counts h p is = renewed task 1 0 start end rs at counts h (omega arith) is

map-length : {A B : Type 0} (f : A → B) (xs : List A) → length (map f xs) ≡ length xs
map-length f [] = refl
map-length f (x ∷ xs) = ap suc (map-length f xs)

module _ (H : History NumberedNet) (es : List Bool) (first : NumberedNet) (anew : Counts) (b : ℕ) (i : Counting) (R : ℕ) where
  -- the reports of these rounds
  abbrev all-made : List (Round Counts) → List RoundReport
  all-made rs = map (report_made es first.number anew) rs

  -- the watchers that have readers, and then those that have none
  seated : (past rest : List Bool) (w T v : ℕ) (others : List RoundReport) (readers : List (Reader NumberedNet)) (ps : List (Seated NumberedNet Counting)) (back : List (Reader NumberedNet)) (rounds : List (Round Counts))
      → AreNumberedFrom b H.versions → slice_get H.versions 0 ≡ Some first → AreAuditCounts first.net anew
      → es ≡ past ++ rest → w ≡ 1 + length past → v ≡ w + length readers → OfMany H.versions R v T others
      → SeatedFrom (task_of i R w) readers ps → SeatedRounds counting ps back rounds → Ended H back rest
      → OfMany H.versions R w (length readers + T) (all-made rounds ++ others)
  seated past rest w T v others [] [] [] rounds nums at counts is n m many from made ended =
      let none : all-made rounds ++ others ≡ others = ap (λ r. all-made r ++ others) made in
      let here : v ≡ w = omega (arith, m) in
      let zero_more : T ≡ 0 + T = omega arith in
      subst (λ (l : List RoundReport). OfMany H.versions R w (0 + T) l) (sym none) (subst (λ (k : ℕ). OfMany H.versions R w k others) zero_more (subst (λ (k : ℕ). OfMany H.versions R k T others) here many))
  seated past rest w T v others [] [] (c ∷ cs) rounds nums at counts is n m many from made ended = absurd made
  seated past rest w T v others [] (p ∷ ps) back rounds nums at counts is n m many from made ended = absurd from
  seated past rest w T v others (r ∷ rs) [] back rounds nums at counts is n m many from made ended = absurd from
  seated past rest w T v others (r ∷ rs) (p ∷ ps) [] rounds nums at counts is n m many from made ended = absurd made
  seated past [] w T v others (r ∷ rs) (p ∷ ps) (c ∷ cs) rounds nums at counts is n m many from made ended = absurd ended
  seated past (e ∷ rest) w T v others (r ∷ rs) (p ∷ ps) (c ∷ cs) rounds nums at counts is n m many from made ended =
      let mine = made.0 in
      let later = made.1 in
      let took = made.2 in
      let task = task_of i R w in
      let same : p.task ≡ task = from.0.0 in
      let chain : Chain counting task 1 p.start.value.list c.list mine = subst (λ (t : Task Counting). Chain counting t t.first p.start.value.list c.list mine) same took.chain in
      let refused : is_refused es (w - 1) ≡ not e = subst (λ l. is_refused l (w - 1) ≡ not e) (sym is) (refused-mid past rest e (w - 1) (omega (arith, n))) in
      let one = either H.versions es first anew b task p.start.value.list c.list mine e nums at counts chain (λ t. (ended.0 t).versions) refused in
      let long : length (all-made mine) ≡ R = map-length (report_made es first.number anew) mine ∙ (took.count_is ∙ ap (λ (t : Task Counting). t.rounds) same) in
      let rest_of = seated (past ++ e ∷ []) rest (w + 1) T v others rs ps cs later nums at counts (is ∙ sym (append_assoc past (e ∷ []) rest)) (omega (arith, n, length-append past (e ∷ []))) (omega (arith, m)) many from.1 made.3 ended.1 in
      let both = many-more H.versions R w (length rs + T) 0 (all-made mine) (all-made later ++ others) long one rest_of in
      let whole : all-made mine ++ (all-made later ++ others) ≡ all-made rounds ++ others =
      sym (append_assoc (all-made mine) (all-made later) others) ∙ (ap (λ l. l ++ others) (sym (map-append (report_made es first.number anew) mine later)) ∙ ap (λ l. all-made l ++ others) (sym made.4)) in
      let count : suc (length rs + T) ≡ length (r ∷ rs) + T = omega arith in
      subst (λ (k : ℕ). OfMany H.versions R w k (all-made rounds ++ others)) count (subst (λ (l : List RoundReport). OfMany H.versions R w (suc (length rs + T)) l) whole both)

  unseated : (w : ℕ) (ps : List (Apart NumberedNet Counting)) (rounds : List (Round Counts))
      → slice_get H.versions 0 ≡ Some first → length es ≤ w - 1
      → ApartFrom (task_of i R w) first ps → ApartRounds counting ps rounds
      → OfMany H.versions R w (length ps) (all-made rounds)
  unseated w [] rounds at few from made = subst (λ (l : List (Round Counts)). OfMany H.versions R w 0 (all-made l)) (sym made) (many-none H.versions R w)
  unseated w (p ∷ ps) rounds at few from made =
      let mine = made.0 in
      let later = made.1 in
      let saw = made.2 in
      let task = task_of i R w in
      let same : p.task ≡ task = from.0.0 in
      let all : Repeats counting task 1 first mine =
      subst (λ (v : NumberedNet). Repeats counting task 1 v mine) from.0.1
      (subst (λ (t : Task Counting). Repeats counting t t.first p.version.value mine) same saw.all) in
      let one = repeated H.versions es first anew b task 1 0 mine at all (omega arith) (refused-out es (w - 1) few) in
      let long : length (all-made mine) ≡ R = map-length (report_made es first.number anew) mine ∙ (saw.count_is ∙ ap (λ (t : Task Counting). t.rounds) same) in
      let rest_of = unseated (w + 1) ps later at (omega (arith, few)) from.1 made.3 in
      let whole : all-made mine ++ all-made later ≡ all-made rounds = sym (map-append (report_made es first.number anew) mine later) ∙ ap (λ l. all-made l) (sym made.4) in
      subst (λ (l : List RoundReport). OfMany H.versions R w (suc (length ps)) l) whole (many-more H.versions R w (length ps) 0 (all-made mine) (all-made later) long one rest_of)

  ended-length : (back : List (Reader NumberedNet)) (rest : List Bool) → Ended H back rest → length rest ≡ length back
  ended-length [] [] h = refl
  ended-length [] (x ∷ xs) h = absurd h
  ended-length (c ∷ cs) [] h = absurd h
  ended-length (c ∷ cs) (x ∷ xs) h = omega (arith, ended-length cs xs h.1)

pub seated-length : (task : Task Counting) (readers : List (Reader NumberedNet)) (ps : List (Seated NumberedNet Counting)) → SeatedFrom task readers ps → length readers ≡ length ps
seated-length task [] [] h = refl
seated-length task [] (p ∷ ps) h = absurd h
seated-length task (r ∷ rs) [] h = absurd h
seated-length task (r ∷ rs) (p ∷ ps) h = omega (arith, seated-length (next_task task) rs ps h.1)

pub back-length : (ps : List (Seated NumberedNet Counting)) (rs : List (Reader NumberedNet)) → Back ps rs → length ps ≡ length rs
back-length [] [] h = refl
back-length [] (r ∷ rs) h = absurd h
back-length (p ∷ ps) [] h = absurd h
back-length (p ∷ ps) (r ∷ rs) h = omega (arith, back-length ps rs h.1)

-- all reports of a watch
pub all-reports : (plans : Plans NumberedNet Counting) (list : History NumberedNet) (first : NumberedNet) (watched : Watched) (back : List (Reader NumberedNet)) (rounds : List (Round Counts)) (es : List Bool) (reports : List RoundReport)
    → WasStarted plans list first watched → Back plans.seated back → AllRounds counting plans back rounds → Ended (with_mark list) back es → AreMade es first rounds reports
    → AreReports watched.watchers watched.rounds watched.versions reports
all-reports plans list first watched back rounds es reports k h made ended are =
    let H = with_mark list in
    let W = H.versions in
    let R = watched.rounds in
    let f = report_made es first.number are.anew in
    let s = k.started in
    let i = k.inspect in
    let at = get-prefix (first ∷ []) W 0 first (subst (λ (l : List NumberedNet). IsPrefix (first ∷ []) l) (sym k.versions) k.begins) refl in
    let numbers = subst (λ (l : List NumberedNet). AreNumberedFrom first.number l) (sym k.versions) k.numbers in
    let len : length es ≡ length k.readers = ended-length H es first are.anew first.number i R back es ended ∙ (sym (back-length plans.seated back h) ∙ sym (seated-length (task_of i R 1) k.readers plans.seated s.seated)) in
    let two = unseated H es first are.anew first.number i R (length k.readers + 1) plans.apart made.last at (omega (arith, len)) s.apart made.apart in
    let all = seated H es first are.anew first.number i R [] es 1 (length plans.apart) (length k.readers + 1) (map f made.last) k.readers plans.seated back made.first numbers at are.counts refl refl (omega arith) two s.seated made.seated ended in
    let whole : map f made.first ++ map f made.last ≡ reports = sym (map-append f made.first made.last) ∙ (ap (λ l. map f l) (sym made.whole) ∙ sym are.all) in
    subst (λ (l : List NumberedNet). AreReports watched.watchers R l reports) k.versions (are-reports W watched.watchers R reports (subst (λ (l : List RoundReport). OfMany W R 1 watched.watchers l) whole (subst (λ (n : ℕ). OfMany W R 1 n (map f made.first ++ map f made.last)) s.all all)))
