use Rattle.std.proofs.Common.{◌≡◌, ℕ, List, Some, slice_get, get_or, arith, sym, subst}
use Rattle.std.proofs.lemmas.Option.{slice_get-get_or}
use Rattle.sr_model.specs.declared.link.LinkNo.{LinkNo}
use Rattle.sr_post.specs.Kept.{AreDoubtful}
use Rattle.sr_post.proofs.KeptHopLemmas.{alone-from, hop-from, least-at, none-more, none-over, leads-if, leads-not}
use Rattle.sr_post.proofs.kept.least_hop.Goals as goal

pub led_by-led-requires-clause-doubtful : goal.led_by-led-requires-clause-doubtful
led_by-led-requires-clause-doubtful c =
    let g = c.args.spaces.now.graph in
    let x = c.args.spaces.now.failed in
    let s = c.args.source.0 in
    let links : List LinkNo = c.next_hops-hop-items.result.now in
    let hop : LinkNo = get_or links c.loop-hop.hop-index (record { 0 = 0 }) in
    let from = hop-from g x s c.args.v.0 links (c.next_hops-hop-items.ensures.hops g c.requires.trees) c.loop-hop.hop-index hop (slice_get-get_or links c.loop-hop.hop-index (record { 0 = 0 }) (omega arith)) in
    subst (λ u. AreDoubtful g x u c.args.doubtful) (sym from.1) c.requires.doubtful

pub led_by-led-requires-clause-hop : goal.led_by-led-requires-clause-hop
led_by-led-requires-clause-hop c =
    let g = c.args.spaces.now.graph in
    let links : List LinkNo = c.next_hops-hop-items.result.now in
    let hop : LinkNo = get_or links c.loop-hop.hop-index (record { 0 = 0 }) in
    (hop-from g c.args.spaces.now.failed c.args.source.0 c.args.v.0 links (c.next_hops-hop-items.ensures.hops g c.requires.trees) c.loop-hop.hop-index hop (slice_get-get_or links c.loop-hop.hop-index (record { 0 = 0 }) (omega arith))).0

pub returns-then-not-is_empty : goal.returns-then-not-is_empty
returns-then-not-is_empty c =
    let g = c.args.spaces.now.graph in
    let x = c.args.spaces.now.failed in
    let s = c.args.source.0 in
    let v = c.args.v.0 in
    let links : List LinkNo = c.next_hops-hop-items.result.now in
    let i : ℕ = c.loop-hop.hop-index in
    let hop : LinkNo = get_or links i (record { 0 = 0 }) in
    let at : slice_get links i ≡ Some hop = slice_get-get_or links i (record { 0 = 0 }) (omega arith) in
    let are = c.next_hops-hop-items.ensures.hops g c.requires.trees in
    least-at g x s v links are i hop at c.loop-hop.invariant
    (leads-if g x s v hop.0 c.alone-alone.result c.led_by-led.result c.is_empty.result (alone-from c.alone-alone.result v c.alone-alone.ensures)
    (hop-from g x s v links are i hop at).1 c.led_by-led.ensures c.is_empty.ensures c.if-not-is_empty.true)

pub loop-hop-preserved : goal.loop-hop-preserved
loop-hop-preserved c =
    let g = c.args.spaces.now.graph in
    let x = c.args.spaces.now.failed in
    let s = c.args.source.0 in
    let v = c.args.v.0 in
    let links : List LinkNo = c.next_hops-hop-items.result.now in
    let i : ℕ = c.loop-hop.hop-index in
    let hop : LinkNo = get_or links i (record { 0 = 0 }) in
    let at : slice_get links i ≡ Some hop = slice_get-get_or links i (record { 0 = 0 }) (omega arith) in
    let are = c.next_hops-hop-items.ensures.hops g c.requires.trees in
    none-more g x s v links are i hop at c.loop-hop.invariant
    (leads-not g x s v hop.0 c.alone-alone.result c.led_by-led.result c.is_empty.result (alone-from c.alone-alone.result v c.alone-alone.ensures)
    (hop-from g x s v links are i hop at).1 c.led_by-led.ensures c.is_empty.ensures c.if-not-is_empty.false)

pub returns : goal.returns
returns c =
    let g = c.args.spaces.now.graph in
    none-over g c.args.spaces.now.failed c.args.source.0 c.args.v.0 c.next_hops-hop-items.result.now (c.next_hops-hop-items.ensures.hops g c.requires.trees) c.loop-hop.hop-index (omega arith) c.loop-hop.invariant
