use Rattle.std.proofs.Common.{◌≡◌, ◌≢◌, Some, None, ap, ◌∙◌, sym, refl}
use Rattle.sr_model.specs.declared.link.Link.{Link}
use Rattle.sr_model.specs.Graph.{Graph, metric}
use Rattle.sr_model.specs.Stay.{HaveSameName}
use Rattle.sr_delta.specs.Partners.{IsPartner}
use Rattle.sr_delta.proofs.ChangeLemmas.{gone-changed, other-changed, same-unchanged, change-old}
use Rattle.sr_delta.proofs.changed.change_of.Goals as goal

pub returns-in-None : goal.returns-in-None
returns-in-None c =
    let g : Graph = c.args.old.now in
    let h : Graph = c.args.new.now in
    let none : IsPartner g h c.args.link.0 None = rw c.in-None.is at c.requires.partner in
    let r = gone-changed g h c.args.link.0 c.requires.link none in
    rw c.change_to.ensures.change (change-old g h c.change_to.ensures.graph c.change_to.ensures.named c.args.link.0 c.requires.link None r.0 r.1, refl)

pub returns-then-after-link : goal.returns-then-after-link
returns-then-after-link c =
    let g : Graph = c.args.old.now in
    let h : Graph = c.args.new.now in
    let is : HaveSameName g h c.args.link.0 c.in-Some.other.0 = rw c.in-Some.is at c.requires.partner in
    let same : metric h c.in-Some.other.0 ≡ metric g c.args.link.0 =
    ap (λ (k : Link). k.metric) (sym c.link-after.ensures.link) ∙ c.if-after-link.true ∙ ap (λ (k : Link). k.metric) c.link.ensures.link in
    same-unchanged g h c.link.ensures.named c.link-after.ensures.named c.args.link.0 c.in-Some.other.0 is same

pub returns-else-after-link : goal.returns-else-after-link
returns-else-after-link c =
    let g : Graph = c.args.old.now in
    let h : Graph = c.args.new.now in
    let is : HaveSameName g h c.args.link.0 c.in-Some.other.0 = rw c.in-Some.is at c.requires.partner in
    let there : metric h c.in-Some.other.0 ≡ c.link-after.result.metric = ap (λ (k : Link). k.metric) (sym c.link-after.ensures.link) in
    let other : metric h c.in-Some.other.0 ≢ metric g c.args.link.0 =
    λ e. c.if-after-link.false (sym there ∙ e ∙ ap (λ (k : Link). k.metric) (sym c.link.ensures.link)) in
    let r = other-changed g h c.args.link.0 c.in-Some.other.0 is other in
    rw (c.change_to-else-after-link.ensures.change, ← there)
    (change-old g h c.link.ensures.graph c.link.ensures.named c.args.link.0 c.requires.link (Some (metric h c.in-Some.other.0)) r.0 r.1, refl)
