-- What `==` of the values of sub-TLVs tells.
use Rattle.std.proofs.Common.{◌≡◌, refl, ap}
use Rattle.std.specs.Prelude.{Option, Some, None}
use Rattle.std.specs.Bool.{Decides}
use Rattle.std.specs.Option.{option_eq}
use Rattle.std.proofs.lemmas.Bool.Decides.{Decides-eqb, Decides-and, Decides-like}
use Rattle.sr_model.specs.declared.label.Range.{Range}
use Rattle.sr_model.specs.contracts.label.RangePartialEq.TheImpl as range
use Rattle.sr_subtlv.specs.declared.sid.Sid.{Sid}
use Rattle.sr_subtlv.specs.declared.sid.Sid.TheVariants.{Index, Label}
use Rattle.sr_subtlv.specs.declared.adj_sid.AdjSid.{AdjSid}
use Rattle.sr_subtlv.specs.declared.link_ids.LinkIds.{LinkIds}
use Rattle.sr_subtlv.specs.declared.msd.Msd.{Msd}
use Rattle.sr_subtlv.specs.declared.prefix_sid.PrefixSid.{PrefixSid}
use Rattle.sr_subtlv.specs.contracts.sid.SidPartialEq.TheImpl as sid
use Rattle.sr_subtlv.specs.contracts.adj_sid.AdjSidPartialEq.TheImpl as adj_sid
use Rattle.sr_subtlv.specs.contracts.link_ids.LinkIdsPartialEq.TheImpl as link_ids
use Rattle.sr_subtlv.specs.contracts.msd.MsdPartialEq.TheImpl as msd
use Rattle.sr_subtlv.specs.contracts.prefix_sid.PrefixSidPartialEq.TheImpl as prefix_sid

sids-decide : (a b : Sid) → Decides (sid.eq-value.it a b) (a ≡ b)
sids-decide (Index a) (Index b) = Decides-like _ (ap Index) (λ h. cc) (Decides-eqb a b)
sids-decide (Index a) (Label b) = (λ h. absurd (cc), λ h. absurd (cc))
sids-decide (Label a) (Index b) = (λ h. absurd (cc), λ h. absurd (cc))
sids-decide (Label a) (Label b) = Decides-like _ (ap Label) (λ h. cc) (Decides-eqb a b)

-- `==` of two SIDs of adjacencies
pub adj_sids-decide : (a b : AdjSid) → Decides (adj_sid.eq-value.it a b) (a ≡ b)
adj_sids-decide a b =
    Decides-like _
    (λ h i. record { flags = h.0 i; weight = h.1.0 i; sid = h.1.1 i })
    (λ h. (ap (λ (s : AdjSid). s.flags) h, (ap (λ (s : AdjSid). s.weight) h, ap (λ (s : AdjSid). s.sid) h)))
    (Decides-and _ _ (Decides-eqb a.flags b.flags) (Decides-and _ _ (Decides-eqb a.weight b.weight) (sids-decide a.sid b.sid)))

-- `==` of two SIDs of prefixes
pub prefix_sids-decide : (a b : PrefixSid) → Decides (prefix_sid.eq-value.it a b) (a ≡ b)
prefix_sids-decide a b =
    Decides-like _
    (λ h i. record { flags = h.0 i; algorithm = h.1.0 i; sid = h.1.1 i })
    (λ h. (ap (λ (s : PrefixSid). s.flags) h, (ap (λ (s : PrefixSid). s.algorithm) h, ap (λ (s : PrefixSid). s.sid) h)))
    (Decides-and _ _ (Decides-eqb a.flags b.flags) (Decides-and _ _ (Decides-eqb a.algorithm b.algorithm) (sids-decide a.sid b.sid)))

-- `==` of two maximum SID depths
pub depths-decide : (a b : Msd) → Decides (msd.eq-value.it a b) (a ≡ b)
depths-decide a b =
    Decides-like _
    (λ h i. record { kind = h.0 i; value = h.1 i })
    (λ h. (ap (λ (d : Msd). d.kind) h, ap (λ (d : Msd). d.value) h))
    (Decides-and _ _ (Decides-eqb a.kind b.kind) (Decides-eqb a.value b.value))

-- `==` of two ranges of labels
pub ranges-decide : (a b : Range) → Decides (range.eq-value.it a b) (a ≡ b)
ranges-decide a b =
    Decides-like _
    (λ h i. record { first = h.0 i; size = h.1 i })
    (λ h. (ap (λ (r : Range). r.first) h, ap (λ (r : Range). r.size) h))
    (Decides-and _ _ (Decides-eqb a.first b.first) (Decides-eqb a.size b.size))

ids-decide : (a b : LinkIds) → Decides (link_ids.eq-value.it a b) (a ≡ b)
ids-decide a b =
    Decides-like _
    (λ h i. record { local = h.0 i; remote = h.1 i })
    (λ h. (ap (λ (l : LinkIds). l.local) h, ap (λ (l : LinkIds). l.remote) h))
    (Decides-and _ _ (Decides-eqb a.local b.local) (Decides-eqb a.remote b.remote))

-- `==` of two link identifiers, where there are any
pub said_ids-decide : (a b : Option LinkIds) → Decides (option_eq link_ids.eq-value.it a b) (a ≡ b)
said_ids-decide None None = (λ h. refl, λ h. refl)
said_ids-decide None (Some b) = (λ h. absurd (cc), λ h. absurd (cc))
said_ids-decide (Some a) None = (λ h. absurd (cc), λ h. absurd (cc))
said_ids-decide (Some a) (Some b) = Decides-like _ (ap Some) (λ h. cc) (ids-decide a b)
