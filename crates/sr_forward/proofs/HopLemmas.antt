-- Open hops, told from their links.
use Rattle.std.proofs.Common.{◌≡◌, ◌≢◌, ℕ, zero, suc, ◌+◌, ◌-◌, ◌<◌, Bool, true, false, cond, List, [], ◌∷◌, length, drop, drop-cons, get_or, refl, ap, sym, ◌∙◌, Some, arith}
use Rattle.std.specs.Prelude.{map, not, slice_get}
use Rattle.std.proofs.lemmas.Bool.{cond-true, cond-false}
use Rattle.std.proofs.lemmas.List.{length-map, get_or-map}
use Rattle.std.proofs.lemmas.Option.{get_or_from_slice_get}
use Rattle.sr_model.specs.declared.link.LinkNo.{LinkNo}
use Rattle.sr_model.specs.declared.entry.Out.{Out}
use Rattle.sr_model.specs.declared.entry.Out.TheVariants.{Pop}
use Rattle.sr_model.specs.Graph.{has}
use Rattle.sr_fib.specs.Outs.{hop_link}
use Rattle.sr_forward.specs.Choices.{open_hops, open_links}

kept-links : (b : Bool) (h : LinkNo × Out) (hops : List (LinkNo × Out)) (links : List LinkNo) → map hop_link hops ≡ links → map hop_link (cond b (h ∷ hops) hops) ≡ cond b (h.0 ∷ links) links
kept-links true h hops links same = ap (λ rest. h.0 ∷ rest) same
kept-links false h hops links same = same

-- the links of the open hops are the open links
links-open : (closed : List Bool) (hops : List (LinkNo × Out)) → map hop_link (open_hops closed hops) ≡ open_links closed (map hop_link hops)
links-open closed [] = refl
links-open closed (h ∷ hops) = kept-links (not (has closed h.0.0)) h (open_hops closed hops) (open_links closed (map hop_link hops)) (links-open closed hops)

-- so there are as many
pub open-long : (closed : List Bool) (hops : List (LinkNo × Out)) (links : List LinkNo) → links ≡ map hop_link hops → length (open_links closed links) ≡ length (open_hops closed hops)
open-long closed hops links are = ap (λ ls. length (open_links closed ls)) are ∙ ap length (sym (links-open closed hops)) ∙ length-map (open_hops closed hops) hop_link

-- ---- what is open from a place on
abbrev no_link : LinkNo
no_link = record { 0 = 0 }

abbrev hop_at : List (LinkNo × Out) → ℕ → LinkNo × Out
hop_at hops at = get_or hops at (no_link, Pop)

module _ (closed : List Bool) (hops : List (LinkNo × Out)) (links : List LinkNo) (are : links ≡ map hop_link hops) (at : ℕ) (lt : at < length links) (shut : Bool) (told : shut ≡ has closed (get_or links at no_link).0) where
  within : at < length hops
  within = omega (arith, lt, ap length are, length-map hops hop_link)

  same : not shut ≡ not (has closed (hop_at hops at).0.0)
  same = ap not (told ∙ ap (λ (ls : List LinkNo). has closed (get_or ls at no_link).0) are ∙ ap (λ (l : LinkNo). has closed l.0) (get_or-map hop_link hops at (no_link, Pop) no_link within))

  parted : open_hops closed (drop at hops) ≡ cond (not (has closed (hop_at hops at).0.0)) (hop_at hops at ∷ open_hops closed (drop (at + 1) hops)) (open_hops closed (drop (at + 1) hops))
  parted =
      let next : suc at ≡ at + 1 = omega arith in
      ap (open_hops closed) (drop-cons hops at (no_link, Pop) within ∙ ap (λ k. hop_at hops at ∷ drop k hops) next)

  first : shut ≡ false → open_hops closed (drop at hops) ≡ hop_at hops at ∷ open_hops closed (drop (at + 1) hops)
  first is = parted ∙ cond-true (not (has closed (hop_at hops at).0.0)) (hop_at hops at ∷ open_hops closed (drop (at + 1) hops)) (open_hops closed (drop (at + 1) hops)) (sym same ∙ ap not is)

  -- an open hop comes first
  pub open-first : shut ≡ false → (hop : LinkNo × Out) → slice_get hops at ≡ Some hop → Some hop ≡ slice_get (open_hops closed (drop at hops)) 0
  open-first is hop there = sym (ap (λ (hs : List (LinkNo × Out)). slice_get hs 0) (first is) ∙ ap (λ k. Some k) (get_or_from_slice_get hops at hop (no_link, Pop) there))

  tail-at : (h : LinkNo × Out) (rest : List (LinkNo × Out)) (left : ℕ) → left ≢ 0 → slice_get (h ∷ rest) left ≡ slice_get rest (left - 1)
  tail-at h rest zero some = absurd (some refl)
  tail-at h rest (suc k) some = let e : k ≡ suc k - 1 = omega arith in ap (slice_get rest) e

  -- the others after it
  pub open-next : shut ≡ false → (left : ℕ) → left ≢ 0 → slice_get (open_hops closed (drop (at + 1) hops)) (left - 1) ≡ slice_get (open_hops closed (drop at hops)) left
  open-next is left some = sym (ap (λ (hs : List (LinkNo × Out)). slice_get hs left) (first is) ∙ tail-at (hop_at hops at) (open_hops closed (drop (at + 1) hops)) left some)

  -- a closed one is left out
  pub open-not : shut ≡ true → open_hops closed (drop (at + 1) hops) ≡ open_hops closed (drop at hops)
  open-not is = sym (parted ∙ cond-false (not (has closed (hop_at hops at).0.0)) (hop_at hops at ∷ open_hops closed (drop (at + 1) hops)) (open_hops closed (drop (at + 1) hops)) (sym same ∙ ap not is))
