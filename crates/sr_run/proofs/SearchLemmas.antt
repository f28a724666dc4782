-- What the counter of searches shows of a domain, step by step.
use Rattle.std.proofs.Common.{◌≡◌, ℕ, ◌+◌, ◌-◌, ◌*◌, ◌≤◌, List, [], ◌∷◌, refl, sym, subst, arith, Option, Some, None}
use Rattle.sr_model.specs.Graph.{node_count, link_count}
use Rattle.sr_model.specs.Label.{Net}
use Rattle.sr_repair.specs.Version.{NumberedNet, version_of}
use Rattle.sr_repair.proofs.WorkLemmas.{work-none}
use Rattle.sr_run.specs.Domain.{Domain, TriedNet, last_version, with_net, with_asked, with_tried}
use Rattle.sr_run.specs.Searches.{IsWithinCommits, IsWithinTries, IsCommitWork, CountsCommitWork, CountsSearches}
use Rattle.sr_run.proofs.StepLemmas.{Stays}

-- one more net
within-more : (nets : List Net) (net : Net) (count here : ℕ) → IsWithinCommits nets count → IsCommitWork (last_version nets) net here → IsWithinCommits (net ∷ nets) (count + here)
within-more [] net count here within work = omega (arith, within, work)
within-more (before ∷ earlier) net count here within work = (here, count, omega arith, work, within)

-- where the nets, the questions for certificates and what was tried stay
pub counts-still : (old new : Domain) (before after : ℕ) → new.nets ≡ old.nets → new.asked ≡ old.asked → new.tried ≡ old.tried → CountsSearches old before after → CountsSearches new before after
counts-still old new before after nets asked tried s = record {
  commits = s.commits;
  within = subst (λ (n : List Net). IsWithinCommits n s.commits) (sym nets) s.within;
  tries = s.tries;
  tried = subst (λ (n : List TriedNet). IsWithinTries n s.tries) (sym tried) s.tried;
  most = omega (arith, s.most, asked);
}

pub counts-stays : (old new : Domain) (before after : ℕ) → Stays old new → CountsSearches old before after → CountsSearches new before after
counts-stays old new before after stays s = counts-still old new before after stays.nets stays.asked stays.tried s

-- a net is accepted
pub counts-accepted : (domain : Domain) (net : Net) (before after here : ℕ) → CountsSearches domain before after → IsCommitWork (last_version domain.nets) net here → CountsSearches (with_net domain net) before (after + here)
counts-accepted domain net before after here s work = record {
  commits = s.commits + here;
  within = within-more domain.nets net s.commits here s.within work;
  tries = s.tries;
  tried = s.tried;
  most = omega (arith, s.most);
}

-- a question was tried on a net
pub counts-tried : (domain : Domain) (net : Net) (before after here : ℕ) → CountsSearches domain before after → IsCommitWork (last_version domain.nets) net here → CountsSearches (with_tried domain net) before (after + here)
counts-tried domain net before after here s work = record {
  commits = s.commits;
  within = s.within;
  tries = here + s.tries;
  tried = (here, s.tries, refl, work, s.tried);
  most = omega (arith, s.most);
}

-- a certificate was asked for
pub counts-asked : (domain : Domain) (before after now : ℕ) → now ≤ after + 1 → CountsSearches domain before after → CountsSearches (with_asked domain) before now
counts-asked domain before after now more s = record { commits = s.commits; within = s.within; tries = s.tries; tried = s.tried; most = omega (arith, s.most, more) }

-- ---- one commit

none-within : (current : Option NumberedNet) (net : Net) → IsCommitWork current net 0
none-within None net = omega arith
none-within (Some version) net = work-none version.net net

-- nothing was searched for
pub unsearched-counts : (current : Option NumberedNet) (net : Net) (count : ℕ) → CountsCommitWork current net count count
unsearched-counts current net count = (0, omega arith, none-within current net)

-- the first version
pub opening-counts : (current : Option NumberedNet) (net : Net) (before after : ℕ) → current ≡ None → before ≤ after → after ≤ before + node_count net.graph + 3 * link_count net.graph → CountsCommitWork current net before after
opening-counts current net before after none least most =
    (after - before, omega (arith, least), subst (λ (o : Option NumberedNet). IsCommitWork o net (after - before)) (sym none) (omega (arith, least, most)))

-- the version after this one
pub next-counts : (current : Option NumberedNet) (version : NumberedNet) (net : Net) (before after : ℕ) → current ≡ Some version → CountsCommitWork (Some version) net before after → CountsCommitWork current net before after
next-counts current version net before after some c = subst (λ (o : Option NumberedNet). CountsCommitWork o net before after) (sym some) c

-- the version that was made of the net
pub made-counts : (here current : Option NumberedNet) (number : ℕ) (net : Net) (version : NumberedNet) (before after : ℕ) → here ≡ current → version ≡ version_of number net → CountsCommitWork here net before after → CountsCommitWork current version.net before after
made-counts here current number net version before after is made c =
    subst (λ (o : Option NumberedNet). CountsCommitWork o version.net before after) is
    (subst (λ (v : NumberedNet). CountsCommitWork here v.net before after) (sym made) c)

-- where memory ran out
pub counts-no_less : (current : Option NumberedNet) (net : Net) (before after : ℕ) → CountsCommitWork current net before after → before ≤ after
counts-no_less current net before after c = omega (arith, c.1)
