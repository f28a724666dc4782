-- What is computed of a net is what is computed of another in which the same is listed.
use Rattle.std.proofs.Common.{◌≡◌, ℕ, ◌<◌, List, None, Some, get_or, ap, sym, subst, ◌∙◌}
use Rattle.std.specs.Arc.{arc_value}
use Rattle.sr_model.specs.declared.case.Case.{Case}
use Rattle.sr_model.specs.Case.{IsFailedSet, source_of}
use Rattle.sr_model.specs.Label.{Net}
use Rattle.sr_model.specs.Walk.{IsRow}
use Rattle.sr_laws.specs.Listed.{HaveSameLists}
use Rattle.sr_laws.proofs.SameLists.{same-affected, same-listed}
use Rattle.sr_encode.specs.declared.answers.NodeAnswer.{NodeAnswer}
use Rattle.sr_graph.specs.Ranges.{HoldsLinks}
use Rattle.sr_encode.specs.Answered.{AreLists, answer_at, destination_at}
use Rattle.sr_encode.specs.Placed.{listed_from, ArePlacedLists, Listing}
use Rattle.sr_lanes.specs.declared.words.NodeBits.{NodeBits}
use Rattle.sr_post.specs.Marks.{AreWalks}
use Rattle.sr_fib.specs.declared.sorted.LabelledLink.{LabelledLink}
use Rattle.sr_fib.specs.Sorted.{link_entry, node_entry}
use Rattle.sr_fib.specs.Tables.{SidLists, AreAdjacencies, AreSids, links_by_label_at}
use Rattle.sr_model.specs.Graph.{node_count, link_count, tail}
use Rattle.sr_repair.specs.declared.answers.Found.{Found}
use Rattle.sr_repair.specs.declared.answers.Found.TheVariants.{Nothing, AsLink, Own}
use Rattle.sr_repair.specs.Answers.{AreAllFound, IsFound, case_count}

module _ (n m : Net) (same : HaveSameLists n m) where
  back : HaveSameLists m n
  back = record { graph = sym same.graph; index = λ v. sym (same.index v); adj = sym same.adj }

  lists-shared : (case : Case) (list : List NodeAnswer) → AreLists n case list → AreLists m case list
  lists-shared case list r = record {
    ascending = r.ascending;
    affected = λ i lt. same-affected n m same case (destination_at list i) (r.affected i lt);
    answers = λ i lt. same-listed n m same case (destination_at list i) (answer_at list i) (r.answers i lt);
    all = λ d a. r.all d (same-affected m n back case d a);
  }

  placed-shared : (case : Case) (listing : Listing) → ArePlacedLists n case listing → ArePlacedLists m case listing
  placed-shared case listing r = record { from = λ first end holds. lists-shared case (listed_from first listing) (r.from first end (subst (λ g. HoldsLinks g (source_of g case) first end) same.graph holds)) }

  walks-shared : (case : Case) (set : NodeBits) → AreWalks n case set → AreWalks m case set
  walks-shared case set r = record {
    marks = λ x failed v.
        let here = r.marks x (subst (λ g. IsFailedSet g case x) same.graph failed) v in (
          λ yes. let on = here.0 yes in (on.0, same-affected n m same case on.0 on.1, rw same.graph on.2),
          λ on. here.1 (on.0, same-affected m n back case on.0 on.1, rw same.graph at on.2),
        );
  }

  adjacencies-shared : (u : ℕ) (list : List LabelledLink) → AreAdjacencies n u list → AreAdjacencies m u list
  adjacencies-shared u list r = record {
    each = λ i lt. let one = r.each i lt in (
      subst (λ g. (link_entry list i).link.0 < link_count g) (sym same.graph) one.0,
      subst (λ g. tail g (link_entry list i).link.0 ≡ u) (sym same.graph) one.1,
      subst (λ adj. get_or adj (link_entry list i).link.0 None ≡ Some (link_entry list i).label) (sym same.adj) one.2,
    );
    all = λ l label lt from is.
        r.all l label (subst (λ g. l < link_count g) same.graph lt) (subst (λ g. tail g l ≡ u) same.graph from)
        (subst (λ adj. get_or adj l None ≡ Some label) same.adj is);
  }

  -- the nodes and links by their labels
  pub sids-shared : (s : SidLists) → AreSids n s → AreSids m s
  sids-shared s r = record {
    indices = record {
      each = λ i lt. let one = r.indices.each i lt in (
        subst (λ g. (node_entry s.indices i).node.0 < node_count g) (sym same.graph) one.0,
        same.index _ ∙ one.1,
      );
      all = λ v index lt is. r.indices.all v index (subst (λ g. v < node_count g) same.graph lt) (sym (same.index v) ∙ is);
    };
    links = record {
      long = r.links.long ∙ ap node_count (sym same.graph);
      each = λ u lt. adjacencies-shared u (links_by_label_at s.links u) (r.links.each u (subst (λ g. u < node_count g) same.graph lt));
    };
  }

  -- the record of a case
  found-shared : (case : Case) (one : Found) → IsFound n case one → IsFound m case one
  found-shared case Nothing none = λ some. none (some.0, same-affected m n back case some.0 some.1)
  found-shared case AsLink like = rw same.graph like
  found-shared case (Own known) is = record {
    solution = record {
      row = λ x failed. subst (λ g. IsRow g x (source_of g case) (arc_value known.solved).cells) (sym same.graph) (is.solution.row x (subst (λ g. IsFailedSet g case x) same.graph failed));
      lists = placed-shared case (arc_value known.solved).lists is.solution.lists;
    };
    walks = λ set told. walks-shared case set (is.walks set told);
  }

  -- and those of all cases
  pub all-shared : (found : List Found) → AreAllFound n (case_count n.graph) found → AreAllFound m (case_count m.graph) found
  all-shared found r = record {
    long = rw same.graph r.long;
    each = λ case within lt. found-shared case _ (r.each case (rw same.graph at within) (rw same.graph at lt));
  }
