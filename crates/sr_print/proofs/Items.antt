-- The lines of answers, as those of items.
use Rattle.std.proofs.Common.{◌≡◌, ℕ, ◌+◌, ◌<◌, refl, List, [], ◌∷◌, ◌++◌, ap, ◌∙◌, sym, take, length}
use Rattle.std.specs.Prelude.{codes}
use Rattle.std.proofs.lemmas.List.{append-nil, flat_map_more, take_more}
use Rattle.std.proofs.lemmas.Slice.Zip.{all_zipped_more}
use Rattle.sr_model.specs.declared.case.Case.{Case}
use Rattle.sr_model.specs.declared.repair.RepairList.{RepairList}
use Rattle.sr_model.specs.declared.repair.Answer.{Answer}
use Rattle.sr_model.specs.declared.repair.Answer.TheVariants.{Least, NoPath, NoList, TooDeep}
use Rattle.sr_model.specs.Label.{Net}
use Rattle.sr_encode.specs.declared.answers.NodeAnswer.{NodeAnswer}
use Rattle.sr_encode.specs.Answered.{node_answer_at}
use Rattle.sr_repair.specs.Items.{IsItemFor}
use Rattle.sr_print.specs.Answers.{PutsAnswer, PutsItem, PutsItemsFor}
use Rattle.sr_print.specs.Names.{node_text}
use Rattle.sr_print.specs.Repairs.{answer_text, case_head, case_text, item_line, uncovered_text}
use Rattle.sr_print.proofs.Appended.{two_pieces}

-- an answer that isn't a list, with no labels
pub uncovered-put : (n : Net) (d : ℕ) (answer : Answer) (old new : List ℕ) → ((list : RepairList) → answer ≡ Least list → ⊥) → new ≡ old ++ uncovered_text answer → PutsAnswer n d answer old new
uncovered-put n d (Least list) old new not is = absurd (not list refl)
uncovered-put n d NoPath old new not is = record { labels = []; are = refl; text = is }
uncovered-put n d NoList old new not is = record { labels = []; are = refl; text = is }
uncovered-put n d (TooDeep needed) old new not is = record { labels = []; are = refl; text = is }

-- the line of an answer is that of an item
pub line-put : (n : Net) (case : Case) (entry : NodeAnswer) (old one two three new : List ℕ) → one ≡ old ++ case_head n case → two ≡ one ++ node_text n entry.destination.0 → PutsAnswer n entry.destination.0 entry.answer two three → new ≡ three ++ codes "\n" → PutsItem n case entry old new
unfolding item_line
line-put n case entry old one two three new a b puts c =
    let d = entry.destination.0 in
    let answer = answer_text n entry.answer puts.labels in
    record {
      item = record { case = case; dest = entry.destination; answer = entry.answer; labels = puts.labels };
      is = record { case = refl; dest = refl; answer = refl; labels = puts.are };
      text =
          two_pieces old three new (case_text n case d ++ answer) (codes "\n")
          (two_pieces old two three (case_text n case d) answer (two_pieces old one two (case_head n case) (node_text n d) a b) puts.text)
          c;
    }

-- one more line
pub items-more : (n : Net) (case : Case) (answers : List NodeAnswer) (i : ℕ) (entry : NodeAnswer) (old so_far new : List ℕ) → i < length answers → entry ≡ node_answer_at answers i → PutsItemsFor n case (take i answers) old so_far → PutsItem n case entry so_far new → PutsItemsFor n case (take (i + 1) answers) old new
items-more n case answers i entry old so_far new lt here puts last =
    let more : take (i + 1) answers ≡ take i answers ++ entry ∷ [] = take_more answers i _ lt ∙ ap (λ (x : NodeAnswer). take i answers ++ x ∷ []) (sym here) in
    record {
      items = puts.items ++ last.item ∷ [];
      each = rw more (all_zipped_more (IsItemFor n case) (take i answers) puts.items entry last.item puts.each last.is);
      text = last.text ∙ ap (λ (t : List ℕ). t ++ item_line n last.item) puts.text ∙ flat_map_more (item_line n) old puts.items last.item;
    }

-- no line
pub items-none : (n : Net) (case : Case) (old : List ℕ) → PutsItemsFor n case [] old old
items-none n case old = record { items = []; each = tt; text = sym (append-nil old) }
