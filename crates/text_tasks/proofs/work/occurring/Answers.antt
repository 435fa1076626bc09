use Rattle.std.proofs.Common.{◌≡◌, ◌+◌, ℕ, ℤ, pos, Bool, cond, List, [], ◌∷◌, ◌++◌, map, drop, w64, to_z, ◌∙◌, ap, sym, arith}
use Rattle.std.proofs.lemmas.Int.{to_z_pos}
use Rattle.task_graph.specs.Places.{places_from}
use Rattle.text_ops.specs.TextMeaning.{has_word}
use Rattle.text_tasks.proofs.WorkLemmas.{occurring_next}
use Rattle.text_tasks.proofs.work.occurring.Goals as goal
use Rattle.text_tasks.proofs.work.occurring.Goals.{then-has_word+in_ok-push, else-has_word}

pub loop-index-preserved : goal.loop-index-preserved
loop-index-preserved c =
    let words : List (List ℕ) = c.args.words.now in
    let text : List ℕ = c.args.text.now in
    let i : ℕ = c.loop-index.index in
    let chosen : List ℤ = c.loop-index.chosen in
    let is = c.has_word.ensures ∙ ap (λ word. has_word word text) (c.as_slice.ensures ∙ c.index-words-index.is) in
    let next = occurring_next words text chosen i c.index-words-index.result c.has_word.result c.loop-index-test.true is in
    let more : Bool → List ℤ = λ b. cond b (chosen ++ pos i ∷ []) chosen in
    let small : to_z w64 i ≡ pos i = to_z_pos w64 i (omega (arith, c.loop-index-test.true, c.requires)) in
    let added : c.if-has_word.chosen ≡ more c.has_word.result = elim c.if-has_word.branch [
      | then-has_word+in_ok-push w ↦ w.chosen-is ∙ w.in_ok-push.ensures.ok ∙ ap (λ index. chosen ++ index ∷ []) small ∙ ap more (sym w.if-has_word.true)
      | else-has_word w ↦ w.chosen-is ∙ ap more (sym w.if-has_word.false)
    ] in
    ap (λ front. front ++ map pos (places_from (λ word. has_word word text) (i + 1) (drop (i + 1) words))) added ∙ next ∙ c.loop-index.invariant
