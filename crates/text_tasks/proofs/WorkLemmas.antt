-- What operations make of what is found.
use Rattle.std.proofs.Common.{◌≡◌, ℕ, suc, ◌+◌, ◌<◌, ℤ, pos, Bool, true, false, cond, List, [], ◌∷◌, ◌++◌, length, map, drop, get_or, Some, sym, ap, ◌∙◌, arith, drop-cons, append_assoc}
use Rattle.std.specs.Prelude.{◌≢◌, if◌then◌else◌}
use Rattle.task_graph.specs.NetRows.{NetRows}
use Rattle.task_graph.specs.Places.{places_from}
use Rattle.text_ops.specs.declared.gathered.ApplyError.{ApplyError}
use Rattle.text_ops.specs.declared.gathered.ApplyError.TheVariants.{Long, NoMemory}
use Rattle.text_ops.specs.Lines.{IsNormal}
use Rattle.text_ops.specs.TextMeaning.{has_word, sort_meaning}
use Rattle.text_ops.specs.Values.{MayRefuse}
use Rattle.text_ops.proofs.SortLemmas.{length-sort_meaning}
use Rattle.text_tasks.specs.Sinks.{is_sink, last_sink_below}
use Rattle.text_tasks.proofs.LastLemmas.{last_next}

-- The last task without an out-edge, with one task more.
pub last_sink_next : (net : NetRows) (n : ℕ) → last_sink_below net (n + 1) ≡ (if is_sink net n then Some n else last_sink_below net n)
last_sink_next net n = last_next (is_sink net) n

-- the places of the items that pass, behind those that were looked at
pub places_next : {X : Type 0} (p : X → Bool) (xs : List X) (i : ℕ) (d : X) → i < length xs → places_from p i (drop i xs) ≡ cond (p (get_or xs i d)) (i ∷ places_from p (i + 1) (drop (i + 1) xs)) (places_from p (i + 1) (drop (i + 1) xs))
places_next p xs i d below =
    let next : i + 1 ≡ suc i = omega arith in
    rw next (ap (places_from p i) (drop-cons xs i d below))

-- the words that occur, behind those that were looked at
pub occurring_next : (words : List (List ℕ)) (text : List ℕ) (chosen : List ℤ) (i : ℕ) (d : List ℕ) (is : Bool) → i < length words → is ≡ has_word (get_or words i d) text → cond is (chosen ++ pos i ∷ []) chosen ++ map pos (places_from (λ word. has_word word text) (i + 1) (drop (i + 1) words)) ≡ chosen ++ map pos (places_from (λ word. has_word word text) i (drop i words))
occurring_next words text chosen i d is below same = by_test is (ap (λ found. chosen ++ map pos found) (places_next (λ word. has_word word text) words i d below ∙ ap (λ b. cond b (i ∷ behind) behind) (sym same)))
  where
    behind : List ℕ
    behind = places_from (λ word. has_word word text) (i + 1) (drop (i + 1) words)

    by_test : (b : Bool) → chosen ++ map pos (places_from (λ word. has_word word text) i (drop i words)) ≡ chosen ++ map pos (cond b (i ∷ behind) behind) → cond b (chosen ++ pos i ∷ []) chosen ++ map pos behind ≡ chosen ++ map pos (places_from (λ word. has_word word text) i (drop i words))
    by_test true step = append_assoc chosen (pos i ∷ []) (map pos behind) ∙ sym step
    by_test false step = sym step

-- a text in order is as long as the text
pub sort_refuses : (text : List ℕ) (error : ApplyError) → (error ≢ NoMemory → IsNormal text) → MayRefuse text error → MayRefuse (sort_meaning text) error
sort_refuses text (Long n) is refused = (refused.0 ∙ sym (length-sort_meaning text (is (λ same. cc))), refused.1)
sort_refuses text NoMemory is refused = tt
