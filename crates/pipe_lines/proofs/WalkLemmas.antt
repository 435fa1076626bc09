-- A walk from one pass to the next.
use Rattle.std.proofs.Common.{◌≡◌, ◌≢◌, ◌⊎◌, inl, inr, ℕ, zero, suc, ◌+◌, ◌-◌, ◌<◌, ◌≤◌, Bool, true, false, not, cond, ltb, List, [], ◌∷◌, ◌++◌, length, drop, get_or, set, Option, Some, None, sym, refl, ap, ◌∙◌, subst, arith}
use Rattle.std.specs.Prelude.{filter, slice_get}
use Rattle.std.specs.Option.{option_or}
use Rattle.std.proofs.lemmas.Bool.{cases_eq, le-ltb, lt-ltb}
use Rattle.std.proofs.lemmas.List.{get_or-set_other, get_or-set_same, length-append, length-set}
use Rattle.std.proofs.lemmas.Option.{slice_get_within}
use Rattle.pipe_lines.specs.declared.deferral.DeferRow.{DeferRow}
use Rattle.pipe_lines.specs.declared.passing.Walk.{Walk}
use Rattle.pipe_lines.specs.declared.waits.Waits.{Waits as WaitTables}
use Rattle.pipe_lines.specs.PassOrder.{has_passed, is_free, least_left, looked_at, next_new, next_token, resumed}
use Rattle.pipe_lines.specs.inside.Waiting.{rows_of, tokens_of, waiters}
use Rattle.pipe_lines.specs.inside.Walks.{AreMarks, IsQueue, IsWalk, is_waiting}
use Rattle.pipe_lines.proofs.FindLemmas.{Finds, find_is, find_none}
use Rattle.pipe_lines.proofs.PassLemmas.{looked_push}
use Rattle.pipe_lines.proofs.QueueLemmas.{IsLeft, first_resumed, first_waits, left_first, left_new, mem_pushed, mem_unpushed, none_resumed, queue_after}
use Rattle.pipe_lines.proofs.StepLemmas.{IsNext, new_one, next_is}

-- ---- what is behind an index

drop_some : (ks : List ℕ) (i k : ℕ) → slice_get ks i ≡ Some k → drop i ks ≡ k ∷ drop (suc i) ks
drop_some [] i k is = absurd (cc)
drop_some (j ∷ ks) zero k is = let same : j ≡ k = cc in ap (λ x. x ∷ ks) same
drop_some (j ∷ ks) (suc i) k is = drop_some ks i k is

drop_none : (ks : List ℕ) (i : ℕ) → slice_get ks i ≡ None → drop i ks ≡ []
drop_none [] zero is = refl
drop_none [] (suc i) is = refl
drop_none (j ∷ ks) zero is = absurd (cc)
drop_none (j ∷ ks) (suc i) is = drop_none ks i is

none_past : (ks : List ℕ) (i : ℕ) → slice_get ks i ≡ None → length ks ≤ i
none_past [] i is = omega arith
none_past (j ∷ ks) zero is = absurd (cc)
none_past (j ∷ ks) (suc i) is = omega (arith, none_past ks i is)

drop_front : (ks js : List ℕ) (i : ℕ) → i ≤ length ks → drop i (ks ++ js) ≡ drop i ks ++ js
drop_front ks js zero within = refl
drop_front [] js (suc i) within = absurd (omega (arith, within))
drop_front (k ∷ ks) js (suc i) within = drop_front ks js i (omega (arith, within))

-- ---- the next token

pub next_queued : (tokens : ℕ) (rows : List DeferRow) (passed freed : List ℕ) (i k : ℕ) → IsQueue rows passed (drop i freed) → slice_get freed i ≡ Some k → Some k ≡ next_token tokens rows passed
next_queued tokens rows passed freed i k queue is =
    sym (ap (λ o. option_or o (next_new tokens rows passed)) (first_resumed rows passed k (drop (suc i) freed) (subst (IsQueue rows passed) (drop_some freed i k is) queue)))

pub next_unqueued : (tokens : ℕ) (rows : List DeferRow) (passed freed : List ℕ) (i : ℕ) → IsQueue rows passed (drop i freed) → slice_get freed i ≡ None → next_new tokens rows passed ≡ next_token tokens rows passed
next_unqueued tokens rows passed freed i queue is =
    sym (ap (λ o. option_or o (next_new tokens rows passed)) (none_resumed rows passed (subst (IsQueue rows passed) (drop_none freed i is) queue)))

-- ---- marks

pub marks_more : (tokens t : ℕ) (passed : List ℕ) (marks : List Bool) → t < tokens → AreMarks tokens passed marks → (new : List Bool) → new ≡ set marks t true → AreMarks tokens (passed ++ t ∷ []) new
marks_more tokens t passed marks below are new is = record { size = ap length is ∙ length-set marks t true ∙ are.size; each = λ k. ap (λ ms. get_or ms k false) is ∙ by_place k (cases_eq t k) }
  where
    by_place : (k : ℕ) → (t ≡ k) ⊎ (t ≢ k) → get_or (set marks t true) k false ≡ has_passed (passed ++ t ∷ []) k
    by_place k (inl same) = ap (λ j. get_or (set marks t true) j false) (sym same) ∙ get_or-set_same marks t true false (omega (arith, below, are.size)) ∙ sym (mem_pushed passed t) ∙ ap (has_passed (passed ++ t ∷ [])) same
    by_place k (inr other) = get_or-set_other marks t k true false (λ same. other (sym same)) ∙ are.each k ∙ sym (mem_unpushed passed t k other)

pub left_is : (marks : List Bool) (passed : List ℕ) (k : ℕ) → AreMarks (length marks) passed marks → k < length marks → get_or marks k false ≡ false → ((j : ℕ) → j < k → get_or marks j false ≡ true) → Some k ≡ least_left (length marks) passed
left_is marks passed k are below none before =
    sym (find_is (λ t. not (has_passed passed t)) 0 (length marks) k (record {
      from = omega arith;
      below = omega (arith, below);
      passes = ap not (sym (are.each k) ∙ none);
      least = λ j from less. ap not (sym (are.each j) ∙ before j less);
    }))

pub none_left : (marks : List Bool) (passed : List ℕ) → AreMarks (length marks) passed marks → ((j : ℕ) → j < length marks → get_or marks j false ≡ true) → None ≡ least_left (length marks) passed
none_left marks passed are all = sym (find_none (λ t. not (has_passed passed t)) 0 (length marks) (λ j from below. ap not (sym (are.each j) ∙ all j (omega (arith, below)))))

-- ---- a pass

-- the walk behind a pass
pub record IsBehind (tokens : ℕ) (rows : List DeferRow) (passed freed : List ℕ) (looked resumed : ℕ) : Type 0 where
  pub looked_is : looked ≡ looked_at passed
  pub within : looked ≤ tokens
  pub few : resumed ≤ length freed
  pub queue : IsQueue rows passed (drop resumed freed)

module _ (tokens : ℕ) (rows : List DeferRow) (passed freed : List ℕ) (t looked i : ℕ) (queue : IsQueue rows passed (drop i freed)) (looked_is : looked ≡ looked_at passed) (within : looked ≤ tokens) (is_next : next_token tokens rows passed ≡ Some t) where
  next : IsNext tokens rows passed t is_next
  next = next_is tokens rows passed t is_next (omega (arith, within, looked_is))

  pub behind : (looked_now resumed_now : ℕ) (freed_now : List ℕ)
      → looked_now ≡ cond (ltb i (length freed)) looked (t + 1) → resumed_now ≡ cond (ltb i (length freed)) (i + 1) i
      → freed_now ≡ freed ++ filter (is_waiting rows (passed ++ t ∷ []) looked_now) (waiters rows tokens t) → i ≤ length freed
      → IsBehind tokens rows (passed ++ t ∷ []) freed_now looked_now resumed_now
  behind looked_now resumed_now freed_now looked_eq resumed_eq freed_eq few = by_queue (slice_get freed i) refl
    where
      now : List ℕ
      now = passed ++ t ∷ []

      -- what the pass frees is put behind the rest
      joined : (rest : List ℕ) (j : ℕ) → IsLeft rows passed t rest → looked_now ≡ looked_at now → resumed_now ≡ j → j ≤ length freed → drop j freed ≡ rest → IsQueue rows now (drop resumed_now freed_now)
      joined rest j left looked_same resumed_same in_freed rest_is =
          subst (IsQueue rows now) (sym (
          ap (λ n. drop n freed_now) resumed_same ∙ ap (drop j) freed_eq ∙ drop_front freed (filter (is_waiting rows now looked_now) (waiters rows tokens t)) j in_freed
          ∙ ap (λ ks. ks ++ filter (is_waiting rows now looked_now) (waiters rows tokens t)) rest_is
          ∙ ap (λ n. rest ++ filter (is_waiting rows now n) (waiters rows tokens t)) looked_same
          )) (queue_after rows tokens passed t rest left is_next next)

      by_queue : (o : Option ℕ) → slice_get freed i ≡ o → IsBehind tokens rows now freed_now looked_now resumed_now
      by_queue (Some k) is = record {
        looked_is = looked_same;
        within = omega (arith, looked_same, next.within);
        few = omega (arith, resumed_same, inside, ap length freed_eq, length-append freed (filter (is_waiting rows now looked_now) (waiters rows tokens t)));
        queue = joined (drop (suc i) freed) (suc i) (left_first rows passed t (drop (suc i) freed) first) looked_same resumed_same (omega (arith, inside)) refl;
      }
        where
          inside : i < length freed
          inside = slice_get_within freed i k is

          same : k ≡ t
          same = let both : Some k ≡ Some t = next_queued tokens rows passed freed i k queue is ∙ is_next in cc

          first : IsQueue rows passed (t ∷ drop (suc i) freed)
          first = subst (λ x. IsQueue rows passed (x ∷ drop (suc i) freed)) same (subst (IsQueue rows passed) (drop_some freed i k is) queue)

          looked_same : looked_now ≡ looked_at now
          looked_same = omega (arith, looked_eq, ap (λ b. cond b looked (t + 1)) (lt-ltb i (length freed) inside), looked_is, looked_push passed t, (first_waits rows passed t (drop (suc i) freed) first).below)

          resumed_same : resumed_now ≡ suc i
          resumed_same = omega (arith, resumed_eq, ap (λ b. cond b (i + 1) i) (lt-ltb i (length freed) inside))
      by_queue None is = record {
        looked_is = looked_same;
        within = omega (arith, looked_same, next.within);
        few = omega (arith, resumed_same, few, ap length freed_eq, length-append freed (filter (is_waiting rows now looked_now) (waiters rows tokens t)));
        queue = joined [] i (left_new rows tokens passed t empty is_next) looked_same resumed_same few (drop_none freed i is);
      }
        where
          past : length freed ≤ i
          past = none_past freed i is

          empty : IsQueue rows passed []
          empty = subst (IsQueue rows passed) (drop_none freed i is) queue

          new : Finds (is_free rows passed) (looked_at passed) (tokens - looked_at passed) t
          new = new_one tokens rows passed t is_next (none_resumed rows passed empty)

          looked_same : looked_now ≡ looked_at now
          looked_same = omega (arith, looked_eq, ap (λ b. cond b looked (t + 1)) (le-ltb i (length freed) past), looked_push passed t, new.from)

          resumed_same : resumed_now ≡ i
          resumed_same = omega (arith, resumed_eq, ap (λ b. cond b (i + 1) i) (le-ltb i (length freed) past))

-- the token that a walk lets pass
pub walk_next : (waits : WaitTables) (walk : Walk) (t : ℕ) → IsWalk waits walk → (is_next : next_token (tokens_of waits) (rows_of waits) walk.passed ≡ Some t) → IsNext (tokens_of waits) (rows_of waits) walk.passed t is_next
walk_next waits walk t is is_next = next_is (tokens_of waits) (rows_of waits) walk.passed t is_next (omega (arith, is.within, is.looked))

-- the marks behind its pass
pub marks_behind : (waits : WaitTables) (walk : Walk) (t : ℕ) → IsWalk waits walk → next_token (tokens_of waits) (rows_of waits) walk.passed ≡ Some t
    → (passed : List ℕ) (marks : List Bool) → passed ≡ walk.passed ++ t ∷ [] → marks ≡ set walk.marks.items t true → AreMarks (tokens_of waits) passed marks
marks_behind waits walk t is is_next passed marks passed_is marks_are =
    subst (λ ps. AreMarks (tokens_of waits) ps marks) (sym passed_is)
    (marks_more (tokens_of waits) t walk.passed walk.marks.items (walk_next waits walk t is is_next).below is.marks marks marks_are)

-- how far it has looked then
pub looked_behind : (waits : WaitTables) (walk : Walk) (t : ℕ) → IsWalk waits walk → next_token (tokens_of waits) (rows_of waits) walk.passed ≡ Some t
    → (looked : ℕ) → looked ≡ cond (ltb walk.resumed (length walk.freed)) walk.looked (t + 1) → looked ≤ tokens_of waits
looked_behind waits walk t is is_next looked looked_is = by_test (ltb walk.resumed (length walk.freed)) looked_is
  where
    by_test : (b : Bool) → looked ≡ cond b walk.looked (t + 1) → looked ≤ tokens_of waits
    by_test true h = omega (arith, h, is.within)
    by_test false h = omega (arith, h, (walk_next waits walk t is is_next).below)

-- the rest of it
pub walk_behind : (waits : WaitTables) (walk : Walk) (t : ℕ) → IsWalk waits walk → next_token (tokens_of waits) (rows_of waits) walk.passed ≡ Some t
    → (passed freed : List ℕ) (looked resumed : ℕ) → passed ≡ walk.passed ++ t ∷ []
    → looked ≡ cond (ltb walk.resumed (length walk.freed)) walk.looked (t + 1) → resumed ≡ cond (ltb walk.resumed (length walk.freed)) (walk.resumed + 1) walk.resumed
    → freed ≡ walk.freed ++ filter (is_waiting (rows_of waits) passed looked) (waiters (rows_of waits) (tokens_of waits) t)
    → IsBehind (tokens_of waits) (rows_of waits) passed freed looked resumed
walk_behind waits walk t is is_next passed freed looked resumed passed_is looked_is resumed_is freed_is =
    subst (λ ps. IsBehind (tokens_of waits) (rows_of waits) ps freed looked resumed) (sym passed_is)
    (behind (tokens_of waits) (rows_of waits) walk.passed walk.freed t walk.looked walk.resumed is.queue is.looked is.within is_next looked resumed freed looked_is resumed_is
    (freed_is ∙ ap (λ ps. walk.freed ++ filter (is_waiting (rows_of waits) ps looked) (waiters (rows_of waits) (tokens_of waits) t)) passed_is) is.few)
