-- The definitions of folds and chunks, computed on small ranges.
use Rattle.std.proofs.Common.{◌≡◌, ℕ, zero, suc, ◌+◌, ◌<◌, ◌≤◌, List, [], ◌∷◌, length, map, true, false, refl, ap, sym, subst, arith}
use Rattle.std.specs.Prelude.{Some}
use Rattle.run_frame.specs.declared.job.Answer.TheVariants.{All}
use Rattle.run_frame.specs.declared.job.Done.TheVariants.{Value, Inner as InnerJob}
use Rattle.run_frame.specs.declared.run.FrameRun.{FrameRun}
use Rattle.journal_rules.specs.declared.entry.Why.{Why}
use Rattle.nested_runs.specs.Spreads.{part_limit, spread_net}
use Rattle.atomic_table.specs.Seated.{TableId}
use Rattle.grain_tasks.specs.declared.chunk.Chunk.{Chunk}
use Rattle.grain_tasks.specs.declared.errors.GrainError.TheVariants.{ZeroGrain, TooMany, NoMemory}
use Rattle.grain_tasks.specs.declared.row.Drawn.TheVariants.{Chunk as DrawnChunk, Empty}
use Rattle.grain_tasks.specs.Folds.{Folding, IsLawful, fold_from, joined, plain_fold}
use Rattle.grain_tasks.specs.Chunks.{AreConsecutive, HaveEachOnce, chunk_at, chunk_count, chunk_fold, has_index, static_chunks}
use Rattle.grain_tasks.specs.ChunkWork.{ChunkAnswers, ChunkWork, IsChunkWork, RefusesJob, TakesJob, chunk_job, chunk_work, task_count}
use Rattle.grain_tasks.specs.Rows.{DrainedState, DrawState, DrawsNext, Drains, GathersBoth, IsDrawnChunk, IsShape, IsWholeWhenAll, RefusesRow, RowState, draw_state, row_shape}
use Rattle.grain_tasks.specs.Draws.{DrawsFrom}
use Rattle.test_grains.specs.Samples.{doubling, summing, visiting}
use Rattle.test_grains.specs.declared.samples.Doubles.{Doubles}
use Rattle.test_grains.specs.declared.samples.Sum.{Sum}
use Rattle.test_grains.specs.declared.samples.Visits.{Visits}

abbrev chunk : ℕ → ℕ → Chunk
chunk from to = record { from = from; to = to }

-- five indices, each of which is its own value
abbrev five : Visits
five = record { count = 5 }

-- ---- folds

values_in_order : joined visiting five ((1 ∷ []) ∷ (2 ∷ 3 ∷ []) ∷ []) ≡ 1 ∷ 2 ∷ 3 ∷ []
values_in_order = refl

no_values : joined visiting five [] ≡ []
no_values = refl

from_an_index_on : fold_from visiting five 2 2 ≡ 2 ∷ 3 ∷ []
from_an_index_on = refl

all_in_order : plain_fold visiting five 5 ≡ 0 ∷ 1 ∷ 2 ∷ 3 ∷ 4 ∷ []
all_in_order = refl

the_first_ones : plain_fold visiting five 1 ≡ 0 ∷ []
the_first_ones = refl

-- a join that isn't associative, as the laws ask
abbrev counting_down : Folding Visits ℕ
counting_down = record { count = λ f. f.count; at = λ f i. 1; unit = λ f. 0; join = λ f x y. Rattle.std.specs.Prelude.◌-◌ x y; allowed = λ f x. Unit {0} }

subtraction_is_no_join : ¬ IsLawful counting_down five
subtraction_is_no_join laws = absurd (omega (arith, laws.associative 2 1 1 tt tt tt))

-- a unit that isn't neutral
abbrev from_one : Folding Visits ℕ
from_one = record { count = λ f. f.count; at = λ f i. 1; unit = λ f. 1; join = λ f x y. x + y; allowed = λ f x. Unit {0} }

one_is_not_neutral : ¬ IsLawful from_one five
one_is_not_neutral laws = absurd (omega (arith, laws.left_neutral 0 tt, laws.right_neutral 0 tt))

-- values that aren't allowed
abbrev below_two : Folding Visits ℕ
below_two = record { count = λ f. f.count; at = λ f i. i; unit = λ f. 0; join = λ f x y. x + y; allowed = λ f x. x < 2 }

value_of_an_index_not_allowed : ¬ IsLawful below_two five
value_of_an_index_not_allowed laws = absurd (omega (arith, laws.value_allowed 3 (omega arith)))

join_not_allowed : ¬ IsLawful below_two five
join_not_allowed laws = absurd (omega (arith, laws.join_allowed 1 1 (omega arith) (omega arith)))

-- ---- chunks

fold_of_a_chunk : chunk_fold visiting five (chunk 1 3) ≡ 1 ∷ 2 ∷ []
fold_of_a_chunk = refl

one_behind_the_other : AreConsecutive 0 5 (chunk 0 2 ∷ chunk 2 2 ∷ chunk 2 5 ∷ [])
one_behind_the_other = (refl, omega arith, (refl, omega arith, (refl, omega arith, refl)))

gap_between_chunks : ¬ AreConsecutive 0 5 (chunk 0 2 ∷ chunk 3 5 ∷ [])
gap_between_chunks are = absurd (omega (arith, are.2.0))

chunks_that_end_early : ¬ AreConsecutive 0 5 (chunk 0 4 ∷ [])
chunks_that_end_early are = absurd (omega (arith, are.2))

chunk_that_goes_back : ¬ AreConsecutive 2 2 (chunk 2 1 ∷ chunk 1 2 ∷ [])
chunk_that_goes_back are = absurd (omega (arith, are.1))

chunks_of_two : static_chunks 5 2 ≡ chunk 0 2 ∷ chunk 2 4 ∷ chunk 4 5 ∷ []
chunks_of_two = refl

how_many_chunks : (chunk_count 5 2 ≡ 3) × (chunk_count 4 2 ≡ 2) × (chunk_count 0 2 ≡ 0)
how_many_chunks = (refl, refl, refl)

last_chunk_is_shorter : (chunk_at 5 2 1 ≡ chunk 2 4) × (chunk_at 5 2 2 ≡ chunk 4 5)
last_chunk_is_shorter = (refl, refl)

indices_of_a_chunk : (has_index 1 (chunk 1 3) ≡ true) × (has_index 2 (chunk 1 3) ≡ true) × (has_index 3 (chunk 1 3) ≡ false) × (has_index 0 (chunk 1 3) ≡ false)
indices_of_a_chunk = (refl, refl, refl, refl)

index_twice : ¬ HaveEachOnce 3 (chunk 0 2 ∷ chunk 1 3 ∷ [])
index_twice each = absurd (omega (arith, each 1))

index_left_out : ¬ HaveEachOnce 3 (chunk 0 2 ∷ [])
index_left_out each = absurd (omega (arith, each 2))

index_past_the_count : ¬ HaveEachOnce 3 (chunk 0 4 ∷ [])
index_past_the_count each = absurd (omega (arith, each 3))

-- ---- jobs of chunks

abbrev in_twos : ChunkWork Visits
in_twos = chunk_work five 5 2

tasks_of_a_job : task_count in_twos ≡ 3
tasks_of_a_job = refl

of_two_a_chunk : IsChunkWork visiting in_twos
of_two_a_chunk = record { some = omega arith; within = omega arith; few = omega arith }

of_none_a_chunk : ¬ IsChunkWork visiting (chunk_work five 5 0)
of_none_a_chunk is = absurd (omega (arith, is.some))

past_the_indices : ¬ IsChunkWork visiting (chunk_work five 6 2)
past_the_indices is = absurd (omega (arith, is.within))

fold_of_its_chunk_answered : ChunkAnswers visiting in_twos 1 (Value (2 ∷ 3 ∷ []) All)
fold_of_its_chunk_answered = (refl, refl)

fold_of_another_chunk_answered : ¬ ChunkAnswers visiting in_twos 1 (Value (0 ∷ 1 ∷ []) All)
fold_of_another_chunk_answered is = absurd (omega (arith, ap (λ l. Rattle.std.specs.Prelude.slice_index l 0) is.0))

inner_job_answered : (job : ChunkWork Visits) → ¬ ChunkAnswers visiting in_twos 1 (InnerJob job)
inner_job_answered job is = is

net_of_a_job : ((chunk_job visiting).net in_twos ≡ spread_net 3) × ((chunk_job visiting).limit in_twos ≡ 3) × ((chunk_job visiting).limit (chunk_work five 0 2) ≡ 1)
net_of_a_job = (refl, refl, refl)

no_fault : (why : Why) → ¬ (chunk_job visiting).faults in_twos 0 [] why
no_fault why is = is

gathered_to_the_plain_fold : (run : FrameRun (ChunkWork Visits) (List ℕ)) → (chunk_job visiting).gathers in_twos run (0 ∷ 1 ∷ 2 ∷ 3 ∷ 4 ∷ [])
gathered_to_the_plain_fold run = refl

no_round_follows : (run : FrameRun (ChunkWork Visits) (List ℕ)) → (¬ (chunk_job visiting).follows in_twos run in_twos) × ((why : Why) → ¬ (chunk_job visiting).gather_faults in_twos run why)
no_round_follows run = (λ is. is, λ why is. is)

as_many_chunks_as_may_be : TakesJob 65536 1 × (¬ TakesJob 65537 1) × (¬ TakesJob 5 0)
as_many_chunks_as_may_be = (record { some = omega arith; few = omega arith }, λ takes. absurd (omega (arith, takes.few)), λ takes. absurd (omega (arith, takes.some)))

why_a_job_is_refused : RefusesJob 5 0 ZeroGrain × (¬ RefusesJob 5 1 ZeroGrain) × RefusesJob 65537 1 (TooMany 65537) × (¬ RefusesJob 65537 1 (TooMany 1)) × (¬ RefusesJob 65537 1 NoMemory)
why_a_job_is_refused = (refl, λ is. absurd (omega (arith, is)), (omega arith, refl, omega arith), λ is. absurd (omega (arith, is.1)), λ is. absurd (omega (arith, is.few)))

-- ---- rows

shape_of_a_row : IsShape (row_shape 5 2 3) × (¬ IsShape (row_shape 5 0 3)) × (¬ IsShape (row_shape 5 1000001 3)) × (¬ IsShape (row_shape 1099511627777 2 3)) × (¬ IsShape (row_shape 5 2 0)) × (¬ IsShape (row_shape 5 2 17))
shape_of_a_row = (
  record { some = omega arith; few = omega arith; small = omega arith; seats = omega arith; few_seats = omega arith },
  λ is. absurd (omega (arith, is.some)),
  λ is. absurd (omega (arith, is.small)),
  λ is. absurd (omega (arith, is.few)),
  λ is. absurd (omega (arith, is.seats)),
  λ is. absurd (omega (arith, is.few_seats)),
)

last_chunk_drawn : IsDrawnChunk (row_shape 5 2 3) (chunk 4 5)
last_chunk_drawn = record { place = 2; from = refl; below = omega arith; to = refl }

drawn_between_chunks : ¬ IsDrawnChunk (row_shape 5 2 3) (chunk 3 5)
drawn_between_chunks is = absurd (omega (arith, is.from))

drawn_past_the_count : ¬ IsDrawnChunk (row_shape 5 2 3) (chunk 6 5)
drawn_past_the_count is = absurd (omega (arith, is.below))

drawn_too_long : ¬ IsDrawnChunk (row_shape 5 2 3) (chunk 4 6)
drawn_too_long is = absurd (omega (arith, is.to))

module _ (id : TableId) where
  abbrev row : RowState
  row = record { id = id; shape = row_shape 5 2 1 }

  abbrev drained : ℕ → List Chunk → DrainedState
  drained seats chunks = record { row = row; seats = seats; drawn = chunks }

  next_chunk : DrawsNext (draw_state row (chunk 0 2 ∷ []) 2) (chunk 2 4) (draw_state row (chunk 0 2 ∷ chunk 2 4 ∷ []) 4)
  next_chunk = record { row = refl; drawn_chunk = record { place = 1; from = refl; below = omega arith; to = refl }; behind = omega arith; drawn = refl; reached = refl }

  chunk_drawn_before : ¬ DrawsNext (draw_state row (chunk 2 4 ∷ []) 4) (chunk 0 2) (draw_state row (chunk 2 4 ∷ chunk 0 2 ∷ []) 4)
  chunk_drawn_before is = absurd (omega (arith, is.behind))

  drawn_and_forgotten : ¬ DrawsNext (draw_state row [] 0) (chunk 0 2) (draw_state row [] 2)
  drawn_and_forgotten is = absurd (omega (arith, ap length is.drawn))

  reached_less : ¬ DrawsNext (draw_state row [] 0) (chunk 0 2) (draw_state row (chunk 0 2 ∷ []) 0)
  reached_less is = absurd (omega (arith, is.reached))

  chunk_or_end : (DrawsNext (draw_state row [] 0) (chunk 0 2) (draw_state row (chunk 0 2 ∷ []) 2) → DrawsFrom (draw_state row [] 0) (DrawnChunk (draw_state row (chunk 0 2 ∷ []) 2) (chunk 0 2)))
      × (Drains (draw_state row [] 0) (drained 1 []) → DrawsFrom (draw_state row [] 0) (Empty (drained 1 [])))
  chunk_or_end = (λ is. is, λ is. is)

  drained_with_an_index_left : ¬ Drains (draw_state row (chunk 0 4 ∷ []) 4) (drained 1 (chunk 0 4 ∷ []))
  drained_with_an_index_left is = absurd (omega (arith, is.whole refl 4))

  drained_and_forgotten : ¬ Drains (draw_state row (chunk 0 5 ∷ []) 5) (drained 1 [])
  drained_and_forgotten is = absurd (omega (arith, ap length is.drawn))

  two_for_one : ¬ Drains (draw_state row (chunk 0 5 ∷ []) 5) (drained 2 (chunk 0 5 ∷ []))
  two_for_one is = absurd (omega (arith, is.seats))

  part_of_the_seats : IsWholeWhenAll (drained 0 [])
  part_of_the_seats all = absurd (omega (arith, all))

  all_seats_with_an_index_left : ¬ IsWholeWhenAll (drained 1 (chunk 0 2 ∷ chunk 4 5 ∷ []))
  all_seats_with_an_index_left is = absurd (omega (arith, is refl 2))

  gathered_without_the_other : ¬ GathersBoth (drained 1 (chunk 0 2 ∷ [])) (drained 1 (chunk 2 4 ∷ [])) (drained 2 (chunk 0 2 ∷ []))
  gathered_without_the_other is = absurd (omega (arith, ap length is.drawn))

  gathered_as_one : ¬ GathersBoth (drained 1 (chunk 0 2 ∷ [])) (drained 1 (chunk 2 4 ∷ [])) (drained 1 (chunk 0 2 ∷ chunk 2 4 ∷ []))
  gathered_as_one is = absurd (omega (arith, is.seats))

why_a_row_is_refused : RefusesRow 0 ZeroGrain × (¬ RefusesRow 1 ZeroGrain) × (¬ RefusesRow 1 (TooMany 65537)) × RefusesRow 1 NoMemory × (¬ RefusesRow 0 NoMemory)
why_a_row_is_refused = (refl, λ is. absurd (omega (arith, is)), λ is. is, omega arith, λ is. absurd (omega (arith, is)))
