-- To what a complete run of a pipeline is gathered in which nothing was cut short: to the texts behind all pipes.
use Rattle.std.proofs.Common.{◌≡◌, ◌≢◌, ◌⊎◌, inl, inr, ℕ, zero, suc, ◌+◌, ◌<◌, ◌≤◌, Bool, true, false, List, [], length, Option, Some, None, sym, refl, ap, ◌∙◌, subst, arith}
use Rattle.std.specs.Prelude.{slice_get, if◌then◌else◌}
use Rattle.std.specs.Option.{option_and_then, option_map_or}
use Rattle.std.proofs.lemmas.Bool.{cases_eq, false≢true}
use Rattle.std.proofs.lemmas.Option.{slice_get_within}
use Rattle.journal_rules.specs.declared.entry.Entry.{Entry}
use Rattle.journal_rules.specs.Complete.{Complete}
use Rattle.journal_rules.specs.Counts.{start_at}
use Rattle.run_frame.specs.declared.run.FrameRun.{FrameRun}
use Rattle.run_frame.specs.declared.run.ValueRow.{ValueRow}
use Rattle.run_frame.specs.NestedRule.{journal_of}
use Rattle.run_frame.specs.Runs.{IsFine, value_at, values_of}
use Rattle.pipe_lines.specs.declared.order.Passed.TheVariants.{Token}
use Rattle.pipe_lines.specs.Orders.{passed_at, passed_or}
use Rattle.text_tasks.specs.declared.item.Item.{Item}
use Rattle.text_tasks.specs.declared.job.TextJob.{TextJob}
use Rattle.text_tasks.specs.Cells.{cell_task, pipeline_net}
use Rattle.text_tasks.specs.Items.{item_text}
use Rattle.text_tasks.specs.PipeEnds.{ends_token, pipe_text, text_at_place}
use Rattle.text_tasks.specs.PipeWork.{IsPipeWork, PipeWork, pipeline_of}
use Rattle.text_tasks.proofs.LastLemmas.{last_below, last_next}
use Rattle.run_laws.specs.OneThreadValue.{TaskEnd}
use Rattle.run_laws.proofs.Steps.{ends_in, starts_in}
use Rattle.run_laws.proofs.Whole.{all_ended}
use Rattle.pipe_laws.proofs.CellRuns.{IsCellRun}
use Rattle.pipe_laws.proofs.Passed.{TurnOf, turn_of}
use Rattle.pipe_laws.proofs.TextCells.{cell_answer}
use Rattle.pipe_laws.proofs.Through.{finished, starts_at_place}
use Rattle.pipe_values.specs.PipeValue.{text_behind, texts_behind}
use Rattle.pipe_values.proofs.Behind.{AllShort, behind_short, part_of, texts_are}
use Rattle.pipe_values.proofs.CellTexts.{EndsWith, cell_at, text_at}
use Rattle.pipe_values.proofs.EndTexts.{ends_there, last, last_is, text_ended}
use Rattle.pipe_values.proofs.Places.{EndStands, end_stands, not_past}
use Rattle.pipe_values.proofs.TextTurns.{ends_so}

-- the last number below another that passes a test, where one does
record LastThat (test : ℕ → Bool) (n : ℕ) : Type 0 where
  number : ℕ
  is : last_below test n ≡ Some number
  hit : test number ≡ true

last_that : (test : ℕ → Bool) (n m : ℕ) → m < n → test m ≡ true → LastThat test n
last_that test zero m below hit = absurd (omega (arith, below))
last_that test (suc n) m below hit = by_test (test n) refl (λ less. last_that test n m less hit)
  where
    next : suc n ≡ n + 1
    next = omega arith

    with_next : last_below test (suc n) ≡ (if test n then Some n else last_below test n)
    with_next = ap (last_below test) next ∙ last_next test n

    by_test : (b : Bool) → test n ≡ b → (m < n → LastThat test n) → LastThat test (suc n)
    by_test true here before = record { number = n; is = with_next ∙ ap (λ b. if b then Some n else last_below test n) here; hit = here }
    by_test false miss before =
        let earlier : LastThat test n = before (not_here miss) in
        record { number = earlier.number; is = with_next ∙ ap (λ b. if b then Some n else last_below test n) miss ∙ earlier.is; hit = earlier.hit }
      where
        not_here : test n ≡ false → m < n
        not_here none = by_place (cases_eq m n)
          where
            by_place : (m ≡ n) ⊎ (m ≢ n) → m < n
            by_place (inl same) = absurd (false≢true (sym none ∙ ap test (sym same) ∙ hit))
            by_place (inr other) = omega (arith, below, other)

module _ (work : PipeWork) (is : IsPipeWork work) (limit : ℕ) (run : FrameRun TextJob Item) (cells : IsCellRun (pipeline_of work) (cell_answer work) limit (values_of run) (journal_of run))
    (complete : Complete (pipeline_net (pipeline_of work)) limit (journal_of run)) (fine : IsFine (journal_of run)) where
  abbrev values : List (ValueRow Item)
  values = values_of run

  abbrev h : List Entry
  h = journal_of run

  abbrev pipes : ℕ
  pipes = length work.spec.serial

  abbrev cell : ℕ → ℕ → ℕ
  cell = cell_task (pipeline_of work)

  module _ (n token : ℕ) (at_n : slice_get work.order.passed n ≡ Some token) where
    met : passed_at work.order n ≡ Token token
    met = ap (λ o. passed_or o work.order.unmet) at_n

    turn : TurnOf work.spec.lines n
    turn = turn_of work.spec.lines n is.pipeline.some_lines

    -- each pipe ended with it
    record EndedAt (p : ℕ) : Type 0 where
      end : TaskEnd Item
      at : slice_get (ends_in values (start_at h) (cell turn.line p) h) turn.round ≡ Some end
      with : EndsWith (cell_at work n token p) end

    ended_at_pipe : (p : ℕ) → p < pipes → EndedAt p
    ended_at_pipe p in_p = by_end (slice_get (ends_in values (start_at h) (cell turn.line p) h) turn.round) refl
      where
        started : turn.round + 1 ≤ length (starts_in values (cell turn.line p) h)
        started =
            starts_at_place (pipeline_of work) (cell_answer work) limit values h cells complete fine turn.line p turn.round turn.below in_p
            (omega (arith, turn.is, slice_get_within work.order.passed n token at_n))

        ended : turn.round < length (ends_in values (start_at h) (cell turn.line p) h)
        ended = omega (arith, started, all_ended (pipeline_net (pipeline_of work)) limit (cell_answer work) values h cells.given (finished (pipeline_of work) (cell_answer work) limit values h cells complete fine) (cell turn.line p))

        by_end : (o : Option (TaskEnd Item)) → slice_get (ends_in values (start_at h) (cell turn.line p) h) turn.round ≡ o → EndedAt p
        by_end None none = absurd (not_past (ends_in values (start_at h) (cell turn.line p) h) turn.round none ended)
        by_end (Some end) at = record {
          end = end;
          at = at;
          with = subst (λ m. EndsWith (cell_at work m token p) end) turn.is (ends_so work is limit values h cells p in_p turn.line turn.round token end turn.below at (ap (passed_at work.order) turn.is ∙ met));
        }

    -- so no text on its way is too long
    all_short : AllShort work.ops token n (part_of work token)
    all_short p below = (ended_at_pipe p (omega (arith, below, is.op_count))).with.short

    behind_is : text_behind work.ops token n (part_of work token) ≡ Some (text_at work n token pipes)
    behind_is = behind_short token n work.ops (part_of work token) all_short ∙ ap (λ m. Some (text_at work n token m)) is.op_count

    -- and that behind the last pipe is the one that is gathered
    text_there : text_at_place pipes run n ≡ text_at work n token pipes
    text_there = ap (λ o. option_map_or item_text (option_and_then (value_at values) o) []) the_last.is ∙ text_ended work is limit values h cells n token the_last.number met the_last.hit
      where
        ends : EndedAt (last work is limit values h cells)
        ends = ended_at_pipe (last work is limit values h cells) (omega (arith, last_is work is limit values h cells))

        stands : (y : ℕ) × ((y < length h) × EndStands values h (cell turn.line (last work is limit values h cells)) y ends.end.value)
        stands = end_stands values h (cell turn.line (last work is limit values h cells)) turn.round ends.end ends.at

        the_last : LastThat (ends_token pipes h values n) (length h)
        the_last = last_that (ends_token pipes h values n) (length h) stands.0 stands.1.0 (ends_there work is limit values h cells turn.line turn.round stands.0 n token ends.end turn.below stands.1.1 ends.with)

  pub gathered_texts : texts_behind work 0 work.order.passed ≡ Some (pipe_text work run)
  gathered_texts = texts_are work (text_at_place pipes run) 0 work.order.passed each
    where
      each : (i k : ℕ) → slice_get work.order.passed i ≡ Some k → text_behind work.ops k (0 + i) (part_of work k) ≡ Some (text_at_place pipes run (0 + i))
      each i k at = let plain : i ≡ 0 + i = omega arith in subst (λ n. text_behind work.ops k n (part_of work k) ≡ Some (text_at_place pipes run n)) plain (behind_is i k at ∙ ap Some (sym (text_there i k at)))
