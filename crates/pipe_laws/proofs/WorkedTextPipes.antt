-- What it is that pipelines inside a run keep their order, on two lines with a serial and a parallel pipe: token 1
-- passes before token 0.
use Rattle.std.proofs.Common.{◌≡◌, ℕ, true, false, List, [], ◌∷◌, Option, Some, None, refl, sym, ap, subst, ◌∙◌, arith, codes}
use Rattle.std.specs.Fmt.{digits}
use Rattle.std.specs.Option.{option_and_then}
use Rattle.std.proofs.lemmas.Option.{none-some}
use Rattle.journal_rules.specs.declared.entry.Cause.TheVariants.{Strong}
use Rattle.journal_rules.specs.declared.entry.Entry.{Entry}
use Rattle.journal_rules.specs.declared.entry.Entry.TheVariants.{Start}
use Rattle.journal_rules.specs.declared.entry.Part.TheVariants.{First}
use Rattle.run_frame.specs.declared.run.FrameRun.{FrameRun}
use Rattle.run_frame.specs.Legal.{inner_at}
use Rattle.run_frame.specs.NestedRule.{job_of, journal_of}
use Rattle.run_frame.specs.Runs.{IsFine, values_of}
use Rattle.graph_plans.specs.declared.pipes.LineOp.TheVariants.{Number, Stamp}
use Rattle.graph_plans.specs.declared.pipes.PipePlan.{PipePlan}
use Rattle.run_frame.specs.declared.job.Answer.TheVariants.{All as Each}
use Rattle.pipe_lines.specs.declared.order.Order.{Order}
use Rattle.pipe_lines.specs.declared.order.Passed.{Passed}
use Rattle.pipe_lines.specs.declared.order.Passed.TheVariants.{Token, Stop, Unmet}
use Rattle.text_tasks.specs.declared.item.Item.{Item}
use Rattle.text_tasks.specs.declared.job.TextJob.{TextJob}
use Rattle.text_tasks.specs.declared.job.TextJob.TheVariants.{Graph, Parts, Pipe}
use Rattle.text_tasks.specs.GraphWork.{GraphWork}
use Rattle.text_tasks.specs.PartsWork.{PartsWork}
use Rattle.text_tasks.specs.PipeWork.{PipeWork, pipe_work, pipeline_of}
use Rattle.text_tasks.specs.CellMeaning.{enters}
use Rattle.text_tasks.specs.OpMeaning.{moves_on, pipe_meaning, runs}
use Rattle.pipe_laws.specs.TextPipes.{KeepsOrder, PipesInOrder, StartsInOrder, run_at}
use Rattle.pipe_laws.specs.Turns.{IsInOrder, TakesTurns}
use Rattle.pipe_laws.proofs.WorkedCells.{one_before, two_left}

abbrev working : Order → PipeWork
working order = record { spec = record { lines = 2; serial = true ∷ false ∷ [] }; ops = Number ∷ Number ∷ []; parts = [] ∷ [] ∷ []; order = order }

-- the same with both pipes serial
abbrev both_serial : PipeWork
both_serial = record (working one_before) { spec = record { lines = 2; serial = true ∷ true ∷ [] } }

-- ---- cells and jobs

abbrev lettered : PipeWork
lettered = record (working one_before) { parts = codes "a\n" ∷ codes "b\n" ∷ codes "c\n" ∷ [] }

numbered_at_the_first_pipe : enters lettered Number 1 (Token 2) ≡ moves_on (record { text = codes "2 c\n"; token = 2; place = 1 }) Each
unfolding digits
numbered_at_the_first_pipe = refl

stamped_at_the_first_pipe : enters lettered Stamp 1 (Token 2) ≡ moves_on (record { text = codes "1 c\n"; token = 2; place = 1 }) Each
unfolding digits
stamped_at_the_first_pipe = refl

-- parts of two lines, the second of one
abbrev by_two : PipePlan
by_two = record { spec = record { lines = 3; serial = true ∷ [] }; ops = Stamp ∷ []; chunk = 2; defers = [] }

work_of_two_parts : pipe_work by_two (codes "a\nb\nc\n")
    ≡ record { spec = record { lines = 3; serial = true ∷ [] }; ops = Stamp ∷ []; parts = codes "a\nb\n" ∷ codes "c\n" ∷ []; order = record { passed = 0 ∷ 1 ∷ []; unmet = None } }
work_of_two_parts = refl

two_parts_are_run : pipe_meaning by_two (codes "a\nb\nc\n") ≡ runs (Pipe (pipe_work by_two (codes "a\nb\nc\n")))
two_parts_are_run = refl

abbrev TextRun : Type 0
TextRun = FrameRun TextJob Item

module _ (run inner deeper : TextRun) where
  -- ---- paths

  run_itself : run_at run [] ≡ Some run
  run_itself = refl

  run_inside : inner_at run 3 ≡ Some inner → run_at run (3 ∷ []) ≡ Some inner
  run_inside is = ap (option_and_then (λ (r : TextRun). run_at r [])) is

  run_further_inside : inner_at run 3 ≡ Some inner → inner_at inner 1 ≡ Some deeper → run_at run (3 ∷ 1 ∷ []) ≡ Some deeper
  run_further_inside is also = ap (option_and_then (λ (r : TextRun). run_at r (1 ∷ []))) is ∙ ap (option_and_then (λ (r : TextRun). run_at r [])) also

  no_run_there : inner_at run 3 ≡ None → run_at run (3 ∷ 1 ∷ []) ≡ None
  no_run_there is = ap (option_and_then (λ (r : TextRun). run_at r (1 ∷ []))) is

  -- ---- runs in order

  pipelines_alone : (graph : GraphWork) (parts : PartsWork) → KeepsOrder (Graph graph) run × KeepsOrder (Parts parts) run × (KeepsOrder (Pipe (working one_before)) run ≡ StartsInOrder (working one_before) run)
  pipelines_alone graph parts = (tt, tt, refl)

  abbrev first_cell : Entry
  first_cell = Start 0 Strong (First ∷ First ∷ [])

  abbrev passed_token : Passed → ℕ
  passed_token (Token k) = k
  passed_token Stop = 9
  passed_token (Unmet k) = 8

  -- the first token comes twice
  first_twice : journal_of run ≡ first_cell ∷ first_cell ∷ [] → ¬ StartsInOrder (working one_before) run
  first_twice journal is =
      let in_order : IsInOrder (pipeline_of (working one_before)) (values_of run) 0 (first_cell ∷ first_cell ∷ []) =
      subst (IsInOrder (pipeline_of (working one_before)) (values_of run) 0) journal (is.serial 0 refl) in
      absurd (omega (arith, ap passed_token (in_order.each.1.0 refl)))

  -- the second pipe begins with token 0
  second_pipe_first : journal_of run ≡ Start 1 Strong (First ∷ First ∷ []) ∷ [] → ¬ StartsInOrder both_serial run
  second_pipe_first journal is =
      let in_order : IsInOrder (pipeline_of both_serial) (values_of run) 1 (Start 1 Strong (First ∷ First ∷ []) ∷ []) =
      subst (IsInOrder (pipeline_of both_serial) (values_of run) 1) journal (is.serial 1 refl) in
      absurd (omega (arith, ap passed_token (in_order.each.0 refl)))

  -- the first line takes its second turn before the end is there
  first_line_again : journal_of run ≡ first_cell ∷ first_cell ∷ [] → ¬ StartsInOrder (working one_before) run
  first_line_again journal is =
      let turns : TakesTurns (pipeline_of (working one_before)) (values_of run) 0 0 (first_cell ∷ first_cell ∷ []) =
      subst (TakesTurns (pipeline_of (working one_before)) (values_of run) 0 0) journal (is.turns 0 0 (omega arith) (omega arith)) in
      absurd (omega (arith, ap passed_token (turns.1.0 refl)))

  -- where a token is left something was cut short
  token_left : StartsInOrder (working two_left) run → ¬ IsFine (journal_of run)
  token_left is fine = none-some 2 (sym (is.all fine).none_left)

  of_a_pipeline : PipesInOrder run → job_of run ≡ Pipe (working one_before) → StartsInOrder (working one_before) run
  of_a_pipeline are is = subst (λ job. KeepsOrder job run) is (are [] run refl)

  of_a_pipeline_inside : PipesInOrder run → inner_at run 3 ≡ Some inner → job_of inner ≡ Pipe (working one_before) → StartsInOrder (working one_before) inner
  of_a_pipeline_inside are at is = subst (λ job. KeepsOrder job inner) is (are (3 ∷ []) inner (run_inside at))
