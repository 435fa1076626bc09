-- A complete run of a pipeline is fine where no token is left and no text on the way is too long.
use Rattle.std.proofs.Common.{◌≡◌, ◌≢◌, ◌⊎◌, inl, inr, ℕ, zero, suc, ◌+◌, ◌*◌, ◌<◌, ◌≤◌, Bool, true, false, ◌&&◌, List, [], ◌∷◌, ◌++◌, length, replicate, Option, Some, None, sym, refl, ap, ◌∙◌, subst, arith}
use Rattle.std.specs.Prelude.{count_by, slice_get, IsSomeAnd, ◌==◌}
use Rattle.std.specs.List.{list_any}
use Rattle.std.specs.Option.{option_and_then, option_map_or}
use Rattle.std.proofs.lemmas.Bool.{cases_eq}
use Rattle.std.proofs.lemmas.List.{length-replicate}
use Rattle.task_graph.specs.NetRows.{NetRows}
use Rattle.task_graph.specs.declared.net.TaskRow.{TaskRow}
use Rattle.journal_rules.specs.declared.entry.Cause.{Cause}
use Rattle.journal_rules.specs.declared.entry.Cause.TheVariants.{Strong}
use Rattle.journal_rules.specs.declared.entry.DropWhy.{DropWhy}
use Rattle.journal_rules.specs.declared.entry.Part.{Part}
use Rattle.journal_rules.specs.declared.entry.Entry.{Entry}
use Rattle.journal_rules.specs.declared.entry.Entry.TheVariants.{Start, End, Fault, Drop}
use Rattle.journal_rules.specs.Complete.{Complete, is_limited, is_limit_why}
use Rattle.journal_rules.specs.Counts.{is_start, is_strong, started, starts, used, uses}
use Rattle.journal_rules.specs.Entries.{EachAfter, EachAfterThese}
use Rattle.journal_rules.specs.ShapeLegal.{MayFollow, ShapeLegal}
use Rattle.journal_rules.proofs.Snoc.{count_by_push}
use Rattle.journal_rules.proofs.Tallying.{count_by_push_no}
use Rattle.join_words.specs.Ins.{InputValue}
use Rattle.run_frame.specs.declared.job.Answer.TheVariants.{All as Each, None as NoneOf}
use Rattle.run_frame.specs.declared.run.ValueRow.{ValueRow}
use Rattle.run_frame.specs.Runs.{IsFine, found_ins}
use Rattle.run_frame.specs.WorkRule.{Work, work_of}
use Rattle.pipe_lines.specs.declared.order.Passed.TheVariants.{Token, Stop}
use Rattle.pipe_lines.specs.Orders.{end_of, passed_at, passed_or}
use Rattle.pipe_lines.specs.PipeNet.{cell_row}
use Rattle.text_ops.specs.Values.{value_limit}
use Rattle.text_tasks.specs.declared.item.Item.{Item}
use Rattle.text_tasks.specs.Cells.{cell_task, line_input, pipeline_net}
use Rattle.text_tasks.specs.PipeWork.{IsPipeWork, PipeWork, pipeline_of}
use Rattle.run_laws.specs.Rings.{IsRinged}
use Rattle.run_laws.proofs.Along.{along, both, each_front}
use Rattle.run_laws.proofs.Faults.{IsOneFault, is_own_fault, own_why}
use Rattle.run_laws.proofs.Limits.{NoUnitTrouble}
use Rattle.run_laws.proofs.Lists.{get_append}
use Rattle.run_laws.proofs.Pipes.{pipes_ringed}
use Rattle.run_laws.proofs.Rings.{released_strongly}
use Rattle.run_laws.proofs.Steps.{starts_in}
use Rattle.run_laws.proofs.Tasks.{in_tasks, start_in}
use Rattle.run_laws.proofs.Units.{no_unit_trouble}
use Rattle.pipe_laws.proofs.CellRuns.{IsCellRun, all_starts}
use Rattle.pipe_laws.proofs.CellTurns.{place_at}
use Rattle.pipe_laws.proofs.Counted.{all_places, one_if, places_of, total, total-add, total-less, total-one, total-rows, total-same, uses_few}
use Rattle.pipe_laws.proofs.TextCells.{cell_answer}
use Rattle.pipe_laws.proofs.Through.{some_pipes}
use Rattle.pipe_values.proofs.Behind.{AllShort, part_of}
use Rattle.pipe_values.proofs.CellTexts.{cell_at, first_is, later_is, moves}
use Rattle.pipe_values.proofs.EndTexts.{CellOf, cell_of}
use Rattle.pipe_values.proofs.Places.{start_among}
use Rattle.pipe_values.proofs.TextTurns.{FoundAlong, found_along, same_token}

-- ---- units

-- each task of such a net puts just what it takes, which is nothing
returns_none : (n s t : ℕ) → option_map_or (λ (row : TaskRow). list_any (λ x. x == s) row.takes) (slice_get (replicate n cell_row) t) false ≡ option_map_or (λ (row : TaskRow). list_any (λ x. x == s) row.puts) (slice_get (replicate n cell_row) t) false
returns_none zero s t = refl
returns_none (suc n) s zero = refl
returns_none (suc n) s (suc t) = returns_none n s t

-- ---- starts and drops at the limit

module _ (net : NetRows) (limit : ℕ) (ringed : IsRinged net) where
  -- each is a use of its task
  abbrev AreUses : List Entry → Type 0
  AreUses b = starts b + count_by is_limited b ≤ total (length net.tasks) (λ t. used t b)

  uses_step : (b : List Entry) (x : Entry) → MayFollow net limit b x → AreUses b → AreUses (b ++ x ∷ [])
  uses_step b x may before = omega (arith, count_by_push is_start b x, count_by_push is_limited b x, each, before, one_more x may)
    where
      each : total (length net.tasks) (λ t. used t (b ++ x ∷ [])) ≡ total (length net.tasks) (λ t. used t b) + total (length net.tasks) (λ t. one_if (uses is_strong t x))
      each =
          total-same (length net.tasks) (λ t. used t (b ++ x ∷ [])) (λ t. used t b + one_if (uses is_strong t x)) (λ t below. count_by_push (uses is_strong t) b x)
          ∙ total-add (length net.tasks) (λ t. used t b) (λ t. one_if (uses is_strong t x))

      strongly : (task : ℕ) (cause : Cause) → cause ≡ Strong → task < length net.tasks → 1 ≡ total (length net.tasks) (λ t. one_if ((task == t) && is_strong cause))
      strongly task cause strong below = sym (total-same (length net.tasks) (λ t. one_if ((task == t) && is_strong cause)) (λ t. one_if (task == t)) (λ t in_net. ap (λ c. one_if ((task == t) && is_strong c)) strong ∙ and_one (task == t)) ∙ total-one (length net.tasks) task below)
        where
          and_one : (b : Bool) → one_if (b && true) ≡ one_if b
          and_one true = refl
          and_one false = refl

      limited_once : (why : DropWhy) → one_if (is_limit_why why) ≤ 1
      limited_once why = by_test (is_limit_why why)
        where
          by_test : (b : Bool) → one_if b ≤ 1
          by_test true = omega arith
          by_test false = omega arith

      one_more : (y : Entry) → MayFollow net limit b y → one_if (is_start y) + one_if (is_limited y) ≤ total (length net.tasks) (λ t. one_if (uses is_strong t y))
      one_more (Start task cause ins) m = omega (arith, strongly task cause (released_strongly net b task cause ringed m.in_range.0 m.release) m.in_range.0)
      one_more (Drop task cause why) m = omega (arith, limited_once why, strongly task cause (released_strongly net b task cause ringed m.in_range.0 m.release) m.in_range.0)
      one_more (End start gives inner) m = omega arith
      one_more (Fault start why) m = omega arith

  are_uses : (h : List Entry) → ShapeLegal net limit h → AreUses h
  are_uses h shape = (along (MayFollow net limit) AreUses uses_step [] h (omega arith) shape).1

module _ (work : PipeWork) (is : IsPipeWork work) (limit : ℕ) (values : List (ValueRow Item)) (h : List Entry) (run : IsCellRun (pipeline_of work) (cell_answer work) limit values h) where
  abbrev net : NetRows
  net = pipeline_net (pipeline_of work)

  abbrev lines : ℕ
  lines = work.spec.lines

  abbrev pipes : ℕ
  pipes = length work.spec.serial

  abbrev cell : ℕ → ℕ → ℕ
  cell = cell_task (pipeline_of work)

  abbrev place : ℕ → ℕ → ℕ
  place l k = place_at (pipeline_of work) l k

  -- there are no more than there are places for all cells
  pub few_uses : starts h + count_by is_limited h ≤ length work.order.passed * pipes + 1
  few_uses =
      omega (
        arith,
        are_uses net limit (pipes_ringed lines work.spec.serial) h run.given.shape,
        ap (λ n. total n (λ t. used t h)) (length-replicate (lines * pipes) cell_row) ∙ total-rows lines pipes (λ t. used t h),
        total-less lines (λ l. total pipes (λ p. used (cell l p) h)) (λ l. total pipes (places_of (pipeline_of work) (cell_answer work) limit values h run l))
            (λ l in_l. total-less pipes (λ p. used (cell l p) h) (places_of (pipeline_of work) (cell_answer work) limit values h run l) (λ p in_p. uses_few (pipeline_of work) (cell_answer work) limit values h run l p in_l in_p)),
        all_places (pipeline_of work) (cell_answer work) limit values h run,
      )

  -- ---- no cell faults

  module _ (none_left : work.order.unmet ≡ None) (shorts : (n token : ℕ) → slice_get work.order.passed n ≡ Some token → AllShort work.ops token n (part_of work token)) where
    -- a token that passes at a place is the one that the order has there
    passed_is : (n token : ℕ) → passed_at work.order n ≡ Token token → slice_get work.order.passed n ≡ Some token
    passed_is n token has = by_place (slice_get work.order.passed n) (sym (ap (passed_or (slice_get work.order.passed n)) none_left) ∙ has)
      where
        by_place : (o : Option ℕ) → passed_or o None ≡ Token token → o ≡ Some token
        by_place None at = absurd (cc)
        by_place (Some k) at = ap Some (same_token k token at)

    short_at : (n token p : ℕ) → slice_get work.order.passed n ≡ Some token → p < pipes → length (cell_at work n token p).text ≤ value_limit
    short_at n token p at in_p = shorts n token at p (omega (arith, in_p, is.op_count))

    -- each start of a cell has an answer
    answers : (l p k : ℕ) (found : List (InputValue Item)) → l < lines → p < pipes → slice_get (starts_in values (cell l p) h) k ≡ Some found → cell_answer work (cell l p) found ≡ None → ⊥
    answers l zero k found in_l in_p at_k none = by_place (slice_get work.order.passed (place l k)) refl
      where
        by_place : (o : Option ℕ) → slice_get work.order.passed (place l k) ≡ o → ⊥
        by_place (Some token) at =
            moves net (cell l 0) (cell_at work (place l k) token 0) Each (short_at (place l k) token 0 at in_p)
            (
            sym (first_is work is l 0 in_p found refl (place l k) (Token token) ((all_starts (pipeline_of work) (cell_answer work) limit values h run).starts l 0 k found in_l in_p at_k) (ap (λ o. passed_or o work.order.unmet) at))
            ∙ none
            )
        by_place None at =
            moves net (cell l 0) (record { text = []; token = 0; place = place l k }) NoneOf (omega arith)
            (
            sym (first_is work is l 0 in_p found refl (place l k) Stop ((all_starts (pipeline_of work) (cell_answer work) limit values h run).starts l 0 k found in_l in_p at_k) (ap (λ o. passed_or o work.order.unmet) at ∙ ap end_of none_left))
            ∙ none
            )
    answers l (suc p) k found in_l in_p at_k none =
        moves net (cell l (suc p)) (cell_at work (place l k) along.token (suc p)) Each (short_at (place l k) along.token (suc p) (passed_is (place l k) along.token along.has) in_p)
        (sym (later_is work is l (suc p) in_p found p refl (place l k) along.token along.is_cell) ∙ none)
      where
        along : FoundAlong work is limit values h run l p k (line_input (pipeline_of work) (cell l (suc p)) found)
        along = found_along work is limit values h run l p k found in_l in_p at_k

    -- a front of the journal
    abbrev Front : List Entry → Type 0
    Front b = (n : ℕ) (x : Entry) → slice_get b n ≡ Some x → slice_get h n ≡ Some x

    fronts : EachAfterThese (λ b x. Front (b ++ x ∷ [])) [] h
    fronts = each_front Front (λ b x front n y at. front n y (get_append b (x ∷ []) n y at)) [] h (λ n y at. at)

    -- a Start that stands there has an answer
    start_answers : (n task : ℕ) (cause : Cause) (ins : List Part) → slice_get h n ≡ Some (Start task cause ins) → cell_answer work task (found_ins values ins) ≡ None → ⊥
    start_answers n task cause ins at none = answers of.line of.pipe among.0 (found_ins values ins) of.in_lines of.in_pipes among.1 (ap (λ t. cell_answer work t (found_ins values ins)) (sym of.is) ∙ none)
      where
        of : CellOf lines pipes task
        of = cell_of lines pipes task (some_pipes (pipeline_of work) is.pipeline.first_serial) (omega (arith, start_in net h n task (in_tasks net limit h run.given.shape) (ap (option_and_then started) at), length-replicate (lines * pipes) cell_row))

        among : (k : ℕ) × (slice_get (starts_in values (cell of.line of.pipe) h) k ≡ Some (found_ins values ins))
        among = start_among values h (cell of.line of.pipe) n cause ins (subst (λ t. slice_get h n ≡ Some (Start t cause ins)) of.is at)

    abbrev Rule : List Entry → Entry → Type 0
    Rule b x = Front (b ++ x ∷ []) × IsOneFault (cell_answer work) values b x

    no_fault_step : (b : List Entry) (x : Entry) → Rule b x → count_by is_own_fault b ≡ 0 → count_by is_own_fault (b ++ x ∷ []) ≡ 0
    no_fault_step b (Start task cause ins) rule before = count_by_push_no is_own_fault b (Start task cause ins) refl ∙ before
    no_fault_step b (End start gives inner) rule before = count_by_push_no is_own_fault b (End start gives inner) refl ∙ before
    no_fault_step b (Drop task cause why) rule before = count_by_push_no is_own_fault b (Drop task cause why) refl ∙ before
    no_fault_step b (Fault start why) rule before = by_why (own_why why) refl
      where
        by_entry : (o : Option Entry) → slice_get b start ≡ o → IsSomeAnd (elim o as (λ _. Option (Work Item)) [ None ↦ None | Some entry ↦ work_of values entry ]) (λ (work_done : Work Item). cell_answer work work_done.task work_done.found ≡ None) → ⊥
        by_entry None at none = none
        by_entry (Some (Start task cause ins)) at none = start_answers start task cause ins (rule.0 start (Start task cause ins) (get_append b (Fault start why ∷ []) start (Start task cause ins) at)) none
        by_entry (Some (End at_start gives inner)) at none = none
        by_entry (Some (Fault at_start whence)) at none = none
        by_entry (Some (Drop task cause whence)) at none = none

        by_why : (own : Bool) → own_why why ≡ own → count_by is_own_fault (b ++ Fault start why ∷ []) ≡ 0
        by_why false other = count_by_push_no is_own_fault b (Fault start why) other ∙ before
        by_why true own = absurd (by_entry (slice_get b start) refl (rule.1 own))

    -- ---- so nothing is cut short

    pub uncut : EachAfter (IsOneFault (cell_answer work) values) h → Complete net limit h → length work.order.passed * pipes + 1 ≤ limit → IsFine h
    uncut one_faults complete enough = record {
      no_fault = omega (arith, units.own, none_own);
      none_limited = by_limited (cases_eq (count_by is_limited h) 0);
      none_stuck = units.none_stuck;
    }
      where
        units : NoUnitTrouble h
        units = no_unit_trouble net limit h (record { same = λ s t. returns_none (lines * pipes) s t; units = λ s below. absurd (omega (arith, below)) }) run.given.steady run.given.shape

        none_own : count_by is_own_fault h ≡ 0
        none_own = (along Rule (λ b. count_by is_own_fault b ≡ 0) no_fault_step [] h refl (both _ _ [] h fronts one_faults)).1

        by_limited : (count_by is_limited h ≡ 0) ⊎ (count_by is_limited h ≢ 0) → count_by is_limited h ≡ 0
        by_limited (inl none) = none
        by_limited (inr some) = absurd (omega (arith, complete.limited some, few_uses, enough, some))
