-- The text of each End of the last pipe, by the place that its value has in the order.
use Rattle.std.proofs.Common.{◌≡◌, ◌⊎◌, inl, inr, ℕ, zero, suc, ◌+◌, ◌*◌, ◌-◌, ◌%◌, ◌<◌, ◌≤◌, Bool, true, false, cond, eqb, List, [], length, Option, Some, None, sym, refl, ap, ◌∙◌, subst, arith}
use Rattle.std.specs.Prelude.{slice_get, ◌==◌}
use Rattle.std.specs.Option.{option_and_then, option_map_or}
use Rattle.std.proofs.lemmas.Bool.{cases_lt, false≢true}
use Rattle.std.proofs.lemmas.Bool.Decides.{nat_tests}
use Rattle.std.proofs.lemmas.List.{length-replicate}
use Rattle.std.proofs.lemmas.Nat.{mod-mul-add}
use Rattle.std.proofs.lemmas.Option.{none-some}
use Rattle.journal_rules.specs.declared.entry.Entry.{Entry}
use Rattle.journal_rules.specs.declared.entry.Entry.TheVariants.{Start, End, Fault, Drop}
use Rattle.journal_rules.specs.Counts.{start_at}
use Rattle.run_frame.specs.declared.run.ValueRow.{ValueRow}
use Rattle.run_frame.specs.LastEnds.{ended_at, ended_task}
use Rattle.run_frame.specs.Runs.{value_at}
use Rattle.pipe_lines.specs.declared.order.Passed.TheVariants.{Token}
use Rattle.pipe_lines.specs.Orders.{passed_at}
use Rattle.pipe_lines.specs.PipeNet.{cell_row}
use Rattle.text_tasks.specs.declared.item.Item.{Item}
use Rattle.text_tasks.specs.Cells.{cell_task, line_input, pipeline_net}
use Rattle.text_tasks.specs.Items.{item_place, item_text}
use Rattle.text_tasks.specs.PipeEnds.{ends_token, in_last_pipe}
use Rattle.text_tasks.specs.PipeWork.{IsPipeWork, PipeWork, pipeline_of}
use Rattle.run_laws.specs.OneThreadValue.{TaskEnd}
use Rattle.run_laws.proofs.Steps.{ends_in}
use Rattle.run_laws.proofs.Tasks.{in_tasks, start_in}
use Rattle.pipe_laws.proofs.CellRuns.{IsCellRun, all_ends}
use Rattle.pipe_laws.proofs.CellTurns.{place_at, places_rise}
use Rattle.pipe_laws.proofs.Passed.{TurnOf, turn_of}
use Rattle.pipe_laws.proofs.TextCells.{cell_answer}
use Rattle.pipe_laws.proofs.Through.{some_pipes}
use Rattle.pipe_values.proofs.CellTexts.{EndsWith, cell_at, text_at}
use Rattle.pipe_values.proofs.Places.{EndStands, end_among}
use Rattle.pipe_values.proofs.TextTurns.{FoundAlong, StartOf, ends_so, found_along, start_of_end}

same_number : (k : ℕ) → eqb k k ≡ true
same_number k = grind (arith, nat_tests)

-- a task of the net is the cell of a line and a pipe
pub record CellOf (lines pipes t : ℕ) : Type 0 where
  pub line : ℕ
  pub pipe : ℕ
  pub in_lines : line < lines
  pub in_pipes : pipe < pipes
  pub is : t ≡ line * pipes + pipe

pub cell_of : (lines pipes t : ℕ) → 1 ≤ pipes → t < lines * pipes → CellOf lines pipes t
cell_of lines pipes t some below = record { line = turn.round; pipe = turn.line; in_lines = by_less (cases_lt turn.round lines); in_pipes = turn.below; is = sym turn.is }
  where
    turn : TurnOf pipes t
    turn = turn_of pipes t some

    by_less : (turn.round < lines) ⊎ (lines ≤ turn.round) → turn.round < lines
    by_less (inl less) = less
    by_less (inr past) = absurd (omega (arith, places_rise lines turn.round pipes turn.line past, turn.is, below))

module _ (work : PipeWork) (is : IsPipeWork work) (limit : ℕ) (values : List (ValueRow Item)) (h : List Entry) (run : IsCellRun (pipeline_of work) (cell_answer work) limit values h) where
  abbrev lines : ℕ
  lines = work.spec.lines

  abbrev pipes : ℕ
  pipes = length work.spec.serial

  abbrev cell : ℕ → ℕ → ℕ
  cell = cell_task (pipeline_of work)

  abbrev place : ℕ → ℕ → ℕ
  place l k = place_at (pipeline_of work) l k

  abbrev cell_ends : ℕ → ℕ → List (TaskEnd Item)
  cell_ends l p = ends_in values (start_at h) (cell l p) h

  -- ---- by the place of its value

  with_place : (l p k n token : ℕ) (end : TaskEnd Item) → p < pipes → l < lines → slice_get (cell_ends l p) k ≡ Some end → passed_at work.order (place l k) ≡ Token token → item_place end.value ≡ n → place l k ≡ n → EndsWith (cell_at work n token p) end
  with_place l p k n token end in_p in_l at has place_is n_is = subst (λ m. EndsWith (cell_at work m token p) end) n_is (ends_so work is limit values h run p in_p l k token end in_l at has)

  pub end_text : (l p k n token : ℕ) (end : TaskEnd Item) → l < lines → p < pipes → slice_get (cell_ends l p) k ≡ Some end → item_place end.value ≡ n → passed_at work.order n ≡ Token token → EndsWith (cell_at work n token p) end
  end_text l zero k n token end in_l in_p at place_is has = with_place l 0 k n token end in_p in_l at (ap (passed_at work.order) n_is ∙ has) place_is n_is
    where
      n_is : place l k ≡ n
      n_is = sym (((all_ends (pipeline_of work) (cell_answer work) limit values h run).ends l 0 k end in_l in_p at).place refl) ∙ place_is
  end_text l (suc p) k n token end in_l in_p at place_is has = with_place l (suc p) k n token end in_p in_l at (ap (passed_at work.order) n_is ∙ has) place_is n_is
    where
      start : StartOf work is limit values h run l (suc p) k end
      start = start_of_end work is limit values h run l (suc p) k end at

      along : FoundAlong work is limit values h run l p k (line_input (pipeline_of work) (cell l (suc p)) start.found)
      along = found_along work is limit values h run l p k start.found in_l in_p start.at

      n_is : place l k ≡ n
      n_is = sym (ap item_place (ends_so work is limit values h run (suc p) in_p l k along.token end in_l at along.has).value) ∙ place_is

  -- ---- by its place in the journal

  some : 1 ≤ pipes
  some = some_pipes (pipeline_of work) is.pipeline.first_serial

  abbrev pub last : ℕ
  last = pipes - 1

  pub last_is : suc last ≡ pipes
  last_is = omega (arith, some)

  ended_in : (y t : ℕ) → ended_at h y ≡ Some t → t < lines * pipes
  ended_in y t is_t = by_entry (slice_get h y) is_t
    where
      by_entry : (o : Option Entry) → option_and_then (ended_task h) o ≡ Some t → t < lines * pipes
      by_entry None none = absurd (none-some _ none)
      by_entry (Some (Start task cause ins)) none = absurd (none-some _ none)
      by_entry (Some (Fault start why)) none = absurd (none-some _ none)
      by_entry (Some (Drop task cause why)) none = absurd (none-some _ none)
      by_entry (Some (End start gives inner)) at = omega (arith, start_in (pipeline_net (pipeline_of work)) h start t (in_tasks (pipeline_net (pipeline_of work)) limit h run.given.shape) at, length-replicate (lines * pipes) cell_row)

  -- an End of the last pipe whose value has this place
  pub text_ended : (n token y : ℕ) → passed_at work.order n ≡ Token token → ends_token pipes h values n y ≡ true → option_map_or item_text (value_at values y) [] ≡ text_at work n token pipes
  text_ended n token y has ends = by_task (ended_at h y) refl ends
    where
      by_value : (t : ℕ) → ended_at h y ≡ Some t → in_last_pipe pipes t ≡ true → (o : Option Item) → value_at values y ≡ o → option_map_or (λ item. item_place item == n) o false ≡ true → option_map_or item_text o [] ≡ text_at work n token pipes
      by_value t is_t in_last None none miss = absurd (false≢true miss)
      by_value t is_t in_last (Some v) is_v hit =
          ap item_text (sym among.1.1) ∙ ap item_text (end_text of.line last among.0 n token among.1.0 of.in_lines (omega (arith, last_is)) at (ap item_place among.1.1 ∙ place_is) has).value ∙ ap (text_at work n token) last_is
        where
          place_is : item_place v ≡ n
          place_is = grind (arith, nat_tests)

          of : CellOf lines pipes t
          of = cell_of lines pipes t some (ended_in y t is_t)

          among : (k : ℕ) × ((end : TaskEnd Item) × (end.value ≡ v) × (slice_get (ends_in values (start_at h) t h) k ≡ Some end))
          among = end_among values h t y v (record { of_task = is_t; has = is_v })

          in_pipe : of.pipe ≡ last
          in_pipe = let here : t % pipes ≡ of.pipe = ap (λ s. s % pipes) of.is ∙ mod-mul-add of.line pipes of.pipe of.in_pipes in let its : t % pipes ≡ last = grind (arith, nat_tests) in sym here ∙ its

          at : slice_get (cell_ends of.line last) among.0 ≡ Some among.1.0
          at = subst (λ s. slice_get (ends_in values (start_at h) s h) among.0 ≡ Some among.1.0) (of.is ∙ ap (λ p. of.line * pipes + p) in_pipe) among.1.2

      by_last : (t : ℕ) → ended_at h y ≡ Some t → (b : Bool) → in_last_pipe pipes t ≡ b → cond b (option_map_or (λ item. item_place item == n) (value_at values y) false) false ≡ true → option_map_or item_text (value_at values y) [] ≡ text_at work n token pipes
      by_last t is_t false other miss = absurd (false≢true miss)
      by_last t is_t true in_last hit = by_value t is_t in_last (value_at values y) refl hit

      by_task : (o : Option ℕ) → ended_at h y ≡ o → cond (option_map_or (in_last_pipe pipes) o false) (option_map_or (λ item. item_place item == n) (value_at values y) false) false ≡ true → option_map_or item_text (value_at values y) [] ≡ text_at work n token pipes
      by_task None none miss = absurd (false≢true miss)
      by_task (Some t) is_t hit = by_last t is_t (in_last_pipe pipes t) refl hit

  -- and an end of the last pipe that has its place stands there
  pub ends_there : (l k y n token : ℕ) (end : TaskEnd Item) → l < lines → EndStands values h (cell l last) y end.value → EndsWith (cell_at work n token last) end → ends_token pipes h values n y ≡ true
  ends_there l k y n token end in_l stands with =
      ap (λ o. cond (option_map_or (in_last_pipe pipes) o false) (option_map_or (λ item. item_place item == n) (value_at values y) false) false) stands.of_task
      ∙ ap (λ b. cond b (option_map_or (λ item. item_place item == n) (value_at values y) false) false) in_last
      ∙ ap (λ o. option_map_or (λ item. item_place item == n) o false) stands.has
      ∙ hit
    where
      its_pipe : cell l last % pipes ≡ last
      its_pipe = mod-mul-add l pipes last (omega (arith, last_is))

      in_last : in_last_pipe pipes (cell l last) ≡ true
      in_last = ap (λ q. q == last) its_pipe ∙ same_number last

      place_is : item_place end.value ≡ n
      place_is = ap item_place with.value

      hit : (item_place end.value == n) ≡ true
      hit = ap (λ m. m == n) place_is ∙ same_number n
