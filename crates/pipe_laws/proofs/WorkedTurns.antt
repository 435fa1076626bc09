-- Which tokens cells start, and when, computed on two lines and two pipes: token 1 passes before token 0.
use Rattle.std.proofs.Common.{◌≡◌, ℕ, zero, suc, ◌+◌, ◌<◌, true, false, List, [], ◌∷◌, ◌++◌, refl, sym, ap, arith}
use Rattle.std.specs.Prelude.{count_by, take}
use Rattle.std.proofs.lemmas.Bool.{false≢true}
use denote.RawPtr.{Ptr}
use Rattle.journal_rules.specs.declared.entry.Cause.TheVariants.{Strong}
use Rattle.journal_rules.specs.declared.entry.DropWhy.TheVariants.{Halted}
use Rattle.journal_rules.specs.declared.entry.Part.TheVariants.{From, First}
use Rattle.journal_rules.specs.declared.entry.Why.TheVariants.{Long}
use Rattle.journal_rules.specs.declared.entry.Entry.{Entry}
use Rattle.journal_rules.specs.declared.entry.Entry.TheVariants.{Start, End, Fault, Drop}
use Rattle.run_frame.specs.declared.run.ValueRow.{ValueRow}
use Rattle.pipe_lines.specs.declared.order.Passed.{Passed}
use Rattle.pipe_lines.specs.declared.order.Passed.TheVariants.{Token, Stop, Unmet}
use Rattle.pipe_lines.specs.PipeNet.{cell}
use Rattle.run_laws.specs.Steady.{runs_at}
use Rattle.pipe_laws.specs.Turns.{IsInOrder, MeetsAtTurn, StartsAlone, TakesTurns, in_line, in_pipe, starts_one_of, token_passed, token_started, tokens_started}
use Rattle.pipe_laws.proofs.WorkedCells.{Pair, leaving, passing}

-- ---- cells and starts

cells_of_pipes : (in_pipe passing 0 0 ≡ true) × (in_pipe passing 0 2 ≡ true) × (in_pipe passing 0 3 ≡ false) × (in_pipe passing 1 3 ≡ true) × (in_pipe passing 0 4 ≡ false)
cells_of_pipes = (refl, refl, refl, refl, refl)

cells_of_lines : (in_line 2 1 2 ≡ true) × (in_line 2 1 3 ≡ true) × (in_line 2 1 1 ≡ false) × (in_line 2 1 4 ≡ false)
cells_of_lines = (refl, refl, refl, refl)

abbrev first_start : Entry
first_start = Start 0 Strong (First ∷ First ∷ [])

abbrev second_start : Entry
second_start = Start 2 Strong (From 1 ∷ First ∷ [])

starts_of_pipes : (starts_one_of (in_pipe passing 0) second_start ≡ true) × (starts_one_of (in_pipe passing 1) second_start ≡ false) × (starts_one_of (in_pipe passing 0) (End 2 [] false) ≡ false)
    × (starts_one_of (in_pipe passing 0) (Fault 2 (Long 9)) ≡ false) × (starts_one_of (in_pipe passing 0) (Drop 2 Strong Halted) ≡ false)
starts_of_pipes = (refl, refl, refl, refl, refl)

tokens_met : (token_passed (Token 8) ≡ 8 ∷ []) × (token_passed Stop ≡ []) × (token_passed (Unmet 8) ≡ [])
tokens_met = (refl, refl, refl)

-- ---- journals

abbrev begin : List Entry
begin = first_start ∷ End 0 (0 ∷ 1 ∷ []) false ∷ []

-- token 0 comes to the second pipe before token 1, and the first line meets the end
abbrev crossing : List Entry
crossing =
    begin ++ second_start ∷ End 2 (3 ∷ 4 ∷ []) false ∷ Start 3 Strong (From 3 ∷ []) ∷ Start 1 Strong (From 1 ∷ []) ∷ End 4 (5 ∷ []) false ∷ End 5 (2 ∷ []) false
    ∷ Start 0 Strong (From 7 ∷ From 3 ∷ []) ∷ []

-- the start of token 0 faults, and what comes next is dropped
abbrev broken : List Entry
broken = begin ++ second_start ∷ Fault 2 (Long 9) ∷ Drop 1 Strong Halted ∷ []

module _ (ptr : Ptr) where
  abbrev row : ℕ → ℕ → ℕ → ValueRow Pair
  row n k place = record { place = n; value = record { ptr = ptr; value = (k, place) } }

  abbrev values : List (ValueRow Pair)
  values = row 1 1 0 ∷ row 3 0 1 ∷ row 6 0 0 ∷ row 7 1 0 ∷ []

  tokens_of_the_first_pipe : (tokens_started passing values 0 crossing ≡ 1 ∷ 0 ∷ []) × (tokens_started leaving values 0 crossing ≡ 1 ∷ 0 ∷ []) × (tokens_started passing values 0 begin ≡ 1 ∷ [])
  tokens_of_the_first_pipe = (refl, refl, refl)

  tokens_of_the_second_pipe : tokens_started passing values 1 crossing ≡ 0 ∷ 1 ∷ []
  tokens_of_the_second_pipe = refl

  started_by_other_entries : (token_started passing values 0 2 (End 0 [] false) ≡ []) × (token_started passing values 0 2 (Fault 0 (Long 9)) ≡ []) × (token_started passing values 0 2 (Drop 0 Strong Halted) ≡ [])
      × (token_started passing values 1 2 first_start ≡ [])
  started_by_other_entries = (refl, refl, refl, refl)

  -- ---- turns

  abbrev AtFirstPipe : List Entry → Entry → Type 0
  AtFirstPipe = MeetsAtTurn passing values 0 (in_pipe passing 0) (λ n. n)

  second_at_its_turn : AtFirstPipe begin second_start
  second_at_its_turn = λ inside. refl

  abbrev passed_token : Passed → ℕ
  passed_token (Token k) = k
  passed_token Stop = 9
  passed_token (Unmet k) = 8

  -- token 0 would be the first, and token 1 come twice
  second_at_first : ¬ AtFirstPipe [] second_start
  second_at_first meets = absurd (omega (arith, ap passed_token (meets refl)))

  first_again : ¬ AtFirstPipe begin first_start
  first_again meets = absurd (omega (arith, ap passed_token (meets refl)))

  -- entries that aren't starts of the first pipe are free
  others_at_any_turn : AtFirstPipe [] (Start 3 Strong (First ∷ [])) × AtFirstPipe [] (End 0 [] false) × AtFirstPipe [] (Fault 0 (Long 9)) × AtFirstPipe [] (Drop 0 Strong Halted)
  others_at_any_turn = (λ inside. absurd (false≢true inside), tt, tt, tt)

  -- the place can be another than the number of starts
  at_the_second_place : MeetsAtTurn passing values 0 (in_pipe passing 0) (λ n. n + 1) [] second_start
  at_the_second_place = λ inside. refl

  -- ---- pipes in order

  crossing_in_order : IsInOrder passing values 0 crossing × IsInOrder leaving values 0 crossing
  crossing_in_order = (
    record { each = (λ inside. refl, (tt, (λ inside. refl, (tt, (λ inside. absurd (false≢true inside), (λ inside. absurd (false≢true inside), (tt, (tt, (λ inside. refl, tt))))))))); tokens = refl },
    record { each = (λ inside. refl, (tt, (λ inside. refl, (tt, (λ inside. absurd (false≢true inside), (λ inside. absurd (false≢true inside), (tt, (tt, (λ inside. refl, tt))))))))); tokens = refl },
  )

  broken_in_order : IsInOrder passing values 0 broken
  broken_in_order = record { each = (λ inside. refl, (tt, (λ inside. refl, (tt, (tt, tt))))); tokens = refl }

  out_of_order : ¬ IsInOrder passing values 0 (second_start ∷ [])
  out_of_order is = second_at_first is.each.0

  -- the second pipe starts them as they come
  second_pipe_out_of_order : ¬ IsInOrder passing values 1 crossing
  second_pipe_out_of_order is = absurd (omega (arith, ap passed_token (is.each.1.1.1.1.0 refl)))

  first_of_the_order : (journal : List Entry) → IsInOrder passing values 0 journal → tokens_started passing values 0 journal ≡ take (count_by (starts_one_of (in_pipe passing 0)) journal) (1 ∷ 0 ∷ [])
  first_of_the_order journal is = is.tokens

  -- ---- lines at their turns

  first_line_takes_turns : TakesTurns passing values 0 0 crossing
  first_line_takes_turns = (λ hit. refl, (tt, (λ hit. absurd (false≢true hit), (tt, (λ hit. absurd (false≢true hit), (λ hit. absurd (false≢true hit), (tt, (tt, (λ hit. refl, tt)))))))))

  second_line_at_second_pipe : TakesTurns passing values 1 1 crossing
  second_line_at_second_pipe = (λ hit. absurd (false≢true hit), (tt, (λ hit. absurd (false≢true hit), (tt, (λ hit. refl, (λ hit. absurd (false≢true hit), (tt, (tt, (λ hit. absurd (false≢true hit), tt)))))))))

  -- the first line brings token 0 there, whose turn it isn't
  other_token_at_second_pipe : ¬ TakesTurns passing values 0 1 (begin ++ second_start ∷ End 2 (3 ∷ 4 ∷ []) false ∷ Start 1 Strong (From 3 ∷ []) ∷ [])
  other_token_at_second_pipe takes = absurd (omega (arith, ap passed_token (takes.1.1.1.1.0 refl)))

-- ---- one open start of a line

-- beside an open start of the other line
alone_in_its_line : StartsAlone 2 0 (begin ++ second_start ∷ []) (Start 1 Strong (From 1 ∷ []))
alone_in_its_line = λ inside. rests
  where
    rests : (p n : ℕ) → p < 2 → runs_at (cell 2 0 p) (begin ++ second_start ∷ []) n ≡ false
    rests zero zero in_pipes = refl
    rests zero (suc zero) in_pipes = refl
    rests zero (suc (suc zero)) in_pipes = refl
    rests zero (suc (suc (suc n))) in_pipes = refl
    rests (suc zero) zero in_pipes = refl
    rests (suc zero) (suc zero) in_pipes = refl
    rests (suc zero) (suc (suc zero)) in_pipes = refl
    rests (suc zero) (suc (suc (suc n))) in_pipes = refl
    rests (suc (suc p)) n in_pipes = absurd (omega (arith, in_pipes))

beside_its_line : ¬ StartsAlone 2 1 (begin ++ second_start ∷ []) (Start 3 Strong (From 1 ∷ []))
beside_its_line alone = absurd (false≢true (sym (alone refl 0 2 (omega arith))))

-- entries that aren't starts of the line are free
others_beside_it : StartsAlone 2 1 (begin ++ second_start ∷ []) (Start 1 Strong (From 1 ∷ [])) × StartsAlone 2 1 (begin ++ second_start ∷ []) (End 2 [] false)
    × StartsAlone 2 1 (begin ++ second_start ∷ []) (Fault 2 (Long 9)) × StartsAlone 2 1 (begin ++ second_start ∷ []) (Drop 3 Strong Halted)
others_beside_it = (λ inside. absurd (false≢true inside), tt, tt, tt)

-- a start of a cell beyond the pipes may be open
beyond_the_pipes : StartsAlone 1 0 (Start 1 Strong [] ∷ []) (Start 0 Strong [])
beyond_the_pipes = λ inside. rests
  where
    rests : (p n : ℕ) → p < 1 → runs_at (cell 1 0 p) (Start 1 Strong [] ∷ []) n ≡ false
    rests zero zero in_pipes = refl
    rests zero (suc n) in_pipes = refl
    rests (suc p) n in_pipes = absurd (omega (arith, in_pipes))
