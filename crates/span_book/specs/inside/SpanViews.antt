-- What the seats of a book know, its rule, and what each step makes of a view.
use Rattle.std.specs.Prelude.{◌≡◌, ℕ, zero, suc, ◌+◌, ◌-◌, List, [], ◌∷◌, min}
use mathlib.Core.Option.{some}
use lib.ListN.{get_elem?}
use Rattle.span_book.specs.declared.view.SpanView.{SpanView}

-- a view of tellers, and one of a run
abbrev pub tellers_view : ℕ → ℕ → SpanView
tellers_view tellers told = record { tellers = tellers; told = told; runs = 0; depth = 0; noted = 0; opened = 0; back = 0 }

abbrev pub run_view : ℕ → ℕ → ℕ → ℕ → SpanView
run_view depth noted opened back = record { tellers = 0; told = 0; runs = 1; depth = depth; noted = noted; opened = opened; back = back }

abbrev pub tally_view : ℕ → ℕ → ℕ → ℕ → SpanView
tally_view tellers told noted opened = record { tellers = tellers; told = told; runs = 1; depth = 0; noted = noted; opened = opened; back = opened }

abbrev pub nothing : SpanView
nothing = tellers_view 0 0

abbrev pub one_teller : SpanView
one_teller = tellers_view 1 0

-- the outermost run, and all tellers
abbrev pub first_view : ℕ → SpanView
first_view tellers = tally_view tellers 0 0 0

-- a number up to the greatest u64
abbrev pub capped : ℕ → ℕ
capped n = min n 18446744073709551615

-- a number where two depths are the same, else none
abbrev pub at : ℕ → ℕ → ℕ → ℕ
at zero zero n = n
at zero (suc e) n = 0
at (suc d) zero n = 0
at (suc d) (suc e) n = at d e n

-- what a view counts of a depth
abbrev pub runs_at : ℕ → SpanView → ℕ
runs_at d v = at d v.depth v.runs

abbrev pub opened_at : ℕ → SpanView → ℕ
opened_at d v = at d v.depth v.opened

abbrev pub back_at : ℕ → SpanView → ℕ
back_at d v = at d v.depth v.back

abbrev pub tellers_of : SpanView → ℕ
tellers_of v = v.tellers

abbrev pub told_of : SpanView → ℕ
told_of v = v.told

abbrev pub noted_of : SpanView → ℕ
noted_of v = v.noted

-- what all views count
abbrev pub total : (SpanView → ℕ) → List SpanView → ℕ
total f [] = 0
total f (v ∷ vs) = f v + total f vs

-- only a run notes and opens, and only tellers tell
pub record IsBacked (v : SpanView) : Type 0 where
  pub by_run : v.runs ≡ 0 → v.noted + v.opened + v.back ≡ 0
  pub by_teller : v.tellers ≡ 0 → v.told ≡ 0

-- the rule of a book with so many tellers
pub record KeepsBook (tellers : ℕ) (views : List SpanView) : Type 0 where
  pub each : (i : ℕ) (v : SpanView) → get_elem? views i ≡ some v → IsBacked v
  pub all_tellers : total tellers_of views ≡ tellers
  pub outermost : total (runs_at 0) views ≡ 1
  pub spans : total told_of views ≡ total noted_of views
  pub inside : (d : ℕ) → total (runs_at (suc d)) views + total (back_at d) views ≡ total (opened_at d) views

-- a teller leaves
abbrev pub without_one : SpanView → SpanView
without_one v = record v { tellers = v.tellers - 1 }

-- tellers come, or leave
abbrev pub with_teller : SpanView → SpanView → SpanView
with_teller v w = record v { tellers = v.tellers + w.tellers; told = v.told + w.told }

abbrev pub without_tellers : SpanView → SpanView
without_tellers v = record v { tellers = 0; told = 0 }

abbrev pub only_tellers : SpanView → SpanView
only_tellers v = tellers_view v.tellers v.told

-- spans are noted that the teller told
abbrev pub with_noted : ℕ → SpanView → SpanView
with_noted n v = record v { told = v.told + n; noted = v.noted + n }

-- a run is opened inside another
abbrev pub with_opened : SpanView → SpanView
with_opened v = record v { opened = v.opened + 1 }

abbrev pub opened_inside : SpanView → SpanView
opened_inside v = run_view (suc v.depth) 0 0 0

-- it comes back, with what it noted, where it has back what was opened in it
pub record MayComeBack (v w : SpanView) : Type 0 where
  pub around : v.runs ≡ 1
  pub inner : w.runs ≡ 1
  pub depth : w.depth ≡ suc v.depth
  pub all_back : w.back ≡ w.opened
  pub tellers : w.tellers ≡ 0
  pub told : w.told ≡ 0

abbrev pub with_back : SpanView → SpanView → SpanView
with_back v w = record v { noted = v.noted + w.noted; back = v.back + 1 }

-- a view of the outermost run, which has back what was opened in it
pub record IsTally (v : SpanView) : Type 0 where
  pub run : v.runs ≡ 1
  pub depth : v.depth ≡ 0
  pub all_back : v.back ≡ v.opened

-- with all tellers the outermost run noted what they told
abbrev pub IsSettled : ℕ → SpanView → Type 0
IsSettled all v = v.tellers ≡ all → v.told ≡ v.noted
