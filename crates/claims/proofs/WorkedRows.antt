-- Where the inner runs of a run stand, and which nets are flat, computed on small ones.
use Rattle.std.proofs.Common.{ℕ, List, [], ◌∷◌, refl, arith, Vec}
use Rattle.std.specs.Global.{Global}
use Rattle.std.specs.declared.sync.Arc.{Arc}
use Rattle.std.specs.declared.vec.Vec.{ok-type, small-type}
use denote.Hole.Carrier.{out, shown}
use denote.RawPtr.{Ptr}
use Rattle.task_graph.specs.declared.net.Shape.{Shape}
use Rattle.task_graph.specs.declared.net.Shape.TheVariants.{Plain, Nested}
use Rattle.task_graph.specs.declared.net.TaskRow.{TaskRow}
use Rattle.journal_rules.specs.declared.entry.Cause.TheVariants.{Source}
use Rattle.journal_rules.specs.declared.entry.Why.TheVariants.{Inner}
use Rattle.journal_rules.specs.declared.entry.Entry.{Entry}
use Rattle.journal_rules.specs.declared.entry.Entry.TheVariants.{Start, Fault}
use Rattle.run_frame.specs.declared.run.FrameRun.{FrameRun, FrameRun', end_of-InnerRow, more_of-InnerRow, out-FrameRun}
use Rattle.run_frame.specs.declared.run.FrameRun.TheBlock.{shown-the_row-InnerRow-0}
use Rattle.run_frame.specs.declared.run.InnerRow.{InnerRow', out-InnerRow}
use Rattle.run_frame.specs.Rows.{RowsFit}
use Rattle.run_frame.specs.Meaning.{Meaning}
use Rattle.run_frame.specs.Legal.{Legal, LegalRows, CompleteRun}

abbrev free : Shape → TaskRow
free shape = record { shape = shape; takes = []; puts = [] }

-- Runs hold their inner runs in vectors: of none or two, wherever they stand in memory.
module _ (ptr : Ptr) (alloc : Global)
    (ok_none : ok-type (Unit {0}) Global ptr 0 0 alloc []) (small_none : small-type (Unit {0}) Global ptr 0 0 alloc [] ok_none)
    (ok_two : ok-type (Unit {0}) Global ptr 2 2 alloc (tt ∷ tt ∷ [])) (small_two : small-type (Unit {0}) Global ptr 2 2 alloc (tt ∷ tt ∷ []) ok_two)
  where
    abbrev none : Vec (Unit {0}) Global
    none = record { ptr = ptr; len = 0; cap = 0; alloc = alloc; items = []; ok = ok_none; small = small_none }

    abbrev two : Vec (Unit {0}) Global
    two = record { ptr = ptr; len = 2; cap = 2; alloc = alloc; items = tt ∷ tt ∷ []; ok = ok_two; small = small_two }

    abbrev the : ℕ → Arc ℕ Global
    the n = record { ptr = ptr; value = n }

    abbrev inside : FrameRun ℕ ℕ
    inside = FrameRun' (the 0) [] [] none end_of-InnerRow

    -- two starts that faulted with the runs that they made
    abbrev both_faulted : List Entry
    both_faulted = Start 0 Source [] ∷ Fault 0 Inner ∷ Start 0 Source [] ∷ Fault 2 Inner ∷ []

    abbrev with_runs_at : ℕ → ℕ → FrameRun ℕ ℕ
    with_runs_at place later = FrameRun' (the 1) both_faulted [] two (more_of-InnerRow (InnerRow' place inside) (more_of-InnerRow (InnerRow' later inside) end_of-InnerRow))

    inner_runs_fall : ¬ RowsFit (with_runs_at 3 1)
    unfolding out-FrameRun out shown-the_row-InnerRow-0 shown out-InnerRow
    inner_runs_fall is = absurd (omega (arith, is.rising 0 1 0 (omega arith) (omega arith)))

-- Each inner run of a list is held to the rules, the second as well.
second_inner_run_is_legal : (meaning : Meaning ℕ ℕ) (first second : FrameRun ℕ ℕ)
    → LegalRows meaning (more_of-InnerRow (InnerRow' 1 first) (more_of-InnerRow (InnerRow' 3 second) end_of-InnerRow)) → Legal meaning second
second_inner_run_is_legal meaning first second rows = rows.1.0.0

second_inner_run_is_complete : (meaning : Meaning ℕ ℕ) (first second : FrameRun ℕ ℕ)
    → LegalRows meaning (more_of-InnerRow (InnerRow' 1 first) (more_of-InnerRow (InnerRow' 3 second) end_of-InnerRow)) → CompleteRun meaning second
second_inner_run_is_complete meaning first second rows = rows.1.0.1
