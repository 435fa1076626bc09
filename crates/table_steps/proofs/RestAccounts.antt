-- What a load of the halt mark says to a rest that is alone, and that a Drop for want of a unit keeps the accounts.
use Rattle.std.proofs.Common.{◌≡◌, ℕ, zero, suc, ◌<◌, ◌≤◌, List, [], ◌∷◌, ◌++◌, length, sym, refl, arith}
use Rattle.std.proofs.lemmas.Bool.{false≢true}
use Rattle.task_graph.specs.NetRows.{NetRows}
use Rattle.journal_rules.specs.declared.entry.Cause.{Cause}
use Rattle.journal_rules.specs.declared.entry.DropWhy.TheVariants.{Stuck}
use Rattle.journal_rules.specs.declared.entry.Entry.{Entry}
use Rattle.journal_rules.specs.declared.entry.Entry.TheVariants.{Drop}
use Rattle.journal_rules.specs.Counts.{is_start, faults}
use Rattle.journal_rules.specs.DataRule.{edges_of}
use Rattle.journal_rules.specs.Complete.{is_limited}
use Rattle.journal_rules.specs.HaltLimitStuckRule.{MayBeStuck}
use Rattle.journal_rules.proofs.Tallying.{count_by_push_no}
use Rattle.table_steps.specs.Releases.{MayBeReleased}
use Rattle.table_steps.specs.inside.Duties.{tickets}
use Rattle.table_steps.specs.declared.view.SeatMark.TheVariants.{Over, ToMark, Sticking}
use Rattle.table_steps.specs.inside.Accounts.{Coord, mark, Readings, HaltPart, Balanced, with_clock}
use Rattle.table_steps.proofs.DropAccounts.{DropMoves, drop_kept, no_ticket}

pub halt_none : (h : ℕ) (journal : List Entry) (T : Coord → ℕ) → HaltPart h journal T → h ≡ 0 → T (mark ToMark) ≡ 0 → faults journal ≡ 0
halt_none zero journal T is none clear = omega (arith, is, clear)
halt_none (suc h) journal T is none clear = absurd (omega (arith, none))

pub stuck_kept : (net : NetRows) (limit : ℕ) (w : Readings) (counted : ℕ → ℕ) (journal : List Entry) (T T' : Coord → ℕ) (t s : ℕ) (cause : Cause) → Balanced net limit w counted journal T → MayBeReleased net t cause → s < length net.sems → MayBeStuck net journal t s
    → DropMoves net w.clock (Drop t cause (Stuck s)) t cause T T' → T' (mark Over) ≡ T (mark Over) → 1 ≤ T' (mark Sticking) → Balanced net limit (with_clock w (suc w.clock)) counted (journal ++ Drop t cause (Stuck s) ∷ []) T'
stuck_kept net limit w counted journal T T' t s cause b may below stuck moved over_is sticks = let x = Drop t cause (Stuck s) in let a = b.by_admissions in
    let limited_same = count_by_push_no is_limited journal x refl in let starts_same = count_by_push_no is_start journal x refl in
    drop_kept net limit w counted journal T T' t cause (Stuck s) b may below stuck (λ is. absurd (false≢true (sym is))) moved
    (record {
      drawn = omega (arith, a.drawn, starts_same, limited_same, no_ticket t cause (edges_of net t cause), moved.duties tickets, over_is);
      room = omega (arith, a.room, starts_same, no_ticket t cause (edges_of net t cause), moved.duties tickets);
      full = λ some. omega (arith, starts_same, no_ticket t cause (edges_of net t cause), moved.duties tickets, a.full (λ none. some (omega (arith, none, limited_same, over_is))));
    })
    (λ some. sticks)
