-- The rounds that are kept of an ask, what is under the lock of a desk, and what finishing a desk comes to.
use Rattle.std.proofs.Common.{◌≡◌, ◌≢◌, ℕ, zero, suc, ◌<◌, Bool, true, false, List, [], ◌∷◌, ◌++◌, Some, None, length, inl, refl, sym, ap, ◌∙◌, subst, arith}
use Rattle.std.specs.Prelude.{slice_get}
use Rattle.std.proofs.lemmas.List.Elements.{All-nil}
use Rattle.std.specs.declared.alloc.Global.{Global}
use Rattle.std.specs.declared.vec.Vec.{Vec}
use Rattle.std.specs.declared.snapshot.Snapshot.{Snapshot}
use Rattle.atomic_table.specs.Seated.{TableId}
use Rattle.tickets.specs.Books.{ticket_state}
use Rattle.journal_rules.specs.declared.entry.Entry.{Entry}
use Rattle.run_frame.specs.Legal.{IsKept}
use Rattle.run_frame.specs.Meaning.{Meaning}
use Rattle.run_frame.specs.NestedRule.{journal_of}
use Rattle.run_frame.specs.declared.run.FrameRun.{FrameRun}
use Rattle.nested_runs.specs.Rounds.{AreAllRounds, AreFirstRounds, times}
use Rattle.desk_book.specs.declared.entry.Ask.{Ask}
use Rattle.desk_book.specs.declared.entry.DeskEntry.{DeskEntry}
use Rattle.desk_book.specs.declared.entry.DeskEntry.TheVariants.{Asked, Took, Ended}
use Rattle.desk_book.specs.declared.turn.Turn.TheVariants.{Waiting, Open, Over}
use Rattle.desk_book.specs.declared.outstanding.Outstanding.TheVariants.{Pass}
use Rattle.desk_book.specs.declared.desk_run.DeskRun.{DeskRun}
use Rattle.desk_book.specs.declared.finish.DeskEnd.TheVariants.{Done, Open as Unfinished}
use Rattle.desk_book.specs.Asks.{new_ask}
use Rattle.desk_book.specs.Books.{BookHistory, book_history}
use Rattle.desk_book.specs.Desks.{graph_limit, caller_limit, IsPassOf, ArePassesOf, AreFirstPasses}
use Rattle.desk_book.specs.Finishes.{IsDeskRun, IsDone, SeesFirstUnended, AllSeeFirstUnended, IsFinished}
use Rattle.desk_book.specs.Histories.{asks_of, asks_by, turn_of, IsOver, IsFirstUnended}
use Rattle.desk_book.specs.Passes.{PassState, pass_state, kept}
use Rattle.desk_book.specs.Rounds.{AreRounds, AreRoundsOf, RunsFit, journals_of}
use Rattle.desk_book.specs.States.{DeskLocked, DeskKey, desk_locked, desk_key, key_of, with_book, with_ask, with_rounds}
use Rattle.library_claims.proofs.WorkedDesks.{first, second, asked, one_over, some_same, first_may, second_is_the_first_unended, third_is_not_the_first_unended}

limits : (graph_limit ≡ 64) × (caller_limit ≡ 64)
limits = (refl, refl)

-- ---- rounds

module _ {J V : Type 0} (meaning : Meaning J V) (job another : J) (run : FrameRun J V) (runs : List (FrameRun J V)) where
  journals : (journals_of (run ∷ run ∷ []) ≡ journal_of run ∷ journal_of run ∷ []) × (journals_of {J = J} {V = V} [] ≡ [])
  journals = (refl, refl)

  -- the first ask is for two rounds of graph 0, the second for one of graph 1
  all_of_the_first : AreAllRounds meaning job (times 2) runs → RunsFit meaning (job ∷ another ∷ []) first (Over true) runs
  all_of_the_first are = are

  not_all_of_the_first : ¬ AreAllRounds meaning job (times 2) runs → ¬ RunsFit meaning (job ∷ another ∷ []) first (Over true) runs
  not_all_of_the_first not fits = not fits

  cut_ones_of_the_second : AreFirstRounds meaning another (times 1) runs → AreRoundsOf meaning (job ∷ another ∷ []) second false runs
  cut_ones_of_the_second are = are

  others_of_the_second : ¬ AreFirstRounds meaning another (times 1) runs → ¬ AreRoundsOf meaning (job ∷ another ∷ []) second false runs
  others_of_the_second not are = not are

  cut_or_whole : (AreRounds meaning true job 2 runs → AreAllRounds meaning job (times 2) runs) × (AreRounds meaning false job 2 runs → AreFirstRounds meaning job (times 2) runs)
  cut_or_whole = ((λ are. are), (λ are. are))

  -- none is kept of an ask that has not ended
  none_before_the_end : RunsFit meaning (job ∷ []) first Waiting [] × RunsFit meaning (job ∷ []) first Open [] × ¬ RunsFit meaning (job ∷ []) first Waiting (run ∷ []) × ¬ RunsFit meaning (job ∷ []) first Open (run ∷ [])
  none_before_the_end = (refl, refl, (λ is. let e : run ∷ [] ≡ [] = is in cc), (λ is. let e : run ∷ [] ≡ [] = is in cc))

-- ---- what is under the lock

module _ (r : TableId) (journal : List Entry) where
  abbrev book : BookHistory
  book = book_history r 2 3 asked []

  -- two graphs, with the jobs 7 and 8, and three asks without rounds
  abbrev desk : DeskLocked ℕ
  desk = desk_locked book (7 ∷ 8 ∷ []) ([] ∷ [] ∷ [] ∷ [])

  its_key : key_of desk ≡ desk_key r 3 (7 ∷ 8 ∷ [])
  its_key = refl

  changed : (with_book desk (book_history r 2 3 one_over []) ≡ desk_locked (book_history r 2 3 one_over []) (7 ∷ 8 ∷ []) ([] ∷ [] ∷ [] ∷ []))
      × (with_ask desk (new_ask 3 0 1 5) ≡ desk_locked (book_history r 2 3 (asked ++ Asked (new_ask 3 0 1 5) ∷ []) []) (7 ∷ 8 ∷ []) ([] ∷ [] ∷ [] ∷ [] ∷ []))
      × (with_rounds desk book 1 (journal ∷ journal ∷ []) ≡ desk_locked book (7 ∷ 8 ∷ []) ([] ∷ (journal ∷ journal ∷ []) ∷ [] ∷ []))
  changed = (refl, refl, refl)

-- ---- whose passes they are

abbrev desk_of : TableId → ℕ → DeskKey ℕ
desk_of table callers = desk_key table callers (7 ∷ [])

module _ (r s : TableId) (other : s ≢ r) (entries : Snapshot (Vec DeskEntry Global)) where
  abbrev pass_at : ℕ → PassState
  pass_at caller = pass_state caller (Some (ticket_state r 3 (Pass caller entries)))

  pass_of_the_desk : IsPassOf (desk_of r 2) (pass_at 1)
  pass_of_the_desk = record { ticket = refl; caller = omega arith }

  pass_of_none : ¬ IsPassOf (desk_of r 1) (pass_at 1) × ¬ IsPassOf (desk_of s 2) (pass_at 1)
  pass_of_none = ((λ is. let e = is.caller in absurd (omega arith)), (λ is. other (sym is.ticket)))

  -- a pass for each caller, at its place
  all_passes : ArePassesOf (desk_of r 2) (pass_at 0 ∷ pass_at 1 ∷ [])
  all_passes = record { count = refl; each = each_one }
    where
      each_one : (c : ℕ) (p : PassState) → slice_get (pass_at 0 ∷ pass_at 1 ∷ []) c ≡ Some p → IsPassOf (desk_of r 2) p × (p.caller ≡ c)
      each_one zero p at = subst (λ (q : PassState). IsPassOf (desk_of r 2) q × (q.caller ≡ 0)) (some_same at) (record { ticket = refl; caller = omega arith }, refl)
      each_one (suc zero) p at = subst (λ (q : PassState). IsPassOf (desk_of r 2) q × (q.caller ≡ 1)) (some_same at) (pass_of_the_desk, refl)
      each_one (suc (suc c)) p at = absurd (cc)

  too_few_passes : ¬ ArePassesOf (desk_of r 2) (pass_at 0 ∷ [])
  too_few_passes are = absurd (omega (arith, are.count))

  at_another_place : ¬ ArePassesOf (desk_of r 2) (pass_at 1 ∷ pass_at 0 ∷ []) × ¬ AreFirstPasses r (pass_at 1 ∷ [])
  at_another_place = ((λ are. absurd (omega (arith, (are.each 0 (pass_at 1) refl).1))), (λ are. absurd (omega (arith, (are 0 (pass_at 1) refl).1))))

  of_another_table : ¬ AreFirstPasses s (pass_at 0 ∷ [])
  of_another_table are = other (sym (are 0 (pass_at 0) refl).0)

-- ---- finished desks

abbrev pub none : Ask
none = new_ask 0 0 0 0

abbrev pub history : List DeskEntry
history = Asked none ∷ Took 0 ∷ Ended 0 true ∷ []

-- A desk of one graph and one caller, who asked for no round of it.
module _ {J V : Type 0} (meaning : Meaning J V) (job : J) (run : FrameRun J V) where
  abbrev one_ask : DeskRun J V
  one_ask = record { history = history; runs = [] ∷ [] }

  pub no_rounds : AreAllRounds meaning job (times 0) []
  no_rounds = record {
    first = record { rounds = record { kept = All-nil (IsKept meaning); first = tt; next = λ n. tt }; few = omega arith; went_on = λ n below. refl };
    over = inl refl;
  }

  is_run : IsDeskRun meaning 1 (job ∷ []) one_ask
  is_run = record {
    history = (
      record { number = refl; few = omega arith; caller = omega arith; graph = omega arith; times = omega arith },
      ((refl, λ m older less at of. absurd (omega (arith, less))), (refl, tt)),
    );
    ended = ended;
    run_count = refl;
    rounds = fit;
  }
    where
      ended : (n : ℕ) → n < 1 → IsOver (turn_of history n)
      ended zero below = tt
      ended (suc n) below = absurd (omega (arith, below))

      fit : (n : ℕ) (ask : Ask) (runs : List (FrameRun J V)) → slice_get (none ∷ []) n ≡ Some ask → slice_get ([] ∷ []) n ≡ Some runs → RunsFit meaning (job ∷ []) ask (turn_of history n) runs
      fit zero ask runs at at_runs =
          subst (λ a. RunsFit meaning (job ∷ []) a (Over true) runs) (some_same at)
          (subst (RunsFit meaning (job ∷ []) none (Over true)) (some_same at_runs) no_rounds)
      fit (suc n) ask runs at at_runs = absurd (cc)

  run_of_no_caller : ¬ IsDeskRun meaning 0 (job ∷ []) one_ask
  run_of_no_caller is = let e = is.history.0.caller in absurd (omega arith)

  run_with_an_open_ask : ¬ IsDeskRun meaning 1 (job ∷ []) (record { history = Asked none ∷ Took 0 ∷ []; runs = [] ∷ [] })
  run_with_an_open_ask is = is.ended 0 (omega arith)

  run_without_its_rounds : ¬ IsDeskRun meaning 1 (job ∷ []) (record { history = history; runs = [] })
  run_without_its_rounds is = absurd (omega (arith, is.run_count))

  run_with_a_round_too_many : ¬ IsDeskRun meaning 1 (job ∷ []) (record { history = history; runs = (run ∷ []) ∷ [] })
  run_with_a_round_too_many is =
      let fits : AreAllRounds meaning job (times 0) (run ∷ []) = is.rounds 0 none (run ∷ []) refl refl in
      absurd (omega (arith, fits.first.few))

  -- The pass of the caller, which has seen all, or nothing, or three asks of which the first has ended.
  module _ (r s : TableId) (other : s ≢ r) (all nothing some : Snapshot (Vec DeskEntry Global)) (has_all : all.value.items ≡ history) (has_nothing : nothing.value.items ≡ []) (has_some : some.value.items ≡ one_over) where
    abbrev pass_with : ℕ → Snapshot (Vec DeskEntry Global) → PassState
    pass_with number entries = pass_state 0 (Some (ticket_state r number (Pass 0 entries)))

    -- a desk is finished with the run, of which the pass has kept all asks
    done : IsFinished meaning (desk_key r 1 (job ∷ [])) (pass_with 3 all ∷ []) (Done one_ask)
    done = record { is_run = is_run; kept_all = kept_one; together = let e = ap (λ entries. length (asks_by 0 entries)) has_all in omega (arith, e) }
      where
        kept_one : (c : ℕ) (p : PassState) → slice_get (pass_with 3 all ∷ []) c ≡ Some p → asks_by c history ≡ kept p
        kept_one zero p at = ap (asks_by 0) (sym has_all) ∙ ap kept (some_same at)
        kept_one (suc c) p at = absurd (cc)

    done_with_another_pass : ¬ IsDone meaning (desk_key r 1 (job ∷ [])) (pass_with 3 nothing ∷ []) one_ask
    done_with_another_pass is = absurd (omega (arith, ap length (is.kept_all 0 (pass_with 3 nothing) refl ∙ ap (asks_by 0) has_nothing)))

    done_without_passes : ¬ IsFinished meaning (desk_key r 1 (job ∷ [])) [] (Done one_ask)
    done_without_passes is = absurd (omega (arith, is.together))

    done_with_another_job : (jobs : List J) → length jobs ≡ 0 → ¬ IsFinished meaning (desk_key r 1 jobs) (pass_with 3 all ∷ []) (Done one_ask)
    done_with_another_job jobs empty is = let e = is.is_run.history.0.graph in absurd (omega (arith, empty))

    -- or it is open, and each pass has looked and has seen which ask is the first that has not ended
    sees : SeesFirstUnended 1 (pass_with 3 nothing) (pass_with 5 some)
    sees = (
      record { caller = refl; later = omega arith; longer = (one_over, has_some ∙ ap (λ entries. entries ++ one_over) (sym has_nothing)) },
      subst (λ entries. IsFirstUnended entries 1) (sym has_some) second_is_the_first_unended,
    )

    sees_another : ¬ SeesFirstUnended 2 (pass_with 3 nothing) (pass_with 5 some)
    sees_another is = third_is_not_the_first_unended (subst (λ entries. IsFirstUnended entries 2) has_some is.1)

    sees_without_a_look : ¬ SeesFirstUnended 1 (pass_with 5 some) (pass_with 5 some)
    sees_without_a_look is = let e = is.0.later in absurd (omega arith)

    all_see : AllSeeFirstUnended 1 (pass_with 3 nothing ∷ []) (pass_with 5 some ∷ [])
    all_see zero before after at_old at_new = subst (λ p. SeesFirstUnended 1 p after) (some_same at_old) (subst (SeesFirstUnended 1 (pass_with 3 nothing)) (some_same at_new) sees)
    all_see (suc c) before after at_old at_new = absurd (cc)

    one_does_not_see : ¬ AllSeeFirstUnended 2 (pass_with 3 nothing ∷ []) (pass_with 5 some ∷ [])
    one_does_not_see are = sees_another (are 0 (pass_with 3 nothing) (pass_with 5 some) refl refl)

    unfinished : (back : Vec PassState Global) → back.items ≡ pass_with 5 some ∷ [] → IsFinished meaning (desk_key r 1 (job ∷ [])) (pass_with 3 nothing ∷ []) (Unfinished (desk_key r 1 (job ∷ [])) back 1)
    unfinished back has = (
      refl,
      subst (ArePassesOf (desk_key r 1 (job ∷ []))) (sym has) (record { count = refl; each = each_one }),
      subst (AllSeeFirstUnended 1 (pass_with 3 nothing ∷ [])) (sym has) all_see,
    )
      where
        each_one : (c : ℕ) (p : PassState) → slice_get (pass_with 5 some ∷ []) c ≡ Some p → IsPassOf (desk_key r 1 (job ∷ [])) p × (p.caller ≡ c)
        each_one zero p at = subst (λ (q : PassState). IsPassOf (desk_key r 1 (job ∷ [])) q × (q.caller ≡ 0)) (some_same at) (record { ticket = refl; caller = omega arith }, refl)
        each_one (suc c) p at = absurd (cc)

    another_desk_back : (back : Vec PassState Global) → ¬ IsFinished meaning (desk_key r 1 (job ∷ [])) (pass_with 3 nothing ∷ []) (Unfinished (desk_key s 1 (job ∷ [])) back 1)
    another_desk_back back is = other (ap (λ (d : DeskKey J). d.register) is.0)

    no_passes_back : (back : Vec PassState Global) → back.items ≡ [] → ¬ IsFinished meaning (desk_key r 1 (job ∷ [])) (pass_with 3 nothing ∷ []) (Unfinished (desk_key r 1 (job ∷ [])) back 1)
    no_passes_back back has is = absurd (omega (arith, is.1.count, ap length has))
