-- The spans that fates end, what books of spans say, and which views keep the rule of a book, computed on small ones.
use Rattle.std.proofs.Common.{◌≡◌, ◌≢◌, ℕ, zero, suc, ◌+◌, true, false, List, [], ◌∷◌, map, Option, Some, None, refl, ap, sym, subst, arith}
use Rattle.std.specs.Prelude.{sum}
use Rattle.std.specs.Arc.{arc_value}
use Rattle.std.specs.Global.{Global}
use Rattle.std.specs.declared.sync.Arc.{Arc}
use Rattle.std.specs.declared.vec.Vec.{Vec}
use mathlib.Core.Option.{some, some-injective, some-ne-none}
use lib.ListN.{get_elem?}
use Rattle.atomic_table.specs.Seated.{TableId}
use Rattle.journal_rules.specs.declared.entry.Cause.TheVariants.{Strong}
use Rattle.journal_rules.specs.declared.entry.Why.TheVariants.{Long}
use Rattle.join_tables.specs.Batches.{batch_state}
use Rattle.join_tables.specs.Keeping.{keeper_state}
use Rattle.join_tables.specs.declared.fates.Dropping.{Dropping}
use Rattle.join_tables.specs.declared.fates.Fate.{Fate}
use Rattle.join_tables.specs.declared.fates.Fate.TheVariants.{Ended, Faulted, Dropped, AllDropped}
use Rattle.join_tables.specs.declared.parts.FoundParts.{FoundParts}
use Rattle.nested_runs.specs.Totals.{all_spans, spans_of_row}
use Rattle.run_frame.specs.declared.run.FrameRun.{FrameRun}
use Rattle.run_frame.specs.declared.run.InnerRow.{InnerRow}
use Rattle.span_book.specs.SpanBooks.{all_tellers, name_of, no_spans, spans_state, tally_state, teller_state}
use Rattle.span_book.specs.declared.book.SpanBook.{SpanBook}
use Rattle.span_book.specs.declared.view.SpanView.{SpanView}
use Rattle.span_book.specs.inside.SpanViews.{IsBacked, IsSettled, KeepsBook, MayComeBack, back_at, capped, first_view, opened_at, run_view, runs_at, tally_view, tellers_view, total}
use Rattle.table_runs.specs.RunKeys.{book_in}
use Rattle.table_runs.specs.Spans.{ends_span, span_of, spans_done, spans_in, spans_inside, spans_kept, spans_made}
use Rattle.table_runs.specs.declared.done_turns.DoneTurns.{DoneTurns}

-- ---- Spans. An end and a fault end one, a drop none.
module _ (n b : TableId) (five : Arc ℕ Global) (found : FoundParts ℕ) (d : Dropping) (drops : Vec Dropping Global) where
  abbrev ended : Fate ℕ
  ended = Ended (record { task = 1; cause = Strong; start = 2; found = found; value = five; place = 3; gives = []; inner = false })

  abbrev failed : Fate ℕ
  failed = Faulted (record { task = 4; cause = Strong; start = 5; found = found; place = 7; why = Long 9 })

  abbrev dropped : Fate ℕ
  dropped = Dropped d

  abbrev rest : Fate ℕ
  rest = AllDropped drops

  fates_that_end_spans : (ends_span ended ≡ true) × (ends_span failed ≡ true) × (ends_span dropped ≡ false) × (ends_span rest ≡ false)
  fates_that_end_spans = (refl, refl, refl, refl)

  spans_of_fates : (spans_in (ended ∷ dropped ∷ failed ∷ rest ∷ []) ≡ 2) × (spans_in {V = ℕ} [] ≡ 0)
  spans_of_fates = (refl, refl)

  span_of_each : (span_of 3 ended ≡ Some (record { depth = 3; task = 1; start = 2; end = 3 })) × (span_of 0 failed ≡ Some (record { depth = 0; task = 4; start = 5; end = 7 })) × (span_of 0 dropped ≡ None) × (span_of 0 rest ≡ None)
  span_of_each = (refl, refl, refl, refl)

  spans_of_what_was_made : (run : FrameRun ℕ ℕ) → all_spans run ≡ 7 → (spans_made (Some run) ≡ 7) × (spans_made {J = ℕ} {V = ℕ} None ≡ 0)
  spans_of_what_was_made run seven = (seven, refl)

  -- Beside turns that are done are two runs, with two spans and with three.
  module _ (rows : Vec (InnerRow ℕ ℕ) Global) (r s : InnerRow ℕ ℕ) (two_rows : rows.items ≡ r ∷ s ∷ []) (two : spans_of_row r ≡ 2) (three : spans_of_row s ≡ 3) where
    abbrev done : DoneTurns ℕ ℕ
    done = record { batch = batch_state (Some n) (ended ∷ dropped ∷ []) 4; inner = rows }

    spans_of_both_runs : spans_inside done ≡ 5
    spans_of_both_runs = omega (arith, ap (λ (items : List (InnerRow ℕ ℕ)). sum (map spans_of_row items)) two_rows, two, three)

    spans_of_turns_and_runs : spans_done done ≡ 6
    spans_of_turns_and_runs = ap (λ (k : ℕ). 1 + k) spans_of_both_runs

  spans_of_a_keeper : spans_kept {J = ℕ} {V = ℕ} (record { job = 2; keeper = keeper_state n (ended ∷ failed ∷ dropped ∷ []) (1 ∷ []); inside = 5; book = Some b }) ≡ 7
  spans_of_a_keeper = refl

-- ---- What a book says, a teller, a run that goes on, and an outermost run with tellers.
module _ (b : TableId) (book : SpanBook) where
  name_of_its_table : book.table.shared.table_id ≡ b → name_of book ≡ b
  name_of_its_table is = is

  tellers_of_its_key : book.table.shared.key ≡ 2 → (all_tellers book ≡ 2) × ¬ (all_tellers book ≡ 3)
  tellers_of_its_key two = (two, λ three. absurd (omega (arith, two, three)))

  book_of_a_run : (shared : Arc SpanBook Global) → name_of (arc_value shared) ≡ b → (book_in (Some shared) ≡ Some b) × (book_in None ≡ None)
  book_of_a_run shared is = (ap Some is, refl)

  teller_with_what_it_told : ((teller_state b 4).book ≡ b) × ((teller_state b 4).told ≡ 4)
  teller_with_what_it_told = (refl, refl)

  run_with_its_account : ((spans_state b 1 7 3 2).book ≡ b) × ((spans_state b 1 7 3 2).depth ≡ 1) × ((spans_state b 1 7 3 2).noted ≡ 7) × ((spans_state b 1 7 3 2).opened ≡ 3) × ((spans_state b 1 7 3 2).back ≡ 2)
  run_with_its_account = (refl, refl, refl, refl, refl)

  run_that_has_begun : no_spans b 2 ≡ spans_state b 2 0 0 0
  run_that_has_begun = refl

  run_with_tellers : ((tally_state b 2 6 7 3).book ≡ b) × ((tally_state b 2 6 7 3).tellers ≡ 2) × ((tally_state b 2 6 7 3).told ≡ 6) × ((tally_state b 2 6 7 3).noted ≡ 7) × ((tally_state b 2 6 7 3).opened ≡ 3)
  run_with_tellers = (refl, refl, refl, refl, refl)

-- ---- The rule of a book: each view is backed, and the totals over all views agree.
abbrev AreBacked : List SpanView → Type 0
AreBacked [] = Unit {0}
AreBacked (v ∷ vs) = IsBacked v × AreBacked vs

each_backed : (views : List SpanView) → AreBacked views → (i : ℕ) (v : SpanView) → get_elem? views i ≡ some v → IsBacked v
each_backed [] all i v at = absurd (some-ne-none v (sym at))
each_backed (x ∷ xs) all zero v at = subst IsBacked (some-injective x v at) all.0
each_backed (x ∷ xs) all (suc i) v at = each_backed xs all.1 i v at

teller_is_backed : (told : ℕ) → IsBacked (tellers_view 1 told)
teller_is_backed told = record { by_run = λ none. refl; by_teller = λ none. absurd (omega (arith, none)) }

run_is_backed : (depth noted opened back : ℕ) → IsBacked (run_view depth noted opened back)
run_is_backed depth noted opened back = record { by_run = λ none. absurd (omega (arith, none)); by_teller = λ none. refl }

noted_by_no_run : ¬ IsBacked (record (tellers_view 1 4) { noted = 4 })
noted_by_no_run is = absurd (omega (arith, is.by_run refl))

opened_by_no_run : ¬ IsBacked (record (tellers_view 1 4) { opened = 1 })
opened_by_no_run is = absurd (omega (arith, is.by_run refl))

back_in_no_run : ¬ IsBacked (record (tellers_view 1 4) { back = 1 })
back_in_no_run is = absurd (omega (arith, is.by_run refl))

told_by_no_teller : ¬ IsBacked (record (run_view 0 0 0 0) { told = 3 })
told_by_no_teller is = absurd (omega (arith, is.by_teller refl))

-- of the runs that were opened at a depth each is open or came back
abbrev IsEven : ℕ → List SpanView → Type 0
IsEven d views = total (runs_at (suc d)) views + total (back_at d) views ≡ total (opened_at d) views

-- Two tellers told four spans and three, and the outermost run noted as many.
abbrev with_tellers : List SpanView → List SpanView
with_tellers runs = tellers_view 1 4 ∷ tellers_view 1 3 ∷ runs

tellers_and_a_run : KeepsBook 2 (with_tellers (run_view 0 7 0 0 ∷ []))
tellers_and_a_run = record {
  each = each_backed (with_tellers (run_view 0 7 0 0 ∷ [])) (teller_is_backed 4, (teller_is_backed 3, (run_is_backed 0 7 0 0, tt)));
  all_tellers = refl;
  outermost = refl;
  spans = refl;
  inside = none_opened;
}
  where
    none_opened : (d : ℕ) → IsEven d (with_tellers (run_view 0 7 0 0 ∷ []))
    none_opened zero = refl
    none_opened (suc d) = refl

-- a run that is open inside it noted two of them
a_run_inside : KeepsBook 2 (with_tellers (run_view 0 5 1 0 ∷ run_view 1 2 0 0 ∷ []))
a_run_inside = record {
  each = each_backed (with_tellers (run_view 0 5 1 0 ∷ run_view 1 2 0 0 ∷ [])) (teller_is_backed 4, (teller_is_backed 3, (run_is_backed 0 5 1 0, (run_is_backed 1 2 0 0, tt))));
  all_tellers = refl;
  outermost = refl;
  spans = refl;
  inside = one_opened;
}
  where
    one_opened : (d : ℕ) → IsEven d (with_tellers (run_view 0 5 1 0 ∷ run_view 1 2 0 0 ∷ []))
    one_opened zero = refl
    one_opened (suc zero) = refl
    one_opened (suc (suc d)) = refl

unbacked : ¬ KeepsBook 1 (record (tellers_view 1 4) { noted = 4 } ∷ run_view 0 0 0 0 ∷ [])
unbacked keeps = noted_by_no_run (keeps.each 0 (record (tellers_view 1 4) { noted = 4 }) refl)

a_teller_too_many : ¬ KeepsBook 3 (with_tellers (run_view 0 7 0 0 ∷ []))
a_teller_too_many keeps = absurd (omega (arith, keeps.all_tellers))

two_outermost : ¬ KeepsBook 2 (with_tellers (run_view 0 7 0 0 ∷ run_view 0 0 0 0 ∷ []))
two_outermost keeps = absurd (omega (arith, keeps.outermost))

none_outermost : ¬ KeepsBook 2 (tellers_view 2 0 ∷ [])
none_outermost keeps = absurd (omega (arith, keeps.outermost))

told_and_not_noted : ¬ KeepsBook 2 (with_tellers (run_view 0 6 0 0 ∷ []))
told_and_not_noted keeps = absurd (omega (arith, keeps.spans))

a_run_that_was_not_opened : ¬ KeepsBook 2 (with_tellers (run_view 0 5 0 0 ∷ run_view 1 2 0 0 ∷ []))
a_run_that_was_not_opened keeps = absurd (omega (arith, keeps.inside 0))

a_run_that_is_lost : ¬ KeepsBook 2 (with_tellers (run_view 0 7 1 0 ∷ []))
a_run_that_is_lost keeps = absurd (omega (arith, keeps.inside 0))

a_run_that_is_back_and_open : ¬ KeepsBook 2 (with_tellers (run_view 0 5 1 1 ∷ run_view 1 2 0 0 ∷ []))
a_run_that_is_back_and_open keeps = absurd (omega (arith, keeps.inside 0))

-- a run inside it can't be two runs further in
a_run_too_deep : ¬ KeepsBook 2 (with_tellers (run_view 0 5 1 0 ∷ run_view 2 2 0 0 ∷ []))
a_run_too_deep keeps = absurd (omega (arith, keeps.inside 0))

tellers_of_a_new_book : KeepsBook 2 (first_view 2 ∷ []) × ¬ KeepsBook 3 (first_view 2 ∷ [])
tellers_of_a_new_book = (record { each = each_backed (first_view 2 ∷ []) (record { by_run = λ none. absurd (omega (arith, none)); by_teller = λ none. refl }, tt); all_tellers = refl; outermost = refl; spans = refl; inside = none_opened }, λ keeps. absurd (omega (arith, keeps.all_tellers)))
  where
    none_opened : (d : ℕ) → IsEven d (first_view 2 ∷ [])
    none_opened zero = refl
    none_opened (suc d) = refl

-- With all tellers the outermost run noted what they told; with one of two nothing is said.
settled_with_all : IsSettled 2 (tally_view 2 7 7 0) × ¬ IsSettled 2 (tally_view 2 7 6 0) × IsSettled 2 (tally_view 1 4 7 0)
settled_with_all = ((λ all. refl), (λ is. absurd (omega (arith, is refl))), λ all. absurd (omega (arith, all)))

-- A run comes back to one at the depth around it, with all that was opened in it, and with no teller.
comes_back : MayComeBack (run_view 0 5 1 0) (run_view 1 2 3 3)
comes_back = record { around = refl; inner = refl; depth = refl; all_back = refl; tellers = refl; told = refl }

comes_back_to_no_run : ¬ MayComeBack (tellers_view 1 5) (run_view 1 2 3 3)
comes_back_to_no_run is = absurd (omega (arith, is.around))

comes_back_from_too_deep : ¬ MayComeBack (run_view 0 5 1 0) (run_view 2 2 3 3)
comes_back_from_too_deep is = absurd (omega (arith, is.depth))

comes_back_with_one_open : ¬ MayComeBack (run_view 0 5 1 0) (run_view 1 2 3 2)
comes_back_with_one_open is = absurd (omega (arith, is.all_back))

greatest_count : (capped 18446744073709551615 ≡ 18446744073709551615) × (capped 18446744073709551616 ≡ 18446744073709551615)
greatest_count = (refl, refl)
