-- What the steps on the words of starts, halts and live turns ask is met.
use Rattle.std.proofs.Common.{◌≡◌, ◌≢◌, ℕ, zero, suc, ◌+◌, ◌%◌, ◌^◌, ◌<◌, ◌≤◌, Bool, true, false, List, [], ◌∷◌, length, set, refl, sym, ap, ◌∙◌, arith}
use Rattle.std.specs.Prelude.{slice_index, count_by}
use mathlib.Core.Option.{some}
use lib.ListN.{get_elem?}
use Rattle.atomic_table.specs.Table.{keeps, stepped}
use Rattle.task_graph.specs.NetRows.{NetRows}
use Rattle.journal_rules.specs.declared.entry.Entry.{Entry}
use Rattle.journal_rules.specs.declared.entry.Entry.TheVariants.{Start, End, Fault, Drop}
use Rattle.journal_rules.specs.declared.entry.Part.{Part}
use Rattle.table_steps.specs.declared.view.TurnDuty.{TurnDuty}
use Rattle.table_steps.specs.declared.view.TurnDuty.TheVariants.{Ticket, Owes}
use Rattle.table_steps.specs.Giving.{one_if}
use Rattle.table_steps.specs.declared.view.SeatMark.TheVariants.{Live, New, Over, ToMark, Halted, Alone, Quiet, Sticking, Asked}
use Rattle.table_steps.specs.declared.view.Note.{Note}
use Rattle.table_steps.specs.declared.view.Note.TheVariants.{Duty, Sems, Has, Unfit, Lies, Queued}
use Rattle.table_steps.specs.inside.Accounts.{Coord, duty, sem, turning, owing, mark, busy, resting, telling, weight, weigh, total, is_drop, reading, KeepsAccounts}
use Rattle.table_steps.proofs.Totals.{total_swap}
use Rattle.table_steps.proofs.Views.{at_most}
use Rattle.table_steps.proofs.Stepping.{St, own_lone, after_step, still_slots, still_step}
use Rattle.table_steps.proofs.SlotViews.{slots_same, holds_same, owes_none}
use Rattle.table_steps.proofs.Reading.{live_read, admitted_read}
use Rattle.table_steps.proofs.Journals.{count_cons}
use Rattle.table_steps.specs.inside.Accounts.{with_admitted, with_live}
use Rattle.table_steps.proofs.Marking.{admit_kept, over_kept, added_kept, off_kept}
use Rattle.table_steps.proofs.UnitSteps.{total_less, lowered}
use Rattle.journal_rules.specs.Complete.{is_limited}

-- turns that were refused at the limit are no more than live turns
over_lives : (x : Note) → weight (mark Over) x ≤ weight (mark Live) x
over_lives (Duty i) = omega arith
over_lives (Sems k l) = omega arith
over_lives (Has Live) = omega arith
over_lives (Has New) = omega arith
over_lives (Has Over) = omega arith
over_lives (Has ToMark) = omega arith
over_lives (Has Halted) = omega arith
over_lives (Has Alone) = omega arith
over_lives (Has Quiet) = omega arith
over_lives (Has Sticking) = omega arith
over_lives (Has Asked) = omega arith
over_lives (Unfit z n t) = omega arith
over_lives (Lies k e p) = omega arith
over_lives (Queued q qs) = omega arith

limited_drops : (xs : List Entry) → count_by is_limited xs ≤ count_by is_drop xs
limited_drops [] = omega arith
limited_drops (x ∷ xs) = omega (arith, limited_drops xs, count_cons is_limited x xs, count_cons is_drop x xs, one x)
  where
    bit : (b : Bool) → one_if b ≤ 1
    bit true = omega arith
    bit false = omega arith

    one : (x : Entry) → one_if (is_limited x) ≤ one_if (is_drop x)
    one (Start t c i) = omega arith
    one (End n g i) = omega arith
    one (Fault n w) = omega arith
    one (Drop t c w) = bit (is_limited (Drop t c w))

admitted_small : {S : Type 0} {part : S → List Part} (net : NetRows) (limit : ℕ) (s : St S) (h : KeepsAccounts part net limit s) → slice_index s.words 24 ≤ 2097153 + 1152921504606846976 + 1152921504606846976
admitted_small net limit s h = let a = h.balanced.by_admissions in
    omega (arith, a.drawn, a.room, h.fits.limited, h.few, h.few_drops, limited_drops h.journal, total_less (mark Over) (mark Live) over_lives s.views)

-- that a turn has looked for the halt mark counts nothing
pub asked_none : (c : Coord) → weight c (Has Asked) ≡ 0
asked_none (duty c) = refl
asked_none (sem k s) = refl
asked_none (mark Live) = refl
asked_none (mark New) = refl
asked_none (mark Over) = refl
asked_none (mark ToMark) = refl
asked_none (mark Halted) = refl
asked_none (mark Alone) = refl
asked_none (mark Quiet) = refl
asked_none (mark Sticking) = refl
asked_none (mark Asked) = refl
asked_none busy = refl
asked_none resting = refl
asked_none turning = refl
asked_none owing = refl
asked_none telling = refl

-- an admission drawn
pub admit_drawn : {S : Type 0} {part : S → List Part} (net : NetRows) (limit : ℕ) (s : St S) (h : KeepsAccounts part net limit s) (id : ℕ) (carried : List (ℕ × S)) (x : TurnDuty) (rest : List Note) → weigh resting rest ≡ 0 → get_elem? s.views id ≡ some (Duty x ∷ Has Live ∷ Has Asked ∷ rest) → slice_index s.words 24 < limit
    → KeepsAccounts part net limit (stepped s 24 ((slice_index s.words 24 + 1) % 2 ^ 64) id carried (Duty x ∷ Duty Ticket ∷ Has Live ∷ rest) keeps)
admit_drawn net limit s h id carried x rest lone at found =
    let old = Duty x ∷ Has Live ∷ Has Asked ∷ [] in let new = Duty x ∷ Duty Ticket ∷ Has Live ∷ [] in
    let sum : (slice_index s.words 24 + 1) % 18446744073709551616 ≡ suc (slice_index s.words 24) = omega (arith, admitted_small net limit s h) in
    still_step net limit s h id 24 _ carried old new rest _ at refl (λ e b z. omega arith)
    (own_lone net h.journal (λ c. total c s.views) old new rest ((h.views id _ at).stand.0, (tt, (tt, tt))) (omega arith) (omega arith) (omega (arith, lone))) (omega arith)
    (admitted_read net s.words _ (omega (arith, h.size)) ∙ ap (with_admitted (reading net s.words)) sum)
    refl (λ moved. admit_kept net limit (reading net s.words) h.counted h.journal (λ c. total c s.views) _ h.balanced found (λ c. omega (arith, moved c, asked_none c)))

-- and one too many
pub over_drawn : {S : Type 0} {part : S → List Part} (net : NetRows) (limit : ℕ) (s : St S) (h : KeepsAccounts part net limit s) (id : ℕ) (carried : List (ℕ × S)) (x : TurnDuty) (rest : List Note) → weigh resting rest ≡ 0 → get_elem? s.views id ≡ some (Duty x ∷ Has Live ∷ Has Asked ∷ rest) → limit ≤ slice_index s.words 24
    → KeepsAccounts part net limit (stepped s 24 ((slice_index s.words 24 + 1) % 2 ^ 64) id carried (Duty x ∷ Has Over ∷ rest) keeps)
over_drawn net limit s h id carried x rest lone at found =
    let old = Duty x ∷ Has Live ∷ Has Asked ∷ [] in let new = Duty x ∷ Has Over ∷ [] in
    let sum : (slice_index s.words 24 + 1) % 18446744073709551616 ≡ suc (slice_index s.words 24) = omega (arith, admitted_small net limit s h) in
    still_step net limit s h id 24 _ carried old new rest _ at refl (λ e b z. omega arith)
    (own_lone net h.journal (λ c. total c s.views) old new rest ((h.views id _ at).stand.0, (tt, tt)) (omega arith) (omega arith) (omega (arith, lone))) (omega arith)
    (admitted_read net s.words _ (omega (arith, h.size)) ∙ ap (with_admitted (reading net s.words)) sum)
    refl (λ moved. over_kept net limit (reading net s.words) h.counted h.journal (λ c. total c s.views) _ h.balanced found (λ c. omega (arith, moved c, asked_none c)))

-- a turn added
pub turn_added : {S : Type 0} {part : S → List Part} (net : NetRows) (limit : ℕ) (s : St S) (h : KeepsAccounts part net limit s) (id : ℕ) (carried : List (ℕ × S)) (x : TurnDuty) (rest : List Note) → weigh resting rest ≡ 0 → 1 ≤ weigh (mark Live) rest → get_elem? s.views id ≡ some (Duty x ∷ Has New ∷ rest)
    → total (mark Live) s.views + 1 ≤ 1152921504606846976 → KeepsAccounts part net limit (stepped s 16 ((slice_index s.words 16 + 1) % 2 ^ 64) id carried (Duty x ∷ Has Live ∷ rest) keeps)
turn_added net limit s h id carried x rest lone lives at few =
    let old = Duty x ∷ Has New ∷ [] in let new = Duty x ∷ Has Live ∷ [] in
    let sum : (slice_index s.words 16 + 1) % 18446744073709551616 ≡ suc (slice_index s.words 16) = omega (arith, h.balanced.by_live, few) in
    after_step net limit s h id 16 _ carried old new rest h.journal h.counted _ at (holds_same old new refl) (λ e b z. omega arith) (λ v stand. stand)
    (own_lone net h.journal (λ c. total c s.views) old new rest ((h.views id _ at).stand.0, (tt, tt)) (omega (arith, lives)) (omega arith) (omega (arith, lone)))
    (omega (arith, few, total_swap (mark Live) s.views id old new rest at)) h.few_drops
    (live_read net s.words _ (omega (arith, h.size)) ∙ ap (with_live (reading net s.words)) sum)
    (still_slots net limit s h _ _ old new (slots_same old new refl) refl)
    (λ moved. added_kept net limit (reading net s.words) h.counted h.journal (λ c. total c s.views) _ h.balanced (λ c. omega (arith, moved c)))

-- a turn taken off
pub turn_off : {S : Type 0} {part : S → List Part} (net : NetRows) (limit : ℕ) (s : St S) (h : KeepsAccounts part net limit s) (id : ℕ) (carried : List (ℕ × S)) (rest : List Note) → (weigh (mark Live) rest ≡ 0 → weigh busy rest ≡ 0) → (id ≢ 0 → weigh (mark Live) rest ≡ 0 → weigh telling rest ≡ 0) → get_elem? s.views id ≡ some (Duty (Owes []) ∷ Has Live ∷ rest) → slice_index s.words 16 < 18446744073709551616
    → KeepsAccounts part net limit (stepped s 16 ((slice_index s.words 16 + 18446744073709551615) % 2 ^ 64) id carried rest keeps)
turn_off net limit s h id carried rest covered telling_all at small =
    let p = h.views id (Duty (Owes []) ∷ Has Live ∷ rest) at in
    let there : 1 ≤ slice_index s.words 16 = omega (arith, h.balanced.by_live, at_most (mark Live) s.views id (Duty (Owes []) ∷ Has Live ∷ rest) at) in
    let less = lowered (slice_index s.words 16) 0 there small in
    let old = Duty (Owes []) ∷ Has Live ∷ [] in
    after_step net limit s h id 16 _ carried old [] rest h.journal h.counted _ at (λ e. (refl, refl)) (λ e b z. omega arith) (λ v stand. stand)
    (record {
      lives = omega arith;
      stand = tt;
      covered = covered;
      told = telling_all;
      alone = λ more. p.alone (λ none. more (omega (arith, none)));
      quiet = λ more. p.quiet (λ none. more (omega (arith, none)));
      full = λ z more. p.full z (λ none. more (omega (arith, none)));
    }) (omega (arith, h.few, total_swap (mark Live) s.views id old [] rest at)) h.few_drops
    (live_read net s.words _ (omega (arith, h.size)))
    (still_slots net limit s h _ _ old [] (λ c. sym (slots_same (Duty (Owes []) ∷ []) old refl c ∙ owes_none c)) refl)
    (λ moved. off_kept net limit (reading net s.words) h.counted h.journal (λ c. total c s.views) _ _ h.balanced less moved)

-- A step that changes no word.
pub reads_same : (net : NetRows) (words : List ℕ) (i : ℕ) → i < length words → set words i (slice_index words i) ≡ words
reads_same net [] i below = absurd (omega arith)
reads_same net (w ∷ ws) zero below = refl
reads_same net (w ∷ ws) (suc i) below = ap (λ r. w ∷ r) (reads_same net ws i (omega arith))
