-- What the calls of a turn ask of its seat, whose lots come after all other notes.
use Rattle.std.proofs.Common.{◌≡◌, ◌<◌, ◌≤◌, ℕ, List, [], ◌∷◌, ◌++◌, length, Option, Some, None, refl, sym, ap, ◌∙◌, subst, arith}
use Rattle.std.specs.Prelude.{false, nat_lt}
use Rattle.journal_rules.specs.SemaphoreRule.{max_of}
use Rattle.std.proofs.lemmas.List.{append-nil}
use Rattle.task_graph.specs.NetRows.{NetRows}
use Rattle.journal_rules.specs.declared.entry.Cause.{Cause}
use Rattle.journal_rules.specs.declared.entry.Part.{Part}
use Rattle.journal_rules.specs.declared.entry.DropWhy.{DropWhy}
use Rattle.journal_rules.specs.declared.entry.DropWhy.TheVariants.{Limit, Stuck, Halted as AfterFault}
use Rattle.journal_rules.specs.declared.entry.Entry.TheVariants.{Start, Drop}
use Rattle.table_steps.specs.Giving.{times}
use Rattle.table_steps.specs.declared.view.TurnDuty.TheVariants.{Told, Collecting, Owes}
use Rattle.table_steps.specs.declared.view.SeatMark.TheVariants.{Live}
use Rattle.table_steps.specs.declared.view.Note.{Note}
use Rattle.table_steps.specs.declared.view.Note.TheVariants.{Duty, Has}
use Rattle.table_steps.specs.inside.Accounts.{resting}
use Rattle.table_steps.specs.inside.Slots.{awaited_lots, found_lots, our_lots, FindsFirst, after_lots}
use Rattle.table_steps.specs.inside.Kinds.{IsTurn, MayAdmit}
use Rattle.table_steps.specs.inside.UnitKinds.{MayTake, after_unit, took_unit, MayUndo, MayPut, MayReturn}
use Rattle.table_steps.specs.inside.Halts.{MayAsk, halt_read, MayDrop, dropped}
use Rattle.table_steps.proofs.Totals.{weigh_append}
use Rattle.table_steps.proofs.SlotViews.{found_weigh, awaited_weigh, our_weigh, finds_found, found_after}
use Rattle.join_tables.specs.declared.turns.EndedStart.{EndedStart}
use Rattle.join_tables.specs.declared.fates.Dropping.{Dropping}
use Rattle.join_tables.specs.Keeping.{drop_of}
use Rattle.join_tables.specs.inside.Seated.{collecting_view, turn_view, ticket_view, owing_view, IsSpent}
use Rattle.join_tables.proofs.TurnViews.{Refuses}

-- one that collects is a turn
pub collecting_turn : (t : ℕ) (cause : Cause) (taken : List ℕ) (parts : List Part) (left : List ℕ) → IsTurn (collecting_view t cause taken parts left)
collecting_turn t cause taken parts left = (omega (arith, weigh_append resting (found_lots taken parts) (awaited_lots left), found_weigh resting taken parts, awaited_weigh resting left), omega arith)

-- and so is one that may start
pub ticket_turn : (t : ℕ) (cause : Cause) (taken : List ℕ) (parts : List Part) (held : List ℕ) → IsTurn (ticket_view t cause taken parts held)
ticket_turn t cause taken parts held = (omega (arith, found_weigh resting taken parts), omega arith)

-- HALT LOAD and ADMISSION
pub may_ask_turn : (t : ℕ) (cause : Cause) (taken : List ℕ) (parts : List Part) (held : List ℕ) (v : List Note) → v ≡ turn_view t cause taken parts None held → MayAsk v
may_ask_turn t cause taken parts held v is = subst MayAsk (sym is) (omega (arith, found_weigh resting taken parts))

pub may_admit_turn : (t : ℕ) (cause : Cause) (taken : List ℕ) (parts : List Part) (held : List ℕ) (n : ℕ) (v : List Note) → v ≡ halt_read n (turn_view t cause taken parts None held) → n ≡ 0 → MayAdmit v
may_admit_turn t cause taken parts held n v is none = subst MayAdmit (sym (is ∙ ap (λ k. halt_read k (turn_view t cause taken parts None held)) none)) (omega (arith, found_weigh resting taken parts))

-- UNIT TAKEN
pub may_take_turn : (net : NetRows) (a t : ℕ) (cause : Cause) (taken : List ℕ) (parts : List Part) (held : List ℕ) (v : List Note) → v ≡ turn_view t cause taken parts None held → a < length net.sems → MayTake net a v
may_take_turn net a t cause taken parts held v is below = subst (λ u. MayTake net a u) (sym is) (below, found_weigh resting taken parts)

pub may_undo_turn : (net : NetRows) (a n t : ℕ) (cause : Cause) (taken : List ℕ) (parts : List Part) (held : List ℕ) (v : List Note) → v ≡ took_unit net a n (turn_view t cause taken parts None held) → nat_lt n (max_of net a) ≡ false → a < length net.sems → MayUndo net a v
may_undo_turn net a n t cause taken parts held v is full below = subst (λ u. MayUndo net a u) (sym (is ∙ ap (λ q. after_unit q a (Collecting t cause taken []) held ++ found_lots taken parts) full)) (refl, below, omega (arith, found_weigh resting taken parts))

-- UNIT BACK
pub may_put_turn : (net : NetRows) (a t : ℕ) (cause : Cause) (taken : List ℕ) (parts : List Part) (r : Option DropWhy) (held : List ℕ) (v : List Note) → v ≡ turn_view t cause taken parts r held → Refuses r → 1 ≤ times a held → a < length net.sems → MayPut net a v
may_put_turn net a t cause taken parts None held v is fits there below = subst (λ u. MayPut net a u) (sym is) (there, below, found_weigh resting taken parts)
may_put_turn net a t cause taken parts (Some Limit) held v is fits there below = subst (λ u. MayPut net a u) (sym is) (there, below, found_weigh resting taken parts)
may_put_turn net a t cause taken parts (Some AfterFault) held v is fits there below = subst (λ u. MayPut net a u) (sym is) (there, below, found_weigh resting taken parts)
may_put_turn net a t cause taken parts (Some (Stuck s)) held v is fits there below = absurd fits

-- DROP DRAWN
pub record DropsTurn (why : DropWhy) (t : ℕ) (cause : Cause) (v : List Note) : Type 0 where
  pub may : MayDrop v
  pub turn : (n : ℕ) → IsTurn (dropped n v)
  pub spent : (d : Dropping) → d.task ≡ t → d.cause ≡ cause → d.why ≡ why → IsSpent (drop_of d ∷ []) (dropped d.place v)

pub drops_turn : (t : ℕ) (cause : Cause) (taken : List ℕ) (parts : List Part) (why : DropWhy) (v : List Note) → length parts ≡ length taken → v ≡ turn_view t cause taken parts (Some why) [] → Refuses (Some why) → DropsTurn why t cause v
drops_turn t cause taken parts Limit v same is fits = let none = ap (after_lots taken) (sym (append-nil (found_lots taken parts))) ∙ found_after taken parts [] same in subst (λ u. DropsTurn Limit t cause u) (sym is) record {
  may = (subst (λ l. FindsFirst taken l) (append-nil (found_lots taken parts)) (finds_found taken parts [] same), found_weigh resting taken parts);
  turn = λ n. subst (λ l. IsTurn (Duty (Owes []) ∷ Has Live ∷ Duty (Told n (Drop t cause Limit)) ∷ l)) (sym none) (refl, omega arith);
  spent = λ d task_is cause_is why_is. subst (λ l. IsSpent (drop_of d ∷ []) (Duty (Owes []) ∷ Has Live ∷ Duty (Told d.place (Drop t cause Limit)) ∷ l)) (sym none) (λ i. Duty (Told d.place (Drop (sym task_is i) (sym cause_is i) (sym why_is i))) ∷ [], refl);
}
drops_turn t cause taken parts AfterFault v same is fits = let none = ap (after_lots taken) (sym (append-nil (found_lots taken parts))) ∙ found_after taken parts [] same in subst (λ u. DropsTurn AfterFault t cause u) (sym is) record {
  may = (subst (λ l. FindsFirst taken l) (append-nil (found_lots taken parts)) (finds_found taken parts [] same), found_weigh resting taken parts);
  turn = λ n. subst (λ l. IsTurn (Duty (Owes []) ∷ Has Live ∷ Duty (Told n (Drop t cause AfterFault)) ∷ l)) (sym none) (refl, omega arith);
  spent = λ d task_is cause_is why_is. subst (λ l. IsSpent (drop_of d ∷ []) (Duty (Owes []) ∷ Has Live ∷ Duty (Told d.place (Drop t cause AfterFault)) ∷ l)) (sym none) (λ i. Duty (Told d.place (Drop (sym task_is i) (sym cause_is i) (sym why_is i))) ∷ [], refl);
}
drops_turn t cause taken parts (Stuck s) v same is fits = absurd fits

-- UNIT BACK, after an End
pub may_return_unit : {V : Type 0} (net : NetRows) (a : ℕ) (ended : EndedStart V) (left units : List ℕ) (v : List Note) → v ≡ owing_view ended left units → 1 ≤ times a units → a < length net.sems → MayReturn net a v
may_return_unit net a ended left units v is there below = let told = Duty (Told ended.start (Start ended.task ended.cause ended.found.parts)) ∷ [] in
    subst (λ u. MayReturn net a u) (sym is) (there, below, omega (arith, weigh_append resting (our_lots ended.place left) told, our_weigh resting ended.place left))
