-- An End drawn from the clock keeps the accounts.
use Rattle.std.proofs.Common.{◌≡◌, ◌⊎◌, inl, inr, ℕ, ◌<◌, ◌≤◌, Bool, true, false, List, [], ◌∷◌, ◌++◌, length, Option, Some, None, sym, refl, ap, ◌∙◌, arith}
use Rattle.std.specs.Prelude.{◌==◌}
use Rattle.std.specs.Option.{option_map_or}
use Rattle.std.proofs.lemmas.Bool.Decides.{nat_tests}
use Rattle.std.proofs.lemmas.Bool.{cases_lt, false≢true, and_parts}
use Rattle.task_graph.specs.NetRows.{NetRows}
use Rattle.journal_rules.specs.declared.entry.Entry.{Entry}
use Rattle.journal_rules.specs.declared.entry.Entry.TheVariants.{End}
use Rattle.journal_rules.specs.Counts.{uses, is_source, start_at, is_open}
use Rattle.journal_rules.proofs.Snoc.{count_by_push}
use Rattle.journal_rules.proofs.Tallying.{count_once, given_push}
use Rattle.table_steps.specs.declared.view.TurnDuty.TheVariants.{Told, Open, Owes}
use Rattle.table_steps.specs.inside.Duties.{DutyCoord, token, source, weakly, awaits, unset, is_run, EdgePart, DutyPart, DutyMoves}
use Rattle.table_steps.specs.Giving.{MayEndGiving}
use Rattle.table_steps.proofs.Counting.{times_count, used_at_end, run_past}

-- the Start that the seat has runs
pub record Runs (journal : List Entry) (m t : ℕ) : Type 0 where
  pub opened : is_open journal m ≡ true
  pub there : start_at journal m ≡ Some t
  pub below : m < length journal

pub runs_of : (journal : List Entry) (m t : ℕ) → is_run journal m t ≡ true → Runs journal m t
runs_of journal m t h = let parts = and_parts (is_open journal m) (option_map_or (λ s. s == t) (start_at journal m) false) h in record {
  opened = parts.0;
  there = by_start (start_at journal m) refl parts.1;
  below = by_place (cases_lt m (length journal));
}
  where
    by_start : (o : Option ℕ) → start_at journal m ≡ o → option_map_or (λ s. s == t) o false ≡ true → start_at journal m ≡ Some t
    by_start None is hit = absurd (false≢true hit)
    by_start (Some s) is hit = let same : s ≡ t = grind (arith, nat_tests) in is ∙ ap (λ u. Some u) same

    by_place : (m < length journal) ⊎ (length journal ≤ m) → m < length journal
    by_place (inl before) = before
    by_place (inr after) = absurd (false≢true (sym (run_past journal m t after) ∙ h))

pub end_edges : (net : NetRows) (n : ℕ) (edge : ℕ → ℕ) (journal : List Entry) (T T' : DutyCoord → ℕ) (m t : ℕ) (gives : List ℕ) (inner : Bool)
    → EdgePart net edge journal T → MayEndGiving net t gives inner → DutyMoves T (Open m t ∷ []) T' (Owes gives ∷ Told n (End m gives inner) ∷ [])
    → EdgePart net edge (journal ++ End m gives inner ∷ []) T'
end_edges net n edge journal T T' m t gives inner b may moved e =
    omega (arith, b e, moved (token e), given_push net e journal (End m gives inner), used_at_end net e m gives inner journal, times_count e gives, count_once (λ g. g == e) gives (omega (arith, may.once e, times_count e gives)))

pub end_duties : (net : NetRows) (n : ℕ) (edge join counted : ℕ → ℕ) (journal : List Entry) (T T' : DutyCoord → ℕ) (m t : ℕ) (gives : List ℕ) (inner : Bool)
    → DutyPart net edge join counted journal T → DutyMoves T (Open m t ∷ []) T' (Owes gives ∷ Told n (End m gives inner) ∷ [])
    → DutyPart net edge join counted (journal ++ End m gives inner ∷ []) T'
end_duties net n edge join counted journal T T' m t gives inner d moved = record {
  sources = λ s is below. omega (arith, d.sources s is below, moved (source s), count_by_push (uses is_source s) journal (End m gives inner));
  weaks = λ e weak. omega (arith, d.weaks e weak, moved (weakly e));
  states = λ e strong. omega (arith, d.states e strong, moved (awaits e));
  bits = d.bits;
  joins = d.joins;
  unsets = λ s some. omega (arith, d.unsets s some, moved (unset s));
}
