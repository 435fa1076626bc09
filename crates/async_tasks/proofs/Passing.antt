-- What a pass has seen and kept after an add.
use Rattle.std.proofs.Common.{◌≡◌, ℕ, ◌+◌, ◌<◌, true, cond, eqb, List, [], ◌∷◌, ◌++◌, length, map, Some, refl, sym, ap, ◌∙◌, subst, arith}
use Rattle.std.specs.Prelude.{Result, Ok, Err, OnOk, OnErr, IfOk, IfErr}
use Rattle.std.specs.declared.alloc.Global.{Global}
use Rattle.std.specs.declared.sync.Arc.{Arc}
use Rattle.std.proofs.lemmas.Bool.Decides.{nat_tests}
use Rattle.std.proofs.lemmas.List.{append_assoc, length_push, map_push}
use Rattle.std.proofs.lemmas.List.Elements.{filter-append}
use Rattle.async_tasks.specs.declared.history.AddRow.{AddRow}
use Rattle.async_tasks.specs.declared.state.AddError.{AddError}
use Rattle.async_tasks.specs.Histories.{rows_of, kept_row, kept_of}
use Rattle.async_tasks.specs.Books.{BookHistory, key_of}
use Rattle.async_tasks.specs.Adds.{next_row, with_add, RefusesAdd}
use Rattle.async_tasks.specs.Starts.{HasSeen, rows_seen}
use Rattle.async_tasks.specs.Passes.{pass_state, HasLooked}
use Rattle.async_tasks.specs.declared.outstanding.Outstanding.{Outstanding}
use Rattle.tickets.specs.Books.{TicketState}

-- the rows of a caller after its own add
kept_more : (caller : ℕ) (rows : List AddRow) (row : AddRow) → row.caller ≡ caller → kept_of caller (rows ++ row ∷ []) ≡ kept_of caller rows ++ kept_row row ∷ []
kept_more caller rows row same =
    let hit : eqb row.caller caller ≡ true = grind (arith, nat_tests) in
    ap (map kept_row) (filter-append (λ (r : AddRow). eqb r.caller caller) rows (row ∷ []) ∙ ap (λ b. rows_of caller rows ++ cond b (row ∷ []) []) hit)
    ∙ map_push kept_row (rows_of caller rows) row

module _ {W V : Type 0} (mid new : BookHistory W V) (caller : ℕ) (work : W) (after : List ℕ) (front : List AddRow) (rows' : List AddRow) where
  pub seen_longer : (r : Result ℕ (AddError W)) → HasSeen mid.rows caller front → OnOk r (new ≡ with_add mid caller work after) → OnErr r (new ≡ mid) → rows' ≡ new.rows → (more : List AddRow) × (rows' ≡ front ++ more)
  seen_longer (Ok id) seen ok err all = (
    seen.0.0 ++ next_row mid caller after ∷ [],
    all ∙ ap (λ (b : BookHistory W V). b.rows) ok ∙ ap (λ rs. rs ++ next_row mid caller after ∷ []) seen.0.1 ∙ append_assoc front seen.0.0 (next_row mid caller after ∷ []),
  )
  seen_longer (Err e) seen ok err all = (seen.0.0, all ∙ ap (λ (b : BookHistory W V). b.rows) err ∙ seen.0.1)

  pub kept_added : (r : Result ℕ (AddError W)) → HasSeen mid.rows caller front → OnOk r (new ≡ with_add mid caller work after) → IfOk r (λ id. id ≡ length mid.rows) → rows' ≡ new.rows → IfOk r (λ id. (length rows' ≡ id + 1) × (kept_of caller rows' ≡ kept_of caller front ++ (id, after) ∷ []))
  kept_added (Ok id) seen ok number all =
      let same : rows' ≡ mid.rows ++ next_row mid caller after ∷ [] = all ∙ ap (λ (b : BookHistory W V). b.rows) ok in (
        ap length same ∙ length_push mid.rows (next_row mid caller after) ∙ ap (λ n. n + 1) (sym number),
        ap (kept_of caller) same ∙ kept_more caller mid.rows (next_row mid caller after) refl
            ∙ ap (λ rs. map kept_row rs ++ (length mid.rows, after) ∷ []) seen.1 ∙ ap (λ n. kept_of caller front ++ (n, after) ∷ []) (sym number),
      )
  kept_added (Err e) seen ok number all = tt

  pub kept_same : (r : Result ℕ (AddError W)) → HasSeen mid.rows caller front → OnErr r (new ≡ mid) → rows' ≡ new.rows → OnErr r (kept_of caller rows' ≡ kept_of caller front)
  kept_same (Ok id) seen err all = tt
  kept_same (Err e) seen err all = ap (kept_of caller) (all ∙ ap (λ (b : BookHistory W V). b.rows) err) ∙ ap (map kept_row) seen.1

  pub refused_same : (r : Result ℕ (AddError W)) (shared : Arc W Global) → OnErr r (new ≡ mid) → rows' ≡ new.rows → IfErr r (RefusesAdd (length mid.rows) shared after) → IfErr r (RefusesAdd (length rows') shared after)
  refused_same (Ok id) shared err all refused = tt
  refused_same (Err e) shared err all refused = subst (λ n. RefusesAdd n shared after e) (sym (ap length (all ∙ ap (λ (b : BookHistory W V). b.rows) err))) refused

  -- neither an add nor a refusal issues a ticket
  pub items_same : (r : Result ℕ (AddError W)) → OnOk r (new ≡ with_add mid caller work after) → OnErr r (new ≡ mid) → new.items ≡ mid.items
  items_same (Ok id) ok err = ap (λ (b : BookHistory W V). b.items) ok
  items_same (Err e) ok err = ap (λ (b : BookHistory W V). b.items) err

  pub table_same : (r : Result ℕ (AddError W)) → OnOk r (new ≡ with_add mid caller work after) → OnErr r (new ≡ mid) → key_of new ≡ key_of mid
  table_same (Ok id) ok err = ap (λ (b : BookHistory W V). key_of b) ok
  table_same (Err e) ok err = ap (λ (b : BookHistory W V). key_of b) err

-- A pass whose ticket shows all rows has looked into the book.
pub has_looked : {W V : Type 0} (caller : ℕ) (rows : List AddRow) (t u : TicketState (Outstanding W V)) → t.number < u.number → HasSeen rows caller (rows_seen t.item) → rows_seen u.item ≡ rows → HasLooked rows (pass_state caller (Some t)) (pass_state caller (Some u))
has_looked caller rows t u later seen all = record {
  again = record { caller = refl; later = later; longer = (seen.0.0, all ∙ seen.0.1) };
  all = all;
  same_kept = ap (kept_of caller) all ∙ ap (map kept_row) seen.1;
}
