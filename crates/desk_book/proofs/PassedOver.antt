-- Where no ask may be taken, each that waits is of a graph of which another was taken and has not ended.
use Rattle.std.proofs.Common.{◌≡◌, ◌≢◌, ◌⊎◌, inl, inr, ℕ, zero, suc, ◌<◌, List, Option, Some, None, refl, sym, ap, ◌∙◌, subst, arith}
use Rattle.std.specs.Prelude.{slice_get}
use Rattle.std.proofs.lemmas.Bool.{cases_eq}
use Rattle.desk_book.specs.declared.entry.Ask.{Ask}
use Rattle.desk_book.specs.declared.entry.DeskEntry.{DeskEntry}
use Rattle.desk_book.specs.declared.turn.Turn.{Turn}
use Rattle.desk_book.specs.declared.turn.Turn.TheVariants.{Waiting, Open, Over}
use Rattle.desk_book.specs.Histories.{asks_of, turn_of, IsOver, EarlierOver, NoneMayBeTaken, IsBusy, EachIsPassedOver}
use Rattle.desk_book.proofs.Lists.{some_same}
use Rattle.desk_book.proofs.Turning.{may_of}

-- an ask of a graph before a number that has not ended
record Unended (history : List DeskEntry) (graph n : ℕ) : Type 0 where
  number : ℕ
  older : Ask
  before : number < n
  asked : slice_get (asks_of history) number ≡ Some older
  of_graph : older.graph ≡ graph
  not_over : IsOver (turn_of history number) → ⊥

over_or : (t : Turn) → IsOver t ⊎ (IsOver t → ⊥)
over_or Waiting = inr (λ over. over)
over_or Open = inr (λ over. over)
over_or (Over whole) = inl tt

-- each earlier ask of a graph has ended, or one has not
look : (history : List DeskEntry) (graph n : ℕ) → EarlierOver (asks_of history) (turn_of history) graph n ⊎ Unended history graph n
look history graph zero = inl (λ m older less at of. absurd (omega (arith, less)))
look history graph (suc n) = by_rest (look history graph n)
  where
    at_last : (o : Option Ask) → slice_get (asks_of history) n ≡ o → EarlierOver (asks_of history) (turn_of history) graph n → EarlierOver (asks_of history) (turn_of history) graph (suc n) ⊎ Unended history graph (suc n)
    at_last None at all = inl each
      where
        each : EarlierOver (asks_of history) (turn_of history) graph (suc n)
        each m older less at_m of = by_case (cases_eq m n)
          where
            by_case : (m ≡ n) ⊎ (m ≢ n) → IsOver (turn_of history m)
            by_case (inl e) = absurd (let both : None ≡ Some older = sym at ∙ ap (slice_get (asks_of history)) (sym e) ∙ at_m in cc)
            by_case (inr other) = all m older (omega (arith, less, other)) at_m of
    at_last (Some last) at all = by_graph (cases_eq last.graph graph) (over_or (turn_of history n))
      where
        each : (last.graph ≡ graph → IsOver (turn_of history n)) → EarlierOver (asks_of history) (turn_of history) graph (suc n)
        each ends m older less at_m of = by_case (cases_eq m n)
          where
            by_case : (m ≡ n) ⊎ (m ≢ n) → IsOver (turn_of history m)
            by_case (inl e) = subst (λ k. IsOver (turn_of history k)) (sym e) (ends (ap (λ (a : Ask). a.graph) (some_same (sym at ∙ ap (slice_get (asks_of history)) (sym e) ∙ at_m)) ∙ of))
            by_case (inr other) = all m older (omega (arith, less, other)) at_m of

        by_graph : (last.graph ≡ graph) ⊎ (last.graph ≢ graph) → IsOver (turn_of history n) ⊎ (IsOver (turn_of history n) → ⊥) → EarlierOver (asks_of history) (turn_of history) graph (suc n) ⊎ Unended history graph (suc n)
        by_graph (inr other) o = inl (each (λ same. absurd (other same)))
        by_graph (inl same) (inl over) = inl (each (λ e. over))
        by_graph (inl same) (inr not_over) = inr (record { number = n; older = last; before = omega arith; asked = at; of_graph = same; not_over = not_over })

    by_rest : EarlierOver (asks_of history) (turn_of history) graph n ⊎ Unended history graph n → EarlierOver (asks_of history) (turn_of history) graph (suc n) ⊎ Unended history graph (suc n)
    by_rest (inl all) = at_last (slice_get (asks_of history) n) refl all
    by_rest (inr u) = inr (record { number = u.number; older = u.older; before = omega (arith, u.before); asked = u.asked; of_graph = u.of_graph; not_over = u.not_over })

-- it is open, or one before it waits
by_turn : (history : List DeskEntry) (graph n : ℕ) (u : Unended history graph n) (t : Turn) → turn_of history u.number ≡ t → (turn_of history u.number ≡ Waiting → IsBusy history u.older.graph) → IsBusy history graph
by_turn history graph n u Waiting is before = subst (IsBusy history) u.of_graph (before is)
by_turn history graph n u Open is before = record { open_ask = u.older; number = u.number; asked = u.asked; of_graph = u.of_graph; is_open = is }
by_turn history graph n u (Over whole) is before = absurd (u.not_over (subst IsOver (sym is) tt))

by_look : (history : List DeskEntry) (n : ℕ) (ask : Ask) → NoneMayBeTaken history → slice_get (asks_of history) n ≡ Some ask → turn_of history n ≡ Waiting →
    ((m : ℕ) (older : Ask) → m < n → slice_get (asks_of history) m ≡ Some older → turn_of history m ≡ Waiting → IsBusy history older.graph) →
    EarlierOver (asks_of history) (turn_of history) ask.graph n ⊎ Unended history ask.graph n → IsBusy history ask.graph
by_look history n ask none at waits before (inl all) = absurd (none n (may_of (asks_of history) (turn_of history) n ask at waits all))
by_look history n ask none at waits before (inr u) = by_turn history ask.graph n u (turn_of history u.number) refl (λ is. before u.number u.older u.before u.asked is)

passed : (history : List DeskEntry) → NoneMayBeTaken history → (fuel n : ℕ) (ask : Ask) → n < fuel → slice_get (asks_of history) n ≡ Some ask → turn_of history n ≡ Waiting → IsBusy history ask.graph
passed history none zero n ask below at waits = absurd (omega (arith, below))
passed history none (suc fuel) n ask below at waits =
    by_look history n ask none at waits (λ m older less at_m waits_m. passed history none fuel m older (omega (arith, below, less)) at_m waits_m) (look history ask.graph n)

pub passed_over : (history : List DeskEntry) → NoneMayBeTaken history → EachIsPassedOver history
passed_over history none n ask at waits = passed history none (suc n) n ask (omega arith) at waits
