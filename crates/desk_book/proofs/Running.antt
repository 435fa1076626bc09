-- The rounds that a desk keeps go on to fit.
use Rattle.std.proofs.Common.{◌≡◌, ◌≢◌, ◌⊎◌, inl, inr, ℕ, ◌+◌, ◌<◌, Bool, zero, suc, List, [], ◌∷◌, ◌++◌, length, length-set, map, set, Option, Some, None, refl, sym, ap, ◌∙◌, subst, arith, get_or}
use Rattle.std.specs.Prelude.{slice_get, All, IfSome, IfNone}
use Rattle.std.proofs.lemmas.Bool.{cases_eq}
use Rattle.std.proofs.lemmas.List.{length_push}
use Rattle.std.proofs.lemmas.List.Elements.{recursion_from_All}
use Rattle.std.proofs.lemmas.Option.{slice_get_read}
use Rattle.run_frame.specs.Meaning.{Meaning}
use Rattle.run_frame.specs.declared.run.FrameRun.{FrameRun}
use Rattle.desk_book.specs.declared.entry.Ask.{Ask}
use Rattle.desk_book.specs.declared.entry.DeskEntry.TheVariants.{Asked, Took, Ended}
use Rattle.desk_book.specs.declared.turn.Turn.{Turn}
use Rattle.desk_book.specs.declared.turn.Turn.TheVariants.{Waiting, Open, Over}
use Rattle.desk_book.specs.Histories.{asks_of, turn_of, IsOver, IsDeskHistory, NoneMayBeTaken}
use Rattle.desk_book.specs.Books.{BookHistory, with_entry}
use Rattle.desk_book.specs.Taking.{OpenAsk}
use Rattle.desk_book.specs.Changes.{TakesFirst, EndsTaken}
use Rattle.desk_book.specs.declared.desk_run.DeskRun.{DeskRun}
use Rattle.desk_book.specs.Finishes.{IsDeskRun}
use Rattle.desk_book.specs.Rounds.{AreRoundsOf, RunsFit}
use Rattle.desk_book.specs.inside.KeepsRuns.{KeepsRuns}
use Rattle.desk_book.proofs.Lists.{some_same, get_push_cases, get_in_range, get_set_there, get_set_other}
use Rattle.desk_book.proofs.Closing.{all_at}
use Rattle.desk_book.proofs.Telling.{asks_asked, asks_took, asks_ended, turn_push, turn_took_here, turn_took_other, turn_ended_here, turn_ended_other}

module _ {J V : Type 0} (meaning : Meaning J V) (jobs : List J) where
  -- no runs fit an ask that has not ended
  none_fit : (ask : Ask) (t : Turn) (runs : List (FrameRun J V)) → t ≡ Waiting → RunsFit meaning jobs ask t runs → runs ≡ []
  none_fit ask Waiting runs is fits = fits
  none_fit ask Open runs is fits = absurd (cc)
  none_fit ask (Over whole) runs is fits = absurd (cc)

  -- an ask is added, which nobody has taken
  pub asked_runs : (book book' : BookHistory) (runs runs' : List (List (FrameRun J V))) (ask : Ask) → book' ≡ with_entry book (Asked ask) → ask.number ≡ length (asks_of book.history) → turn_of book.history ask.number ≡ Waiting → runs' ≡ runs ++ [] ∷ [] →
      KeepsRuns meaning book jobs runs → KeepsRuns meaning book' jobs runs'
  asked_runs book book' runs runs' ask same number waits same_runs h = rw (same, same_runs) record {
    graph_count = h.graph_count;
    count = length_push runs [] ∙ ap (λ n. n + 1) h.count ∙ sym (ap length (asks_asked book.history ask) ∙ length_push (asks_of book.history) ask);
    rounds = fit;
  }
    where
      fit : (n : ℕ) (a : Ask) (some : List (FrameRun J V)) → slice_get (asks_of (book.history ++ Asked ask ∷ [])) n ≡ Some a → slice_get (runs ++ [] ∷ []) n ≡ Some some → RunsFit meaning jobs a (turn_of (book.history ++ Asked ask ∷ []) n) some
      fit n a some at at_runs = by_places (get_push_cases (asks_of book.history) ask a n (subst (λ xs. slice_get xs n ≡ Some a) (asks_asked book.history ask) at)) (get_push_cases runs [] some n at_runs)
        where
          by_places : (slice_get (asks_of book.history) n ≡ Some a) ⊎ ((n ≡ length (asks_of book.history)) × (ask ≡ a)) → (slice_get runs n ≡ Some some) ⊎ ((n ≡ length runs) × ([] ≡ some)) → RunsFit meaning jobs a (turn_of (book.history ++ Asked ask ∷ []) n) some
          by_places (inl old) (inl old_runs) = subst (λ t. RunsFit meaning jobs a t some) (sym (turn_push book.history (Asked ask) n)) (h.rounds n a some old old_runs)
          by_places (inl old) (inr last) = let below = get_in_range (asks_of book.history) n a old in absurd (omega (arith, below, last.0, h.count))
          by_places (inr last) (inl old_runs) = let below = get_in_range runs n some old_runs in absurd (omega (arith, below, last.0, h.count))
          by_places (inr last) (inr last_runs) =
              subst (λ t. RunsFit meaning jobs a t some) (sym (turn_push book.history (Asked ask) n ∙ ap (turn_of book.history) (last.0 ∙ sym number) ∙ waits)) (sym last_runs.1)

  -- an ask is taken
  taken_runs : (book book' : BookHistory) (runs : List (List (FrameRun J V))) (taken : OpenAsk) → TakesFirst book book' taken → KeepsRuns meaning book jobs runs → KeepsRuns meaning book' jobs runs
  taken_runs book book' runs taken takes h = subst (λ b. KeepsRuns meaning b jobs runs) (sym takes.book) record {
    graph_count = h.graph_count;
    count = h.count ∙ sym (ap length (asks_took book.history taken.ask.number));
    rounds = fit;
  }
    where
      fit : (n : ℕ) (a : Ask) (some : List (FrameRun J V)) → slice_get (asks_of (book.history ++ Took taken.ask.number ∷ [])) n ≡ Some a → slice_get runs n ≡ Some some → RunsFit meaning jobs a (turn_of (book.history ++ Took taken.ask.number ∷ []) n) some
      fit n a some at at_runs = by_case (cases_eq n taken.ask.number)
        where
          old : RunsFit meaning jobs a (turn_of book.history n) some
          old = h.rounds n a some (subst (λ xs. slice_get xs n ≡ Some a) (asks_took book.history taken.ask.number) at) at_runs

          by_case : (n ≡ taken.ask.number) ⊎ (n ≢ taken.ask.number) → RunsFit meaning jobs a (turn_of (book.history ++ Took taken.ask.number ∷ []) n) some
          by_case (inl e) =
              subst (λ t. RunsFit meaning jobs a t some) (sym (ap (turn_of (book.history ++ Took taken.ask.number ∷ [])) e ∙ turn_took_here book.history taken.ask.number))
              (none_fit a (turn_of book.history n) some (ap (turn_of book.history) e ∙ takes.first.0.0) old)
          by_case (inr other) = subst (λ t. RunsFit meaning jobs a t some) (sym (turn_took_other book.history taken.ask.number n other)) old

  pub took_runs : (book book' : BookHistory) (runs : List (List (FrameRun J V))) (answer : Option OpenAsk) → IfSome answer (TakesFirst book book') → IfNone answer ((book' ≡ book) × NoneMayBeTaken book.history) → KeepsRuns meaning book jobs runs → KeepsRuns meaning book' jobs runs
  took_runs book book' runs None takes none h = subst (λ b. KeepsRuns meaning b jobs runs) (sym none.0) h
  took_runs book book' runs (Some taken) takes none h = taken_runs book book' runs taken takes h

  -- an ask ends with its rounds
  pub ended_runs : (book book' : BookHistory) (runs runs' : List (List (FrameRun J V))) (taken : OpenAsk) (whole : Bool) (new : List (FrameRun J V)) → EndsTaken book taken whole book' → AreRoundsOf meaning jobs taken.ask whole new → runs' ≡ set runs taken.ask.number new →
      KeepsRuns meaning book jobs runs → KeepsRuns meaning book' jobs runs'
  ended_runs book book' runs runs' taken whole new ends rounds same_runs h = rw (ends.book, same_runs) record {
    graph_count = h.graph_count;
    count = length-set runs taken.ask.number new ∙ h.count ∙ sym (ap length (asks_ended book.history taken.ask.number whole));
    rounds = fit;
  }
    where
      fit : (n : ℕ) (a : Ask) (some : List (FrameRun J V)) → slice_get (asks_of (book.history ++ Ended taken.ask.number whole ∷ [])) n ≡ Some a → slice_get (set runs taken.ask.number new) n ≡ Some some → RunsFit meaning jobs a (turn_of (book.history ++ Ended taken.ask.number whole ∷ []) n) some
      fit n a some at at_runs = by_case (cases_eq n taken.ask.number)
        where
          old_at : slice_get (asks_of book.history) n ≡ Some a
          old_at = subst (λ xs. slice_get xs n ≡ Some a) (asks_ended book.history taken.ask.number whole) at

          by_case : (n ≡ taken.ask.number) ⊎ (n ≢ taken.ask.number) → RunsFit meaning jobs a (turn_of (book.history ++ Ended taken.ask.number whole ∷ []) n) some
          by_case (inl e) =
              let below = get_in_range (asks_of book.history) n a old_at in
              let is_new : new ≡ some = some_same (sym (get_set_there runs taken.ask.number new (omega (arith, below, e, h.count))) ∙ ap (slice_get (set runs taken.ask.number new)) (sym e) ∙ at_runs) in
              let is_ask : taken.ask ≡ a = some_same (sym ends.ask ∙ ap (slice_get (asks_of book.history)) (sym e) ∙ old_at) in
              subst (λ t. RunsFit meaning jobs a t some) (sym (ap (turn_of (book.history ++ Ended taken.ask.number whole ∷ [])) e ∙ turn_ended_here book.history taken.ask.number whole))
              (subst (λ x. AreRoundsOf meaning jobs x whole some) is_ask (subst (AreRoundsOf meaning jobs taken.ask whole) is_new rounds))
          by_case (inr other) =
              subst (λ t. RunsFit meaning jobs a t some) (sym (turn_ended_other book.history taken.ask.number n whole other))
              (h.rounds n a some old_at (sym (get_set_other runs taken.ask.number n new other) ∙ at_runs))

-- what a desk came to
pub is_desk_run : {J V : Type 0} (meaning : Meaning J V) (jobs : List J) (book : BookHistory) (runs : List (List (FrameRun J V))) (run : DeskRun J V) → KeepsRuns meaning book jobs runs → IsDeskHistory book.graphs book.callers book.history →
    ((n : ℕ) → n < length (asks_of book.history) → IsOver (turn_of book.history n)) → run.history ≡ book.history → run.runs ≡ runs → IsDeskRun meaning book.callers jobs run
is_desk_run meaning jobs book runs run h right over same_history same_runs = record {
  history = subst (IsDeskHistory (length jobs) book.callers) (sym same_history) (subst (λ n. IsDeskHistory n book.callers book.history) h.graph_count right);
  ended = subst (λ hs. (n : ℕ) → n < length (asks_of hs) → IsOver (turn_of hs n)) (sym same_history) over;
  run_count = ap length same_runs ∙ h.count ∙ sym (ap (λ hs. length (asks_of hs)) same_history);
  rounds = λ n ask some at at_runs.
      subst (λ hs. RunsFit meaning jobs ask (turn_of hs n) some) (sym same_history)
      (h.rounds n ask some (subst (λ hs. slice_get (asks_of hs) n ≡ Some ask) same_history at) (subst (λ rs. slice_get rs n ≡ Some some) same_runs at_runs));
}

-- a fact of each job holds of one
get_map : {X Y : Type 0} (f : X → Y) (xs : List X) (n : ℕ) (x : X) → slice_get xs n ≡ Some x → slice_get (map f xs) n ≡ Some (f x)
get_map f [] n x at = absurd (cc)
get_map f (y ∷ ys) zero x at = ap Some (ap f (some_same at))
get_map f (y ∷ ys) (suc n) x at = get_map f ys n x at

pub holds_at : {X Y : Type 0} (P : Y → Type 0) (f : X → Y) (xs : List X) (n : ℕ) (x : X) → All P (map f xs) → n < length xs → x ≡ get_or xs n x → P (f x)
holds_at P f xs n x all below is = all_at P (map f xs) n (f x) (get_map f xs n x (slice_get_read xs (length xs) n x refl below is)) (recursion_from_All P (map f xs) all)

-- what is kept of the rounds, after those of one ask have come
pub map_set : {X Y : Type 0} (f : X → Y) (xs : List X) (n : ℕ) (x : X) → map f (set xs n x) ≡ set (map f xs) n (f x)
map_set f [] n x = refl
map_set f (y ∷ ys) zero x = refl
map_set f (y ∷ ys) (suc n) x = ap (λ zs. f y ∷ zs) (map_set f ys n x)
