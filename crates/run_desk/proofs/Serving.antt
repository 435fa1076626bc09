-- What a pass has seen when its caller has served.
use Rattle.std.proofs.Common.{◌≡◌, ◌≢◌, ℕ, Bool, true, List, [], ◌∷◌, ◌++◌, Some, sym, ap, ◌∙◌, subst, arith}
use Rattle.std.specs.Prelude.{slice_get, IfSome}
use Rattle.std.proofs.lemmas.List.{append_assoc}
use Rattle.run_frame.specs.Meaning.{Meaning}
use Rattle.run_frame.specs.declared.run.FrameRun.{FrameRun}
use Rattle.nested_runs.specs.Rounds.{AreAllRounds, times}
use Rattle.topology_runs.specs.Told.{AreToldRounds}
use Rattle.desk_book.specs.declared.entry.Ask.{Ask}
use Rattle.desk_book.specs.declared.entry.DeskEntry.{DeskEntry}
use Rattle.desk_book.specs.declared.entry.DeskEntry.TheVariants.{Took}
use Rattle.desk_book.specs.Histories.{asks_of, turn_of, IsFirstToTake}
use Rattle.desk_book.specs.Taking.{OpenAsk}
use Rattle.desk_book.specs.Answers.{HasTaken, HasEnded}
use Rattle.desk_book.specs.Passes.{PassState, GoesOn, LooksAgain, seen}
use Rattle.desk_book.specs.Rounds.{AreRounds, AreRoundsOf}
use Rattle.desk_book.proofs.Telling.{asks_ended, turn_ended_here}
use Rattle.run_desk.specs.Serving.{HasServed, HasRunRounds}

goes_on : (a b c : List DeskEntry) → GoesOn a b → GoesOn b c → GoesOn a c
goes_on a b c first later = (first.0 ++ later.0, later.1 ∙ ap (λ xs. xs ++ later.0) first.1 ∙ append_assoc a first.0 later.0)

-- a pass has looked twice
pub looks_twice : (old mid new : PassState) → LooksAgain old mid → LooksAgain mid new → LooksAgain old new
looks_twice old mid new first later = record {
  caller = later.caller ∙ first.caller;
  later = omega (arith, first.later, later.later);
  longer = goes_on (seen old) (seen mid) (seen new) first.longer later.longer;
}

-- an ask was taken, and then it ended
pub has_served : (old mid new : PassState) (taken : OpenAsk) (whole : Bool) (n : ℕ) → HasTaken (seen old) (seen mid) taken → LooksAgain mid new → HasEnded (seen new) taken whole → n ≡ taken.ask.number → HasServed old new n whole
has_served old mid new taken whole n took looks ended same = record {
  before = took.before;
  longer = took.longer;
  first = subst (IsFirstToTake took.before) (sym same) took.first;
  taken = (looks.longer.0, looks.longer.1 ∙ ap (λ xs. xs ++ looks.longer.0) (took.last ∙ ap (λ k. took.before ++ Took k ∷ []) (sym same)));
  ended = ap (turn_of (seen new)) same ∙ ap (λ xs. turn_of xs taken.ask.number) ended.last ∙ turn_ended_here ended.before taken.ask.number whole;
}

-- rounds of the job that its graph has
pub rounds_of : {J V : Type 0} (meaning : Meaning J V) (jobs : List J) (ask : Ask) (job : J) (whole : Bool) (runs : List (FrameRun J V)) → slice_get jobs ask.graph ≡ Some job → AreRounds meaning whole job ask.times runs → AreRoundsOf meaning jobs ask whole runs
rounds_of meaning jobs ask job whole runs at rounds = subst (λ o. IfSome o (λ j. AreRounds meaning whole j ask.times runs)) (sym at) rounds

-- all rounds of an ask were run before it ended
pub has_run_rounds : {J V X : Type 0} (meaning : Meaning J V) (told : X → ℕ) (jobs : List J) (history : List DeskEntry) (taken : OpenAsk) (ask : Ask) (job : J) (runs : List (FrameRun J V)) (old new : List X) → HasEnded history taken true → ask ≡ taken.ask → slice_get jobs ask.graph ≡ Some job → AreAllRounds meaning job (times ask.times) runs → (old ≢ [] → AreToldRounds told runs old new) → HasRunRounds meaning told jobs history old new ask.number
has_run_rounds meaning told jobs history taken ask job runs old new ended same at rounds watched = record {
  ask = ask;
  asked = ap (λ entries. slice_get (asks_of entries) ask.number) ended.last ∙ ap (λ asks. slice_get asks ask.number) (asks_ended ended.before taken.ask.number true) ∙ ap (λ (a : Ask). slice_get (asks_of ended.before) a.number) same ∙ ended.ask ∙ ap Some (sym same);
  job = job;
  of_graph = at;
  runs = runs;
  rounds = rounds;
  watched = watched;
}
