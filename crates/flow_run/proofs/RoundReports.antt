-- What is written of rounds, one after another, and what a command has done that wrote them.
use Rattle.std.proofs.Common.{◌≡◌, ◌<◌, ℕ, ◌+◌, Bool, true, List, [], ◌∷◌, ◌++◌, length, take, slice_index_or, Option, Result, Ok, Err, inl, inr, refl, sym, ap, ◌∙◌, subst, arith}
use Rattle.std.specs.Prelude.{◌==◌, IsOk, is_ok}
use Rattle.std.specs.List.{enumerate_from, flat_map}
use Rattle.std.proofs.lemmas.Bool.{eqb-true, false≢true}
use Rattle.std.proofs.lemmas.List.FromFn.{length-enumerate_from, get_or-enumerate_from}
use Rattle.call_status.specs.Delivery.{Delivered, Delivers}
use Rattle.call_status.specs.declared.status.Status.{Status}
use Rattle.call_status.specs.declared.status.Status.TheVariants.{Done, WriteFault, NoMemory}
use Rattle.command_line.specs.Requests.{Asked, AskedRounds}
use Rattle.outside_io.specs.declared.ports.sink.SinkFault.{SinkFault}
use Rattle.outside_io.specs.declared.ports.sink.SinkFault.TheVariants as fault
use Rattle.outside_io.specs.Sink.{SinkState, Accepts, Took, Writes}
use Rattle.outside_io.proofs.Pieces.{row_written, row_refused, took_nothing, took_whole}
use Rattle.flow_run.specs.Answers.{HasWritten, Reported, runs_text}
use Rattle.flow_run.specs.RoundTexts.{TextRun, round_text, rounds_text}
use Rattle.flow_run.proofs.RoundLemmas.{no_runs_text}

take_whole : {X : Type 0} (xs : List X) → take (length xs) xs ≡ xs
take_whole [] = refl
take_whole (x ∷ xs) = ap (λ ys. x ∷ ys) (take_whole xs)

module _ (runs : List TextRun) where
  abbrev rows : List (ℕ × TextRun)
  rows = enumerate_from 1 runs

  as_many_rows : length rows ≡ length runs
  as_many_rows = length-enumerate_from 1 runs

  module _ (i number : ℕ) (run : TextRun) (below : i < length runs) (counted : number ≡ i + 1) (is : run ≡ slice_index_or runs i run) where
    row_inside : i < length rows
    row_inside = let many = as_many_rows in omega (arith, below, many)

    row_at : (number, run) ≡ slice_index_or rows i (number, run)
    row_at =
        let number_at : number ≡ 1 + i = omega (arith, counted) in
        ap {B = ℕ × TextRun} (λ n. (n, run)) number_at
        ∙ ap {B = ℕ × TextRun} (λ r. (1 + i, r)) is
        ∙ sym (get_or-enumerate_from 1 runs i (number, run) below)

    -- after the first rounds one more was written
    pub round_written : (asked : AskedRounds) (journal : Bool) (before between after : SinkState) → Accepts before between (flat_map (round_text asked journal) (take i (enumerate_from 1 runs)))
        → Accepts between after (round_text asked journal (number, run)) → Accepts before after (flat_map (round_text asked journal) (take (i + 1) (enumerate_from 1 runs)))
    round_written asked journal before between after = row_written (round_text asked journal) rows i (number, run) before between after row_inside row_at

    -- or its write ended in an error, and so that of all rounds
    pub round_refused : (asked : AskedRounds) (journal : Bool) (before between after : SinkState) (fault : SinkFault) → Accepts before between (flat_map (round_text asked journal) (take i (enumerate_from 1 runs)))
        → Writes between after (round_text asked journal (number, run)) (Err fault) → Writes before after (rounds_text asked journal runs) (Err fault)
    round_refused asked journal before between after fault = row_refused (round_text asked journal) rows i (number, run) before between after fault row_inside row_at

  -- all were written
  pub rounds_written : (asked : AskedRounds) (journal : Bool) (before after : SinkState) (i : ℕ) → i ≡ length runs → Accepts before after (flat_map (round_text asked journal) (take i (enumerate_from 1 runs)))
      → Accepts before after (rounds_text asked journal runs)
  rounds_written asked journal before after i all =
      subst (λ these. Accepts before after (flat_map (round_text asked journal) these)) (ap (λ n. take n rows) (all ∙ sym as_many_rows) ∙ take_whole rows)

no_item : (runs : List TextRun) → length runs ≡ 0 → runs ≡ []
no_item [] none = refl
no_item (run ∷ rest) none = absurd (omega (arith, none))

-- a list of no rounds is empty
pub empty_rounds : (runs : List TextRun) → true ≡ (length runs == 0) → runs ≡ []
empty_rounds runs none = no_item runs (eqb-true (length runs) 0 (sym none))

-- where there is none nothing is written
pub no_rounds_written : (state : SinkState) (bytes : List ℕ) → bytes ≡ [] → state.held_back ≡ [] → Delivered state state bytes
no_rounds_written state bytes none held = record { took = subst (Took state.taken state.taken) (sym none) (took_nothing state.taken state.taken refl); nothing_held = held; faults = refl }

module _ {S : Type 0} (state : S → SinkState) (old : S) (text : List TextRun → List ℕ) (empty : text [] ≡ []) (runs : List TextRun) (flag : Bool) where
  -- What a command has done that met want of memory before its first write. It says that all was written where there is
  -- nothing to write.
  pub none_reported : (flag ≡ true → runs ≡ []) → (runs ≡ [] → flag ≡ true) → (state old).held_back ≡ [] → HasWritten state old old NoMemory (runs ≡ []) (text runs) flag
  none_reported none all held = record {
    front = record { lost = text runs; but = record { front = []; parts = refl; took = took_nothing (state old).taken (state old).taken refl } };
    whole = λ written. (no_rounds_written (state old) (text runs) (ap text (none written) ∙ empty) held).took;
    nothing_held = held;
    no_fault = λ written. refl;
    cause = λ cut. inr refl;
    no_fewer = omega arith;
    done = λ is. absurd (cc);
    write_fault = λ is. absurd (cc);
    untouched = λ nothing. refl;
    nothing_to_write = all;
  }

-- What a command has done that met want of memory, and had nothing to write.
pub none_written : {S : Type 0} (state : S → SinkState) (old : S) (Nothing : Type 0) → (state old).held_back ≡ [] → HasWritten state old old NoMemory Nothing [] true
none_written state old Nothing held = record {
  front = record { lost = []; but = record { front = []; parts = refl; took = took_nothing (state old).taken (state old).taken refl } };
  whole = λ written. took_nothing (state old).taken (state old).taken refl;
  nothing_held = held;
  no_fault = λ written. refl;
  cause = λ cut. absurd (cc);
  no_fewer = omega arith;
  done = λ is. refl;
  write_fault = λ is. absurd (cc);
  untouched = λ nothing. refl;
  nothing_to_write = λ nothing. refl;
}

-- The same where it isn't known what is asked for, and there are no runs.
pub nothing_read : {S : Type 0} (state : S → SinkState) (old : S) (Nothing : Type 0) (asked : Option Asked) → (state old).held_back ≡ [] → HasWritten state old old NoMemory Nothing (runs_text asked [] ++ []) true
nothing_read state old Nothing asked held = subst (λ bytes. HasWritten state old old NoMemory Nothing (bytes ++ []) true) (sym (no_runs_text asked)) (none_written state old Nothing held)

-- What a command has done that wrote these bytes, by how that ended and the status that follows from it.
pub has_written : {S : Type 0} (state : S → SinkState) (old new : S) (Nothing : Type 0) (bytes : List ℕ) (flag : Bool) (status : Status) (written : Result (Unit {0}) SinkFault) → flag ≡ is_ok written
    → Delivers (state old) (state new) bytes written → (Nothing → (new ≡ old) × IsOk written) → (status ≡ Done → IsOk written) → (status ≡ WriteFault → written ≡ Err fault.Failed)
    → (written ≡ Err fault.NoMemory → status ≡ NoMemory) → HasWritten state old new status Nothing bytes flag
has_written state old new Nothing bytes flag status (Ok done) is did none well failed memory = record {
  front = record { lost = []; but = took_whole _ _ _ did.took };
  whole = λ written. did.took;
  nothing_held = did.nothing_held;
  no_fault = λ written. did.faults;
  cause = λ cut. absurd (false≢true (sym cut ∙ is));
  no_fewer = let same = did.faults in omega (arith, same);
  done = λ told. is;
  write_fault = λ told. absurd (let never : Ok done ≡ Err fault.Failed = failed told in cc);
  untouched = λ nothing. (none nothing).0;
  nothing_to_write = λ nothing. is;
}
has_written state old new Nothing bytes flag status (Err fault.Failed) is did none well failed memory = record {
  front = did.0.took;
  whole = λ written. absurd (false≢true (sym is ∙ written));
  nothing_held = did.0.nothing_held;
  no_fault = λ written. absurd (false≢true (sym is ∙ written));
  cause = λ cut. inl did.1;
  no_fewer = let more = did.1 in omega (arith, more);
  done = λ told. absurd (false≢true (well told));
  write_fault = λ told. is;
  untouched = λ nothing. (none nothing).0;
  nothing_to_write = λ nothing. absurd (false≢true (none nothing).1);
}
has_written state old new Nothing bytes flag status (Err fault.NoMemory) is did none well failed memory = record {
  front = did.0.took;
  whole = λ written. absurd (false≢true (sym is ∙ written));
  nothing_held = did.0.nothing_held;
  no_fault = λ written. absurd (false≢true (sym is ∙ written));
  cause = λ cut. inr (memory refl);
  no_fewer = did.1;
  done = λ told. absurd (false≢true (well told));
  write_fault = λ told. is;
  untouched = λ nothing. (none nothing).0;
  nothing_to_write = λ nothing. absurd (false≢true (none nothing).1);
}
