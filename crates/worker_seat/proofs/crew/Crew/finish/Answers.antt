use Rattle.worker_seat.proofs.FoundLemmas.{written_back}
use Rattle.worker_seat.proofs.crew.Crew.finish.Goals as goal

pub returns-clause-run : goal.returns-clause-run
returns-clause-run g c = rw (← c.as_mut_slice.ensures.value) c.fetch_first.ensures.run

pub returns-clause-none : goal.returns-clause-none
returns-clause-none g c = λ none.
    let got = c.fetch_first.ensures.none none in
    (rw (← c.as_mut_slice.ensures.value) got.0, written_back _ _ _ _ got.1 c.as_mut_slice.ensures.value c.as_mut_slice.ensures.len)
