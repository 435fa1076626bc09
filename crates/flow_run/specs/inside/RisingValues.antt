-- Values that stand by rising place.
use Rattle.std.specs.Prelude.{◌<◌, List, AllPairs}
use Rattle.run_frame.specs.declared.run.ValueRow.{ValueRow}

abbrev pub AreRising : {V : Type 0} → List (ValueRow V) → Type 0
AreRising {V} rows = AllPairs (λ (row later : ValueRow V). row.place < later.place) rows
