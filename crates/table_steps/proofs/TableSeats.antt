-- What is true of a seat is true of its fields, and back.
use Rattle.std.specs.Prelude.{◌≡◌}
use Rattle.std.proofs.Common.{subst, sym}
use Rattle.table_steps.specs.inside.TableSeats.{TableSeatState}

pub at_seat : {V : Type 0} {p q : TableSeatState V} (P : TableSeatState V → Type 0) → p ≡ q → P q → P p
at_seat P same known = subst P (sym same) known

pub of_fields : {V : Type 0} {p q : TableSeatState V} (P : TableSeatState V → Type 0) → p ≡ q → P p → P q
of_fields P same known = subst P same known
