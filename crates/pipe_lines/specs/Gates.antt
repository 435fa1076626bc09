-- Gates, as contracts see them.
use Rattle.std.specs.Prelude.{ℕ, ◌+◌}
use Rattle.pipe_lines.specs.declared.order.Order.{Order}
use Rattle.pipe_lines.specs.declared.order.Passed.{Passed}
use Rattle.pipe_lines.specs.declared.order.Passed.TheVariants.{Token, Stop, Unmet}
use Rattle.pipe_lines.specs.Orders.{passed_at}

-- the order in which tokens pass, and how many have
pub record GateView : Type 0 where
  pub order : Order
  pub place : ℕ

-- the place behind a pass: the next one, if a token passed
abbrev pub place_after : ℕ → Passed → ℕ
place_after place (Token k) = place + 1
place_after place Stop = place
place_after place (Unmet k) = place

-- the gate behind a pass
abbrev pub after_pass : GateView → GateView
after_pass gate = record { order = gate.order; place = place_after gate.place (passed_at gate.order gate.place) }
