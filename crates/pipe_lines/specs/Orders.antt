-- The order of tokens, as contracts see it.
use Rattle.std.specs.Prelude.{◌≡◌, ℕ, List, slice_get, Option, Some, None}
use Rattle.pipe_lines.specs.declared.deferral.DeferRow.{DeferRow}
use Rattle.pipe_lines.specs.declared.order.Order.{Order}
use Rattle.pipe_lines.specs.declared.order.Passed.{Passed}
use Rattle.pipe_lines.specs.declared.order.Passed.TheVariants.{Token, Stop, Unmet}
use Rattle.pipe_lines.specs.PassOrder.{pass_order, least_left}

-- It has the tokens that pass, of so many with these rows, and the least that doesn't, if there is one.
pub record IsOrder (tokens : ℕ) (rows : List DeferRow) (order : Order) : Type 0 where
  pub passed : order.passed ≡ pass_order tokens rows
  pub unmet : order.unmet ≡ least_left tokens order.passed

-- what is behind the last token that passes
abbrev pub end_of : Option ℕ → Passed
end_of None = Stop
end_of (Some k) = Unmet k

-- what is at a place: the token that passes there, if one does, or what is behind the last
abbrev pub passed_or : Option ℕ → Option ℕ → Passed
passed_or (Some k) unmet = Token k
passed_or None unmet = end_of unmet

abbrev pub passed_at : Order → ℕ → Passed
passed_at order place = passed_or (slice_get order.passed place) order.unmet
