-- Desks that several threads share, as contracts see them.
use Rattle.std.specs.Prelude.{◌≡◌, ℕ, ◌<◌, List, length, Some, slice_get}
use Rattle.atomic_table.specs.Seated.{TableId}
use Rattle.desk_book.specs.Passes.{PassState, IsTicketOf}
use Rattle.desk_book.specs.States.{DeskKey}

-- how many graphs a desk may have
abbrev pub graph_limit : ℕ
graph_limit = 64

-- how many callers it may have
abbrev pub caller_limit : ℕ
caller_limit = 64

-- a pass of this desk, of one of its callers
pub record IsPassOf {J : Type 0} (desk : DeskKey J) (pass : PassState) : Type 0 where
  pub ticket : IsTicketOf desk.register pass.ticket
  pub caller : pass.caller < desk.callers

-- these are all passes of the desk, each at its caller's place
pub record ArePassesOf {J : Type 0} (desk : DeskKey J) (passes : List PassState) : Type 0 where
  pub count : length passes ≡ desk.callers
  pub each : (c : ℕ) (pass : PassState) → slice_get passes c ≡ Some pass → IsPassOf desk pass × (pass.caller ≡ c)

-- the first passes of the callers below a number, each at its caller's place
abbrev pub AreFirstPasses : TableId → List PassState → Type 0
AreFirstPasses register passes = (c : ℕ) (pass : PassState) → slice_get passes c ≡ Some pass → IsTicketOf register pass.ticket × (pass.caller ≡ c)
