-- What a text is made of.
use Rattle.std.specs.Prelude.{ℕ, ◌<◌, ◌≤◌, ◌^◌, List, [], length, slice_range}
use Rattle.std.specs.Option.{option_map_or}
use Rattle.std.specs.Arc.{arc_value}
use Rattle.text_ops.specs.declared.text.Text.TheInside.{Inside}
use Rattle.text_ops.specs.Lines.{IsNormal}

-- the bytes that are shared
abbrev pub shared : Inside → List ℕ
shared t = option_map_or arc_value t.bytes []

-- the text: the part of them from `start` up to `end`
abbrev pub shown : Inside → List ℕ
shown t = slice_range (shared t) t.start t.end

pub record IsShown (t : Inside) : Type 0 where
  pub rising : t.start ≤ t.end
  pub within : t.end ≤ length (shared t)
  pub fits : t.end < 2 ^ 64
  pub normal : IsNormal (shown t)
