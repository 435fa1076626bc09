-- Slots that lead from the hash of a key to the first sort key that stands for it.
use Rattle.std.specs.Prelude.{◌≡◌, ℕ, zero, suc, ◌+◌, ◌<◌, ◌≤◌, List, length, slice_get, Option, Some, None, if◌then◌else◌}
use Rattle.std.specs.Str.{bytes_eq}
use Rattle.text_ops.specs.declared.slots.Probed.{Probed}
use Rattle.text_ops.specs.declared.slots.Probed.TheVariants.{Row, Free, Crowded}
use Rattle.text_ops.specs.declared.sort_key.Piece.TheVariants.{Key}
use Rattle.text_ops.specs.Lines.{lines_of}
use Rattle.text_ops.specs.inside.Slots.{probes, first_slot}
use Rattle.text_ops.specs.inside.SortKeys.{SortKeyRow, keyed_piece, sort_keys_of}

-- what the sort key says that a slot names, if there is one, or else what is found behind the slot
abbrev pub at_row : List ℕ → List ℕ → ℕ → ℕ → Option SortKeyRow → Probed → Probed
at_row text key at row None later = Free at
at_row text key at row (Some sort_key) later = if bytes_eq (keyed_piece text sort_key) key then Row row else later

-- what a slot says, if there is one
abbrev pub at_slot : List ℕ → List SortKeyRow → List ℕ → ℕ → Option ℕ → Probed → Probed
at_slot text rows key at None later = Crowded
at_slot text rows key at (Some row) later = at_row text key at row (slice_get rows row) later

-- what so many slots say, from one on
abbrev pub found : List ℕ → List SortKeyRow → List ℕ → List ℕ → ℕ → ℕ → Probed
found text rows slots key zero at = Crowded
found text rows slots key (suc n) at = at_slot text rows key at (slice_get slots at) (found text rows slots key n (at + 1))

-- what is found of a key
abbrev pub look_up : List ℕ → List SortKeyRow → List ℕ → List ℕ → Probed
look_up text rows slots key = found text rows slots key probes (first_slot key (length slots))

-- each of so many sort keys, the first ones, is found by its key, or one before it
abbrev pub AreFilled : List ℕ → List SortKeyRow → List ℕ → ℕ → Type 0
AreFilled text rows slots count = (k : ℕ) (row : SortKeyRow) → k < count → slice_get rows k ≡ Some row → (j : ℕ) × (j ≤ k) × (look_up text rows slots (keyed_piece text row) ≡ Row j)

-- the sort keys are those of a text's keys, in the order of the lines, and slots lead to each
pub record LeadToFirst (text : List ℕ) (rows : List SortKeyRow) (slots : List ℕ) : Type 0 where
  pub rows_are : rows ≡ sort_keys_of Key 0 (lines_of text)
  pub filled : AreFilled text rows slots (length rows)
