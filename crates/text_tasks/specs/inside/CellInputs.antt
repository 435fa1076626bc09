-- What a cell finds, by the tags of the edges.
use Rattle.std.specs.Prelude.{ℕ, ◌+◌, min, Bool, false, not, if◌then◌else◌, List, Option, slice_index_or}
use Rattle.std.specs.Option.{option_map_or}
use Rattle.join_words.specs.declared.ins.Given.{Given}
use Rattle.join_words.specs.Ins.{InputValue, value, first, nothing, found_of}
use Rattle.text_tasks.specs.declared.item.Item.{Item}
use Rattle.text_tasks.specs.Cells.{input_where}
use Rattle.text_tasks.specs.Items.{item_place, item_token}

-- what an input holds, if there is one
abbrev pub found_or : Option (Given Item) → InputValue Item
found_or input = option_map_or found_of input nothing

-- whether an edge leads along a pipe, or else along a line
abbrev pub has_tag : List Bool → Bool → ℕ → Bool
has_tag tags pipe e = if pipe then slice_index_or tags e false else not (slice_index_or tags e false)

-- the first of a start's inputs that came along a pipe, or else along a line
abbrev pub input_tagged : List Bool → Bool → List ℕ → List (InputValue Item) → InputValue Item
input_tagged tags pipe edges found = input_where (has_tag tags pipe) edges found

-- the place after that of an input, up to the greatest u64; without a value the first
abbrev pub next_place_of : InputValue Item → ℕ
next_place_of (value item) = min (item_place item + 1) 18446744073709551615
next_place_of first = 0
next_place_of nothing = 0

-- the token of an input; without a value token 0
abbrev pub token_of : InputValue Item → ℕ
token_of (value item) = item_token item
token_of first = 0
token_of nothing = 0
