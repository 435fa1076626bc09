-- The texts that a task finds at its edges.
use Rattle.std.specs.Prelude.{ℕ, List, [], ◌∷◌}
use Rattle.std.specs.List.{flat_map}
use Rattle.join_words.specs.Ins.{InputValue, value, first, nothing}
use Rattle.text_tasks.specs.declared.item.Item.{Item}
use Rattle.text_tasks.specs.Items.{item_text}

-- the text at an edge: a value counts as its text, anything else as the empty text
abbrev pub found_text : InputValue Item → List ℕ
found_text (value item) = item_text item
found_text first = []
found_text nothing = []

-- the text of a task: those at its edges, one behind the other
abbrev pub text_found : List (InputValue Item) → List ℕ
text_found found = flat_map found_text found

-- the left text of a match: the one at the first edge
abbrev pub left_found : List (InputValue Item) → List ℕ
left_found [] = []
left_found (part ∷ others) = found_text part

-- its right text: those at the other edges, one behind the other
abbrev pub right_found : List (InputValue Item) → List ℕ
right_found [] = []
right_found (part ∷ others) = text_found others
