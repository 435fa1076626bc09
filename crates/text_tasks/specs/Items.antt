-- What a value is made of.
use Rattle.std.specs.Prelude.{ℕ, List}
use Rattle.text_tasks.specs.declared.item.Item.{Item}
use Rattle.text_tasks.specs.declared.item.Item.TheVariants.{Text, Cell}

-- the text of a value
abbrev pub item_text : Item → List ℕ
item_text (Text text) = text
item_text (Cell cell) = cell.text

-- the token of a value, and the token's place in the order; a text alone counts as token 0 at place 0
abbrev pub item_token : Item → ℕ
item_token (Text text) = 0
item_token (Cell cell) = cell.token

abbrev pub item_place : Item → ℕ
item_place (Text text) = 0
item_place (Cell cell) = cell.place
