-- The texts at a task's edges, by place.
use Rattle.std.specs.Prelude.{ℕ, List, [], drop, map, slice_get}
use Rattle.std.specs.Option.{option_map_or}
use Rattle.join_words.specs.declared.ins.Ins.{Ins}
use Rattle.join_words.specs.Ins.{InputValue, parts_of, found_of}
use Rattle.text_tasks.specs.declared.item.Item.{Item}
use Rattle.text_tasks.specs.FoundTexts.{found_text, text_found}

-- what a start finds, in the order of its edges
abbrev pub founds : Ins Item → List (InputValue Item)
founds ins = map found_of (parts_of ins)

-- the text at an edge
abbrev pub text_of_edge : Ins Item → ℕ → List ℕ
text_of_edge ins place = option_map_or found_text (slice_get (founds ins) place) []

-- the texts from an edge on, one behind the other
abbrev pub text_from : Ins Item → ℕ → List ℕ
text_from ins from = text_found (drop from (founds ins))
