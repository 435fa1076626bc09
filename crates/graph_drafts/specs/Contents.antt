-- What the fields of a graph file may hold.
use Rattle.std.specs.Prelude.{ℕ, ◌&&◌, ◌||◌, ◌==◌, List, [], ◌∷◌, length, Bool, Option, Some, None, option_map, option_and_then, is_some, if◌then◌else◌, nat_le}
use Rattle.std.specs.List.{list_all}
use Rattle.std.specs.Str.{is_utf8}
use Rattle.serde_json.specs.Data.{Data, Items, no_items, item}
use Rattle.serde_json.specs.Find.{as_array, as_number, as_object, as_str, as_u64}
use Rattle.graph_plans.specs.Operations.{line_limit, route_limit, word_limit}

-- x, if it passes the test
abbrev pub passing : {A : Type 0} → (A → Bool) → A → Option A
passing test x = if test x then Some x else None

-- what f gives of each item, if it gives something of each
abbrev pub each : {A B : Type 0} → (A → Option B) → List A → Option (List B)
each f [] = Some []
each f (x ∷ xs) = option_and_then (λ y. option_map (λ ys. y ∷ ys) (each f xs)) (f x)

-- ---- lists

-- the items of an array
abbrev pub listed : Items → List Data
listed no_items = []
listed (item d ds) = d ∷ listed ds

abbrev pub list_of : Data → Option (List Data)
list_of d = option_map listed (as_array d)

abbrev pub is_object : Data → Bool
is_object d = is_some (as_object d)

-- a list of objects
abbrev pub objects_of : Data → Option (List Data)
objects_of d = option_and_then (passing (list_all is_object)) (list_of d)

-- ---- names

-- an ASCII letter or digit, `_`, `-` or `.`
unfoldable pub is_name_byte : ℕ → Bool
is_name_byte b = (nat_le 65 b && nat_le b 90) || (nat_le 97 b && nat_le b 122) || (nat_le 48 b && nat_le b 57) || (b == 95) || (b == 45) || (b == 46)

-- 1 to 64 such bytes
abbrev pub is_name : List ℕ → Bool
is_name s = nat_le 1 (length s) && nat_le (length s) 64 && list_all is_name_byte s

-- a string that is a name
abbrev pub name_of : Data → Option (List ℕ)
name_of d = option_and_then (passing is_name) (as_str d)

-- a list of names
abbrev pub name_list_of : Data → Option (List (List ℕ))
name_list_of d = option_and_then (each name_of) (list_of d)

-- ---- what operations name

-- so many bytes; each string of JSON is UTF-8
abbrev pub is_text : ℕ → ℕ → List ℕ → Bool
is_text least most s = nat_le least (length s) && nat_le (length s) most && is_utf8 s

-- the name of a text: 1 to 4,096 bytes
abbrev pub text_name_of : Data → Option (List ℕ)
text_name_of d = option_and_then (passing (is_text 1 4096)) (as_str d)

-- a word: at most 4,096 bytes
abbrev pub word_of : Data → Option (List ℕ)
word_of d = option_and_then (passing (is_text 0 word_limit)) (as_str d)

-- at most 256 words
abbrev pub words_of : Data → Option (List (List ℕ))
words_of d = option_and_then (each word_of) (option_and_then (passing (λ items. nat_le (length items) route_limit)) (list_of d))

-- a whole number in this range
abbrev pub whole_of : ℕ → ℕ → Data → Option ℕ
whole_of least most d = option_and_then (passing (λ n. nat_le least n && nat_le n most)) (option_and_then as_u64 (as_number d))

-- a number of lines: at most 1,000,000,000
abbrev pub line_count_of : Data → Option ℕ
line_count_of d = whole_of 0 line_limit d

-- the lines of a part: 1 to 1,000,000,000
abbrev pub part_size_of : Data → Option ℕ
part_size_of d = whole_of 1 line_limit d

-- ---- pipelines

-- a number of lines of a pipeline: below 2^32
abbrev pub pipe_lines_of : Data → Option ℕ
pipe_lines_of d = whole_of 0 4294967295 d

-- the number of a token that waits: at most 65,535
abbrev pub token_number_of : Data → Option ℕ
token_number_of d = whole_of 0 65535 d

-- the tokens for which one waits: 1 to 8 numbers of at most 1,000,000
abbrev pub target_items_of : Data → Option (List Data)
target_items_of d = option_and_then (passing (λ items. nat_le 1 (length items) && nat_le (length items) 8)) (list_of d)

abbrev pub targets_of : Data → Option (List ℕ)
targets_of d = option_and_then (each (whole_of 0 1000000)) (target_items_of d)

-- at most 256 objects
abbrev pub defer_objects_of : Data → Option (List Data)
defer_objects_of d = option_and_then (passing (λ items. nat_le (length items) 256)) (objects_of d)
