-- How the front of a text is read. Each function gives what it read and the bytes behind that, or nothing where
-- something else stands there.
use Rattle.std.specs.Prelude.{◌≡◌, ℕ, zero, suc, ◌+◌, ◌-◌, ◌*◌, ◌^◌, ◌<◌, Bool, true, false, not, ◌&&◌, ◌||◌, ◌==◌, nat_lt, List, [], ◌∷◌, ◌++◌, length, codes, Option, Some, None, Result, Ok, Err, if◌then◌else◌}
use Rattle.std.specs.List.{AllByRecursion, flat_map}
use Rattle.std.specs.Char.{is_ascii_digit}
use Rattle.journal_rules.specs.declared.entry.Cause.{Cause}
use Rattle.journal_rules.specs.declared.entry.Cause.TheVariants.{Source, Strong, Weak}
use Rattle.journal_rules.specs.declared.entry.Part.{Part}
use Rattle.journal_rules.specs.declared.entry.Part.TheVariants.{From, First, Nothing}
use Rattle.journal_rules.specs.declared.entry.Why.{Why}
use Rattle.journal_rules.specs.declared.entry.Why.TheVariants.{Long, Wide, Unmet, Inner, OverRelease}
use Rattle.journal_rules.specs.declared.entry.DropWhy.{DropWhy}
use Rattle.journal_rules.specs.declared.entry.DropWhy.TheVariants.{Halted, Limit, Stuck}
use Rattle.journal_rules.specs.declared.entry.Entry.{Entry}
use Rattle.journal_rules.specs.declared.entry.Entry.TheVariants.{Start, End, Fault, Drop}
use Rattle.journal_text.specs.declared.version.Version.{Version}
use Rattle.journal_text.specs.declared.version.Version.TheVariants.{One, Two}
use Rattle.journal_text.specs.declared.line_fault.LineFault.{LineFault}
use Rattle.journal_text.specs.declared.line_fault.LineFault.TheVariants.{Bad, NoMemory}
use Rattle.journal_text.specs.declared.reader.JournalError.{JournalError}
use Rattle.journal_text.specs.declared.reader.JournalError.TheVariants.{BadLine}
use Rattle.journal_text.specs.declared.reader.JournalError.TheVariants as error
use Rattle.journal_text.specs.JournalText.{HasLine, entry_line}

abbrev pub ReadFront : Type 0 → Type 0
ReadFront A = Option (A × List ℕ)

-- what a call gave, seen through `view`, is what is read
abbrev pub ReadsTo : {X Y : Type 0} → (X → Y) → Result X LineFault → Option Y → Type 0
ReadsTo view (Ok x) read = read ≡ Some (view x)
ReadsTo view (Err Bad) read = read ≡ None
ReadsTo view (Err NoMemory) read = Unit {0}

infixl 10 ◌>>=◌
abbrev pub ◌>>=◌ : {A B : Type 0} → Option A → (A → Option B) → Option B
None >>= f = None
(Some x) >>= f = f x

-- the second, where nothing was read for the first
abbrev pub or_else : {A B : Type 0} → Option A → (A → Option B) → Option B → Option B
or_else None f other = other
or_else (Some x) f other = f x

-- what stands behind this word
abbrev pub word_at : List ℕ → List ℕ → Option (List ℕ)
word_at [] bytes = Some bytes
word_at (byte ∷ word) [] = None
word_at (byte ∷ word) (first ∷ rest) = if first == byte then word_at word rest else None

-- the number that the digits at the front go on with, and the bytes behind them
abbrev pub number_on : ℕ → List ℕ → ℕ × List ℕ
number_on value [] = (value, [])
number_on value (byte ∷ rest) = if is_ascii_digit byte then number_on (value * 10 + (byte - 48)) rest else (value, byte ∷ rest)

-- a digit stands at the front, and no other behind a zero
abbrev pub begins_number : List ℕ → Bool
begins_number [] = false
begins_number (byte ∷ []) = is_ascii_digit byte
begins_number (byte ∷ next ∷ rest) = is_ascii_digit byte && not ((byte == 48) && is_ascii_digit next)

-- a number of 64 bits, without leading zeros
unfoldable pub number_at : List ℕ → ReadFront ℕ
number_at bytes = if begins_number bytes && nat_lt (number_on 0 bytes).0 (2 ^ 64) then Some (number_on 0 bytes) else None

-- a number of 32 bits
unfoldable pub index_at : List ℕ → ReadFront ℕ
index_at bytes = number_at bytes >>= λ number. if nat_lt number.0 (2 ^ 32) then Some number else None

-- a word and a number
unfoldable pub named_number_at : List ℕ → List ℕ → ReadFront ℕ
named_number_at word bytes = word_at word bytes >>= number_at

unfoldable pub named_index_at : List ℕ → List ℕ → ReadFront ℕ
named_index_at word bytes = word_at word bytes >>= index_at

unfoldable pub cause_at : List ℕ → ReadFront Cause
cause_at bytes =
    or_else (word_at (codes "source") bytes) (λ rest. Some (Source, rest))
    (or_else (word_at (codes "strong") bytes) (λ rest. Some (Strong, rest))
    (named_index_at (codes "weak:") bytes >>= λ edge. Some (Weak edge.0, edge.1)))

unfoldable pub part_at : List ℕ → ReadFront Part
part_at bytes =
    or_else (word_at (codes "first") bytes) (λ rest. Some (First, rest))
    (or_else (word_at (codes "nothing") bytes) (λ rest. Some (Nothing, rest))
    (number_at bytes >>= λ place. Some (From place.0, place.1)))

-- a comma and an item
abbrev pub next_item : {A : Type 0} → (List ℕ → ReadFront A) → List ℕ → ReadFront A
next_item item bytes = word_at (codes ",") bytes >>= item

-- so many items, with a comma before each
abbrev pub items_on : {A : Type 0} → (List ℕ → ReadFront A) → ℕ → List ℕ → ReadFront (List A)
items_on item zero bytes = Some ([], bytes)
items_on item (suc count) bytes =
    next_item item bytes >>= λ x. items_on item count x.1 >>= λ more. Some (x.0 ∷ more.0, more.1)

-- a space or the end of the line stands behind a list
abbrev pub ends_list : ℕ → Bool
ends_list byte = (byte == 32) || (byte == 10)

-- how many commas stand before the end of the list
abbrev pub comma_count : List ℕ → ℕ
comma_count [] = 0
comma_count (byte ∷ rest) = if ends_list byte then 0 else (if byte == 44 then 1 + comma_count rest else comma_count rest)

-- these items before those that are read
abbrev pub with_front : {A B : Type 0} → List A → Option (List A × B) → Option (List A × B)
with_front front read = read >>= λ more. Some (front ++ more.0, more.1)

-- items with commas between them
unfoldable pub items_at : {A : Type 0} → (List ℕ → ReadFront A) → List ℕ → ReadFront (List A)
items_at item bytes = item bytes >>= λ x. items_on item (comma_count bytes) x.1 >>= λ more. Some (x.0 ∷ more.0, more.1)

unfoldable pub list_at : {A : Type 0} → (List ℕ → ReadFront A) → List ℕ → ReadFront (List A)
list_at item bytes = or_else (word_at (codes "-") bytes) (λ rest. Some ([], rest)) (items_at item bytes)

unfoldable pub inner_field_at : List ℕ → ReadFront Bool
inner_field_at bytes =
    or_else (word_at (codes "plain") bytes) (λ rest. Some (false, rest))
    (word_at (codes "inner") bytes >>= λ rest. Some (true, rest))

-- an over-release stands in version 2 alone
abbrev pub over_fault_at : Version → List ℕ → ReadFront Why
over_fault_at One bytes = None
over_fault_at Two bytes = named_index_at (codes "over:") bytes >>= λ sem. Some (OverRelease sem.0, sem.1)

unfoldable pub why_at : Version → List ℕ → ReadFront Why
why_at version bytes =
    or_else (named_number_at (codes "long:") bytes) (λ bytes. Some (Long bytes.0, bytes.1))
    (or_else (named_number_at (codes "wide:") bytes) (λ parts. Some (Wide parts.0, parts.1))
    (or_else (named_number_at (codes "unmet:") bytes) (λ token. Some (Unmet token.0, token.1))
    (or_else (word_at (codes "inner") bytes) (λ rest. Some (Inner, rest))
    (over_fault_at version bytes))))

-- a drop for want of a unit stands in version 2 alone
abbrev pub stuck_drop_at : Version → List ℕ → ReadFront DropWhy
stuck_drop_at One bytes = None
stuck_drop_at Two bytes = named_index_at (codes "stuck:") bytes >>= λ sem. Some (Stuck sem.0, sem.1)

unfoldable pub drop_why_at : Version → List ℕ → ReadFront DropWhy
drop_why_at version bytes =
    or_else (word_at (codes "halted") bytes) (λ rest. Some (Halted, rest))
    (or_else (word_at (codes "limit") bytes) (λ rest. Some (Limit, rest))
    (stuck_drop_at version bytes))

-- a place and a space
unfoldable pub place_at : List ℕ → ReadFront ℕ
place_at bytes = number_at bytes >>= λ place. word_at (codes " ") place.1 >>= λ rest. Some (place.0, rest)

-- a task and a space
unfoldable pub task_at : List ℕ → ReadFront ℕ
task_at bytes = index_at bytes >>= λ task. word_at (codes " ") task.1 >>= λ rest. Some (task.0, rest)

-- a task and what its release comes from, and a space behind each
unfoldable pub release_at : List ℕ → ReadFront (ℕ × Cause)
release_at bytes = do
  task ← task_at bytes
  cause ← cause_at task.1
  rest ← word_at (codes " ") cause.1
  Some ((task.0, cause.0), rest)

-- the lines of entries, behind their first words
unfoldable pub start_line_at : List ℕ → ReadFront Entry
start_line_at bytes = do
  release ← release_at bytes
  ins ← list_at part_at release.1
  rest ← word_at (codes "\n") ins.1
  Some (Start release.0.0 release.0.1 ins.0, rest)

-- a space, whether a start's work was a run of its own, and the end of the line
unfoldable pub last_inner_field_at : List ℕ → ReadFront Bool
last_inner_field_at bytes = do
  behind ← word_at (codes " ") bytes
  inner ← inner_field_at behind
  rest ← word_at (codes "\n") inner.1
  Some (inner.0, rest)

unfoldable pub end_line_at : List ℕ → ReadFront Entry
end_line_at bytes = do
  start ← place_at bytes
  gives ← list_at index_at start.1
  inner ← last_inner_field_at gives.1
  Some (End start.0 gives.0 inner.0, inner.1)

unfoldable pub fault_line_at : Version → List ℕ → ReadFront Entry
fault_line_at version bytes = do
  start ← place_at bytes
  why ← why_at version start.1
  rest ← word_at (codes "\n") why.1
  Some (Fault start.0 why.0, rest)

unfoldable pub drop_line_at : Version → List ℕ → ReadFront Entry
drop_line_at version bytes = do
  release ← release_at bytes
  why ← drop_why_at version release.1
  rest ← word_at (codes "\n") why.1
  Some (Drop release.0.0 release.0.1 why.0, rest)

-- a fault or a drop
unfoldable pub unlisted_at : Version → List ℕ → ReadFront Entry
unlisted_at version bytes =
    or_else (word_at (codes "fault ") bytes) (fault_line_at version)
    (word_at (codes "drop ") bytes >>= drop_line_at version)

-- an entry and the end of its line
unfoldable pub entry_at : Version → List ℕ → ReadFront Entry
entry_at version bytes =
    or_else (word_at (codes "start ") bytes) start_line_at
    (or_else (word_at (codes "end ") bytes) end_line_at
    (unlisted_at version bytes))

-- the first line and its end
unfoldable pub version_at : List ℕ → ReadFront Version
version_at bytes =
    or_else (word_at (codes "flow journal 2\n") bytes) (λ rest. Some (Two, rest))
    (word_at (codes "flow journal 1\n") bytes >>= λ rest. Some (One, rest))

-- a loop over items that have a comma before each: those put so far, and what is left to read
pub record ItemsSoFar {A : Type 0} (item : List ℕ → ReadFront A) (count : ℕ) (bytes : List ℕ) (old now : List A) (left : ℕ) (rest : List ℕ) : Type 0 where
  pub more : List A
  pub put : now ≡ old ++ more
  pub same : items_on item count bytes ≡ with_front more (items_on item left rest)

-- the lines that were read are these entries', and this is the rest
pub record HasRead (version : Version) (bytes : List ℕ) (journal : List Entry) (rest : List ℕ) : Type 0 where
  pub lines : AllByRecursion (HasLine version) journal
  pub parts : bytes ≡ flat_map entry_line journal ++ rest

-- the lines behind the first are those of entries up to this one, counted with the first, which isn't
pub record StopsAtLine (version : Version) (bytes : List ℕ) (line : ℕ) : Type 0 where
  pub journal : List Entry
  pub rest : List ℕ
  pub read : HasRead version bytes journal rest
  pub some : 0 < length rest
  pub bad : entry_at version rest ≡ None
  pub number : line ≡ length journal + 2

abbrev pub StopsReading : Version → List ℕ → JournalError → Type 0
StopsReading version bytes (BadLine line) = StopsAtLine version bytes line
StopsReading version bytes error.NoMemory = Unit {0}
