-- The text of a journal.
use Rattle.std.specs.Prelude.{◌≡◌, ◌⊎◌, ℕ, ◌+◌, ◌-◌, ◌^◌, ◌<◌, Bool, true, false, List, [], ◌∷◌, ◌++◌, length, codes, decimal}
use Rattle.std.specs.List.{AllByRecursion, flat_map}
use Rattle.journal_rules.specs.declared.entry.Cause.{Cause}
use Rattle.journal_rules.specs.declared.entry.Cause.TheVariants.{Source, Strong, Weak}
use Rattle.journal_rules.specs.declared.entry.Part.{Part}
use Rattle.journal_rules.specs.declared.entry.Part.TheVariants.{From, First, Nothing}
use Rattle.journal_rules.specs.declared.entry.Why.{Why}
use Rattle.journal_rules.specs.declared.entry.Why.TheVariants.{Long, Wide, Unmet, Inner, OverRelease}
use Rattle.journal_rules.specs.declared.entry.DropWhy.{DropWhy}
use Rattle.journal_rules.specs.declared.entry.DropWhy.TheVariants.{Halted, Limit, Stuck}
use Rattle.journal_rules.specs.declared.entry.Entry.{Entry}
use Rattle.journal_rules.specs.declared.entry.Entry.TheVariants.{Start, End, Fault, Drop}
use Rattle.journal_text.specs.declared.version.Version.{Version}
use Rattle.journal_text.specs.declared.version.Version.TheVariants.{One, Two}
use Rattle.journal_text.specs.declared.reader.JournalError.{JournalError}
use Rattle.journal_text.specs.declared.reader.JournalError.TheVariants.{BadLine, NoMemory}

-- The fields of a line.

-- what a release comes from
abbrev pub cause_field : Cause → List ℕ
cause_field Source = codes "source"
cause_field Strong = codes "strong"
cause_field (Weak edge) = codes "weak:" ++ decimal edge

-- what a start finds at one of the edges that released it
abbrev pub part_field : Part → List ℕ
part_field (From place) = decimal place
part_field First = codes "first"
part_field Nothing = codes "nothing"

-- these with commas between them, or a dash where there is none
abbrev pub list_field : {A : Type 0} → (A → List ℕ) → List A → List ℕ
list_field field [] = codes "-"
list_field field (x ∷ xs) = field x ++ flat_map (λ y. codes "," ++ field y) xs

-- whether a start's work was a run of its own
abbrev pub inner_field : Bool → List ℕ
inner_field true = codes "inner"
inner_field false = codes "plain"

-- why a start faulted
abbrev pub fault_field : Why → List ℕ
fault_field (Long bytes) = codes "long:" ++ decimal bytes
fault_field (Wide parts) = codes "wide:" ++ decimal parts
fault_field (Unmet token) = codes "unmet:" ++ decimal token
fault_field Inner = codes "inner"
fault_field (OverRelease sem) = codes "over:" ++ decimal sem

-- why a release was dropped
abbrev pub drop_field : DropWhy → List ℕ
drop_field Halted = codes "halted"
drop_field Limit = codes "limit"
drop_field (Stuck sem) = codes "stuck:" ++ decimal sem

-- the line of an entry, with its end
abbrev pub entry_line : Entry → List ℕ
entry_line (Start task cause ins) = codes "start " ++ decimal task ++ codes " " ++ cause_field cause ++ codes " " ++ list_field part_field ins ++ codes "\n"
entry_line (End start gives inner) = codes "end " ++ decimal start ++ codes " " ++ list_field decimal gives ++ codes " " ++ inner_field inner ++ codes "\n"
entry_line (Fault start why) = codes "fault " ++ decimal start ++ codes " " ++ fault_field why ++ codes "\n"
entry_line (Drop task cause why) = codes "drop " ++ decimal task ++ codes " " ++ cause_field cause ++ codes " " ++ drop_field why ++ codes "\n"

-- the first line, with its end
abbrev pub version_line : Version → List ℕ
version_line One = codes "flow journal 1\n"
version_line Two = codes "flow journal 2\n"

-- The text of a journal: its first line, and a line for each entry.
abbrev pub journal_text : Version → List Entry → List ℕ
journal_text version journal = version_line version ++ flat_map entry_line journal

-- What has a line: places, starts and what a fault counts have 64 bits; tasks, edges and semaphores have 32.

abbrev pub FitsCause : Cause → Type 0
FitsCause (Weak edge) = edge < 2 ^ 32
FitsCause cause = Unit {0}

abbrev pub FitsPart : Part → Type 0
FitsPart (From place) = place < 2 ^ 64
FitsPart part = Unit {0}

-- version 1 has no line for an over-release
abbrev pub FitsWhy : Version → Why → Type 0
FitsWhy version (Long bytes) = bytes < 2 ^ 64
FitsWhy version (Wide parts) = parts < 2 ^ 64
FitsWhy version (Unmet token) = token < 2 ^ 64
FitsWhy version Inner = Unit {0}
FitsWhy One (OverRelease sem) = ⊥
FitsWhy Two (OverRelease sem) = sem < 2 ^ 32

-- version 1 has no line for a drop for want of a unit
abbrev pub FitsDropWhy : Version → DropWhy → Type 0
FitsDropWhy version Halted = Unit {0}
FitsDropWhy version Limit = Unit {0}
FitsDropWhy One (Stuck sem) = ⊥
FitsDropWhy Two (Stuck sem) = sem < 2 ^ 32

abbrev pub HasLine : Version → Entry → Type 0
HasLine version (Start task cause ins) = (task < 2 ^ 32) × FitsCause cause × AllByRecursion FitsPart ins
HasLine version (End start gives inner) = (start < 2 ^ 64) × AllByRecursion (λ edge. edge < 2 ^ 32) gives
HasLine version (Fault start why) = (start < 2 ^ 64) × FitsWhy version why
HasLine version (Drop task cause why) = (task < 2 ^ 32) × FitsCause cause × FitsDropWhy version why

-- The bytes are the journal's text in a version that has a line for each of its entries.
pub record IsJournalText (journal : List Entry) (bytes : List ℕ) : Type 0 where
  pub version : Version
  pub lines : AllByRecursion (HasLine version) journal
  pub text : bytes ≡ journal_text version journal

-- The bytes begin with so many lines that are the text of a journal.
pub record BeginsWithText (bytes : List ℕ) (lines : ℕ) : Type 0 where
  pub journal : List Entry
  pub text : List ℕ
  pub rest : List ℕ
  pub is : IsJournalText journal text
  pub parts : bytes ≡ text ++ rest
  pub count : lines ≡ length journal + 1

-- The first bad line, counted from 1: the lines before it are the text of a journal, if there are any; with it they
-- aren't. A line that has no end is bad, and so is the first line of an empty file.
pub record IsBadLine (bytes : List ℕ) (line : ℕ) : Type 0 where
  pub before : (line ≡ 1) ⊎ BeginsWithText bytes (line - 1)
  pub bad : ¬ BeginsWithText bytes line
  pub no_text : (journal : List Entry) → ¬ IsJournalText journal bytes

-- Why bytes aren't read as a journal's text.
abbrev pub RefusesJournal : List ℕ → JournalError → Type 0
RefusesJournal bytes (BadLine line) = IsBadLine bytes line
RefusesJournal bytes NoMemory = Unit {0}
