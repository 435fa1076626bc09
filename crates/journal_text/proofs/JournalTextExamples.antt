-- Texts of journals and first bad lines, computed.
use Rattle.std.specs.Fmt.{digits}
use Rattle.std.proofs.Common.{◌≡◌, ◌<◌, ℕ, List, [], ◌∷◌, ◌++◌, codes, refl, arith, length, None, true, false}
use Rattle.journal_rules.specs.declared.entry.Cause.TheVariants.{Source, Strong, Weak}
use Rattle.journal_rules.specs.declared.entry.Part.TheVariants.{From, First, Nothing}
use Rattle.journal_rules.specs.declared.entry.Why.TheVariants.{Long, Wide, Unmet, Inner, OverRelease}
use Rattle.journal_rules.specs.declared.entry.DropWhy.TheVariants.{Halted, Limit, Stuck}
use Rattle.journal_rules.specs.declared.entry.Entry.{Entry}
use Rattle.journal_rules.specs.declared.entry.Entry.TheVariants.{Start, End, Fault, Drop}
use Rattle.journal_text.specs.declared.version.Version.TheVariants.{One, Two}
use Rattle.journal_text.specs.declared.reader.JournalError.TheVariants.{BadLine, NoMemory}
use Rattle.journal_text.specs.JournalText.{entry_line, journal_text, FitsCause, FitsPart, FitsWhy, FitsDropWhy, HasLine, IsJournalText, BeginsWithText, IsBadLine, RefusesJournal}
use Rattle.journal_text.specs.inside.Reading.{version_at, entry_at, unlisted_at, start_line_at, end_line_at, fault_line_at, place_at, task_at, release_at, why_at, number_at, index_at, named_number_at, named_index_at}
use Rattle.journal_text.proofs.TextLemmas.{no_first_line, bad_line, one_line, one_journal}

-- A start from each cause, with each kind of part; none is a dash.
of_a_source : entry_line (Start 0 Source []) ≡ codes "start 0 source -\n"
unfolding digits
of_a_source = refl

of_strong_edges : entry_line (Start 12 Strong (From 3 ∷ First ∷ Nothing ∷ [])) ≡ codes "start 12 strong 3,first,nothing\n"
unfolding digits
of_strong_edges = refl

of_a_weak_edge : entry_line (Start 4294967295 (Weak 7) (From 0 ∷ [])) ≡ codes "start 4294967295 weak:7 0\n"
unfolding digits
of_a_weak_edge = refl

-- An end that gives edges, one that gives none, and one of a run of its own.
plain_end : entry_line (End 5 (2 ∷ 10 ∷ []) false) ≡ codes "end 5 2,10 plain\n"
unfolding digits
plain_end = refl

inner_end : entry_line (End 18446744073709551615 [] true) ≡ codes "end 18446744073709551615 - inner\n"
unfolding digits
inner_end = refl

-- A fault for each reason, and a drop for each.
long_fault : entry_line (Fault 1 (Long 16777217)) ≡ codes "fault 1 long:16777217\n"
unfolding digits
long_fault = refl

wide_fault : entry_line (Fault 1 (Wide 65537)) ≡ codes "fault 1 wide:65537\n"
unfolding digits
wide_fault = refl

unmet_fault : entry_line (Fault 1 (Unmet 4)) ≡ codes "fault 1 unmet:4\n"
unfolding digits
unmet_fault = refl

inner_fault : entry_line (Fault 1 Inner) ≡ codes "fault 1 inner\n"
unfolding digits
inner_fault = refl

over_fault : entry_line (Fault 1 (OverRelease 0)) ≡ codes "fault 1 over:0\n"
unfolding digits
over_fault = refl

halted_drop : entry_line (Drop 2 Strong Halted) ≡ codes "drop 2 strong halted\n"
unfolding digits
halted_drop = refl

limit_drop : entry_line (Drop 2 (Weak 1) Limit) ≡ codes "drop 2 weak:1 limit\n"
unfolding digits
limit_drop = refl

stuck_drop : entry_line (Drop 2 Source (Stuck 9)) ≡ codes "drop 2 source stuck:9\n"
unfolding digits
stuck_drop = refl

-- The text has a first line, and one for each entry.
empty_text : journal_text One [] ≡ codes "flow journal 1\n"
empty_text = refl

abbrev two_entries : List Entry
two_entries = Start 0 Source [] ∷ End 0 (0 ∷ []) false ∷ []

short_text : journal_text Two two_entries ≡ codes "flow journal 2\nstart 0 source -\nend 0 0 plain\n"
unfolding digits
short_text = refl

-- Ranges: the greatest numbers have a line, the next ones don't.
greatest_edge : FitsCause (Weak 4294967295)
greatest_edge = omega arith

edge_too_great : ¬ FitsCause (Weak 4294967296)
edge_too_great fits = omega arith

strong_fits : FitsCause Strong
strong_fits = tt

greatest_place : FitsPart (From 18446744073709551615)
greatest_place = omega arith

place_too_great : ¬ FitsPart (From 18446744073709551616)
place_too_great fits = omega arith

first_fits : FitsPart First
first_fits = tt

greatest_length : FitsWhy One (Long 18446744073709551615)
greatest_length = omega arith

length_too_great : ¬ FitsWhy Two (Long 18446744073709551616)
length_too_great fits = omega arith

width_too_great : ¬ FitsWhy Two (Wide 18446744073709551616)
width_too_great fits = omega arith

token_too_great : ¬ FitsWhy Two (Unmet 18446744073709551616)
token_too_great fits = omega arith

over_in_version_two : FitsWhy Two (OverRelease 4294967295)
over_in_version_two = omega arith

over_too_great : ¬ FitsWhy Two (OverRelease 4294967296)
over_too_great fits = omega arith

-- Version 1 has no over-release and no drop for want of a unit.
over_in_version_one : ¬ FitsWhy One (OverRelease 0)
over_in_version_one fits = fits

inner_in_version_one : FitsWhy One Inner
inner_in_version_one = tt

stuck_in_version_two : FitsDropWhy Two (Stuck 4294967295)
stuck_in_version_two = omega arith

stuck_too_great : ¬ FitsDropWhy Two (Stuck 4294967296)
stuck_too_great fits = omega arith

stuck_in_version_one : ¬ FitsDropWhy One (Stuck 0)
stuck_in_version_one fits = fits

halted_in_version_one : FitsDropWhy One Halted
halted_in_version_one = tt

-- Each field of a line has its range.
task_too_great : ¬ HasLine Two (Start 4294967296 Source [])
task_too_great has = let fits = has.0 in omega arith

part_of_a_start : ¬ HasLine Two (Start 0 Strong (From 18446744073709551616 ∷ []))
part_of_a_start has = let fits = has.2.0 in omega arith

start_too_great : ¬ HasLine Two (End 18446744073709551616 [] false)
start_too_great has = let fits = has.0 in omega arith

edge_of_an_end : ¬ HasLine Two (End 0 (1 ∷ 4294967296 ∷ []) false)
edge_of_an_end has = let fits = has.1.1.0 in omega arith

fault_too_great : ¬ HasLine Two (Fault 18446744073709551616 Inner)
fault_too_great has = let fits = has.0 in omega arith

drop_too_great : ¬ HasLine Two (Drop 4294967296 Source Halted)
drop_too_great has = let fits = has.0 in omega arith

-- Bytes that are a text, in either version; and those of a journal that version 1 has no text of.
is_a_text : IsJournalText two_entries (codes "flow journal 2\nstart 0 source -\nend 0 0 plain\n")
unfolding digits
is_a_text = record { version = Two; lines = ((omega arith, tt, tt), ((omega arith, (omega arith, tt)), tt)); text = refl }

is_a_text_of_version_one : IsJournalText two_entries (codes "flow journal 1\nstart 0 source -\nend 0 0 plain\n")
unfolding digits
is_a_text_of_version_one = record { version = One; lines = ((omega arith, tt, tt), ((omega arith, (omega arith, tt)), tt)); text = refl }

-- What begins with a text of one line, and of two.
begins_with_a_line : BeginsWithText (codes "flow journal 2\nstart 0 so") 1
begins_with_a_line = record { journal = []; text = codes "flow journal 2\n"; rest = codes "start 0 so"; is = record { version = Two; lines = tt; text = refl }; parts = refl; count = omega arith }

begins_with_two_lines : BeginsWithText (codes "flow journal 1\nstart 0 source -\nx") 2
unfolding digits
begins_with_two_lines = record {
  journal = Start 0 Source [] ∷ [];
  text = codes "flow journal 1\nstart 0 source -\n";
  rest = codes "x";
  is = record { version = One; lines = ((omega arith, tt, tt), tt); text = refl };
  parts = refl;
  count = omega arith;
}

-- First lines that are bad: none, another version, one without its end, and one that a carriage return ends.
no_line : IsBadLine [] 1
unfolding version_at
no_line = no_first_line [] refl

another_version : IsBadLine (codes "flow journal 3\n") 1
unfolding version_at
another_version = no_first_line (codes "flow journal 3\n") refl

first_line_without_end : IsBadLine (codes "flow journal 2") 1
unfolding version_at
first_line_without_end = no_first_line (codes "flow journal 2") refl

carriage_return : IsBadLine (codes "flow journal 2\r\n") 1
unfolding version_at
carriage_return = no_first_line (codes "flow journal 2\r\n") refl

-- The second line is bad: it is empty, it has a leading zero, a plus, two spaces or no end.
second_bad : (rest : List ℕ) → 0 < length rest → entry_at Two rest ≡ None → IsBadLine (codes "flow journal 2\n" ++ rest) 2
second_bad rest some bad =
    bad_line (codes "flow journal 2\n" ++ rest) rest Two 2 refl (record { journal = []; rest = rest; read = record { lines = tt; parts = refl }; some = some; bad = bad; number = omega arith })

empty_line : IsBadLine (codes "flow journal 2\n\n") 2
unfolding entry_at unlisted_at
empty_line = second_bad (codes "\n") (omega arith) refl

leading_zero : IsBadLine (codes "flow journal 2\nstart 01 source -\n") 2
unfolding entry_at start_line_at release_at task_at index_at number_at
leading_zero = second_bad (codes "start 01 source -\n") (omega arith) refl

a_plus : IsBadLine (codes "flow journal 2\nend +1 - plain\n") 2
unfolding entry_at end_line_at place_at number_at
a_plus = second_bad (codes "end +1 - plain\n") (omega arith) refl

two_spaces : IsBadLine (codes "flow journal 2\nfault  1 inner\n") 2
unfolding entry_at unlisted_at fault_line_at place_at number_at
two_spaces = second_bad (codes "fault  1 inner\n") (omega arith) refl

no_end : IsBadLine (codes "flow journal 2\nfault 1 inner") 2
unfolding entry_at unlisted_at fault_line_at place_at number_at why_at named_number_at
no_end = second_bad (codes "fault 1 inner") (omega arith) refl

-- The line behind two good ones is bad.
third_line : IsBadLine (codes "flow journal 1\nstart 0 source -\nfault 0 over:0\n") 3
unfolding entry_at unlisted_at fault_line_at place_at number_at why_at named_number_at named_index_at digits
third_line =
    bad_line (codes "flow journal 1\nstart 0 source -\nfault 0 over:0\n") (codes "start 0 source -\nfault 0 over:0\n") One 3 refl
    (record {
      journal = Start 0 Source [] ∷ [];
      rest = codes "fault 0 over:0\n";
      read = record { lines = ((omega arith, tt, tt), tt); parts = refl };
      some = omega arith;
      bad = refl;
      number = omega arith;
    })

-- A text has no bad line: neither the last one nor the one that would follow.
last_line_is_good : ¬ IsBadLine (codes "flow journal 2\nstart 0 source -\nend 0 0 plain\n") 3
last_line_is_good bad = bad.no_text two_entries is_a_text

no_line_behind : ¬ IsBadLine (codes "flow journal 2\nstart 0 source -\nend 0 0 plain\n") 4
no_line_behind bad = bad.no_text two_entries is_a_text

-- A line behind the first bad one isn't the first.
line_behind_the_bad_one : ¬ IsBadLine (codes "flow journal 3\n\n") 2
unfolding version_at
line_behind_the_bad_one bad = absurd (let one = one_line (codes "flow journal 3\n\n") 1 2 (no_first_line (codes "flow journal 3\n\n") refl) bad in omega arith)

-- A line before it isn't.
good_line : ¬ IsBadLine (codes "flow journal 2\nstart 0 so") 1
good_line bad = bad.bad begins_with_a_line

-- The refusal names the bad line; out of memory says nothing of the bytes.
names_it : RefusesJournal [] (BadLine 1)
names_it = no_line

out_of_memory : RefusesJournal (codes "flow journal 2\n") NoMemory
out_of_memory = tt

-- Bytes that are no text of any journal; and a journal of which they are no text.
no_text : (journal : List Entry) → ¬ IsJournalText journal (codes "flow journal 2\nstart 01 source -\n")
no_text = leading_zero.no_text

no_text_of_another : ¬ IsJournalText [] (codes "flow journal 2\nstart 0 source -\nend 0 0 plain\n")
no_text_of_another is = let same : [] ≡ two_entries = one_journal [] two_entries (codes "flow journal 2\nstart 0 source -\nend 0 0 plain\n") is is_a_text in absurd (cc)

-- More lines than there are begin no text, and a line without its end isn't one.
no_third_line : ¬ BeginsWithText (codes "flow journal 2\nfault 1 inner") 2
no_third_line = no_end.bad

-- Each part of an entry is asked for: the edge of a cause, each part that is found, and why it faulted or was dropped,
-- by its version.
cause_of_a_start : ¬ HasLine Two (Start 0 (Weak 4294967296) [])
cause_of_a_start has = let fits = has.1 in omega arith

second_part_of_a_start : ¬ HasLine Two (Start 0 Strong (First ∷ From 18446744073709551616 ∷ []))
second_part_of_a_start has = let fits = has.2.1.0 in omega arith

length_of_a_fault : ¬ HasLine Two (Fault 0 (Long 18446744073709551616))
length_of_a_fault has = let fits = has.1 in omega arith

fault_by_version : HasLine Two (Fault 18446744073709551615 (OverRelease 0)) × ¬ HasLine One (Fault 0 (OverRelease 0))
fault_by_version = ((omega arith, omega arith), λ has. has.1)

cause_of_a_drop : ¬ HasLine Two (Drop 0 (Weak 4294967296) Halted)
cause_of_a_drop has = let fits = has.1 in omega arith

drop_by_version : HasLine Two (Drop 4294967295 Source (Stuck 0)) × ¬ HasLine One (Drop 0 Source (Stuck 0))
drop_by_version = ((omega arith, tt, omega arith), λ has. has.2)

-- Lines without room for their numbers are no text, though they would be written so.
line_of_a_great_task : journal_text Two (Start 4294967296 Source [] ∷ []) ≡ codes "flow journal 2\nstart 4294967296 source -\n"
unfolding digits
line_of_a_great_task = refl

text_of_a_great_task : ¬ IsJournalText (Start 4294967296 Source [] ∷ []) (codes "flow journal 2\nstart 4294967296 source -\n")
text_of_a_great_task is = let fits = is.lines.0.0 in omega arith
