-- Texts of journals: no two are alike, and where a text is cut off.
use Rattle.std.proofs.Common.{◌≡◌, ℕ, zero, suc, ◌+◌, ◌-◌, ◌<◌, ◌≤◌, List, [], ◌∷◌, ◌++◌, length, take, drop, refl, sym, ap, ◌∙◌, arith, append_assoc, append-nil, length-append, Some, None, ◌⊎◌, inl, inr, ⊎_elim, nat_lt, Result, Ok, Err, IfOk, IfErr}
use Rattle.std.specs.List.{AllByRecursion, flat_map}
use Rattle.journal_rules.specs.declared.entry.Entry.{Entry}
use Rattle.journal_rules.specs.declared.entry.Entry.TheVariants.{Start, End, Fault, Drop}
use Rattle.journal_text.specs.declared.version.Version.{Version}
use Rattle.journal_text.specs.JournalText.{HasLine, entry_line, version_line, journal_text, IsJournalText, BeginsWithText, IsBadLine, RefusesJournal}
use Rattle.journal_text.specs.declared.reader.JournalError.{JournalError}
use Rattle.journal_text.specs.declared.reader.JournalError.TheVariants.{BadLine, NoMemory}
use Rattle.std.proofs.lemmas.Bool.{cases_Bool, ltb-true, ltb-false}
use Rattle.std.proofs.lemmas.Grind.{flat_map-append}
use Rattle.std.proofs.lemmas.List.{length_push, length-take-le, take-append-drop}
use Rattle.journal_text.specs.inside.Reading.{ReadFront, entry_at, version_at, HasRead, StopsAtLine, StopsReading}
use Rattle.journal_text.proofs.LineLemmas.{entry_again, entry_sound, version_again, version_sound}

-- a line has a byte at least
pub length-entry_line : (entry : Entry) → 0 < length (entry_line entry)
length-entry_line (Start task cause ins) = omega arith
length-entry_line (End start gives inner) = omega arith
length-entry_line (Fault start why) = omega arith
length-entry_line (Drop task cause why) = omega arith

-- what stands behind entries that two lists of lines begin with alike
record GoesOn (version : Version) (fewer others : List Entry) (rest behind : List ℕ) : Type 0 where
  more : List Entry
  same : others ≡ fewer ++ more
  lines : AllByRecursion (HasLine version) more
  parts : rest ≡ flat_map entry_line more ++ behind

goes_on : (version : Version) (fewer others : List Entry) (rest behind : List ℕ) → AllByRecursion (HasLine version) fewer → AllByRecursion (HasLine version) others
    → length fewer ≤ length others → flat_map entry_line fewer ++ rest ≡ flat_map entry_line others ++ behind → GoesOn version fewer others rest behind
goes_on version [] others rest behind lines lines' short alike = record { more = others; same = refl; lines = lines'; parts = alike }
goes_on version (x ∷ fewer) [] rest behind lines lines' short alike = absurd (omega arith)
goes_on version (x ∷ fewer) (y ∷ others) rest behind lines lines' short alike =
    let left = ap (entry_at version) (append_assoc (entry_line x) (flat_map entry_line fewer) rest) ∙ entry_again version x (flat_map entry_line fewer ++ rest) lines.0 in
    let right = ap (entry_at version) (append_assoc (entry_line y) (flat_map entry_line others) behind) ∙ entry_again version y (flat_map entry_line others ++ behind) lines'.0 in
    let both : ◌≡◌ {A = ReadFront Entry} (Some (x, flat_map entry_line fewer ++ rest)) (Some (y, flat_map entry_line others ++ behind)) = sym left ∙ ap (entry_at version) alike ∙ right in
    let pair : ◌≡◌ {A = Entry × List ℕ} (x, flat_map entry_line fewer ++ rest) (y, flat_map entry_line others ++ behind) = cc in
    let first : x ≡ y = ap (λ (read : Entry × List ℕ). read.0) pair in
    let next = goes_on version fewer others rest behind lines.1 lines'.1 (omega arith) (ap (λ (read : Entry × List ℕ). read.1) pair) in
    record { more = next.more; same = ap (λ entry. entry ∷ others) (sym first) ∙ ap (λ entries. x ∷ entries) next.same; lines = next.lines; parts = next.parts }

-- texts that begin alike have one version, and the same lines behind the first
same_version : (v w : Version) (rest behind : List ℕ) → version_line v ++ rest ≡ version_line w ++ behind → (v ≡ w) × (rest ≡ behind)
same_version v w rest behind alike =
    let both : ◌≡◌ {A = ReadFront Version} (Some (v, rest)) (Some (w, behind)) = sym (version_again v rest) ∙ ap version_at alike ∙ version_again w behind in
    let pair : ◌≡◌ {A = Version × List ℕ} (v, rest) (w, behind) = cc in
    (ap (λ (read : Version × List ℕ). read.0) pair, ap (λ (read : Version × List ℕ). read.1) pair)

-- lines without bytes are none
nothing_left : (more : List Entry) (behind : List ℕ) → [] ≡ flat_map entry_line more ++ behind → more ≡ []
nothing_left [] behind is = refl
nothing_left (x ∷ more) behind is =
    absurd (omega (arith, ap length is, length-append (flat_map entry_line (x ∷ more)) behind, length-append (entry_line x) (flat_map entry_line more), length-entry_line x))

same_length : (version : Version) (fewer others : List Entry) → AllByRecursion (HasLine version) fewer → AllByRecursion (HasLine version) others
    → length fewer ≤ length others → flat_map entry_line fewer ≡ flat_map entry_line others → fewer ≡ others
same_length version fewer others lines lines' short alike =
    let on = goes_on version fewer others [] [] lines lines' short (ap (λ bytes. bytes ++ []) alike) in
    sym (on.same ∙ ap (λ more. fewer ++ more) (nothing_left on.more [] on.parts) ∙ append-nil fewer)

same_entries : (version : Version) (a b : List Entry) → AllByRecursion (HasLine version) a → AllByRecursion (HasLine version) b → flat_map entry_line a ≡ flat_map entry_line b → a ≡ b
same_entries version a b lines lines' alike = ⊎_elim
    (λ short. same_length version a b lines lines' (let below = ltb-true _ _ short in omega arith) alike)
    (λ long. sym (same_length version b a lines' lines (ltb-false _ _ long) (sym alike)))
    (cases_Bool (nat_lt (length a) (length b)))

-- a text is that of one journal
pub one_journal : (a b : List Entry) (bytes : List ℕ) → IsJournalText a bytes → IsJournalText b bytes → a ≡ b
one_journal a b bytes one other =
    let alike = same_version one.version other.version (flat_map entry_line a) (flat_map entry_line b) (sym one.text ∙ other.text) in
    let lines : AllByRecursion (HasLine one.version) b = rw alike.0 other.lines in
    same_entries one.version a b one.lines lines alike.1

-- ---- where reading stops

-- bytes that don't begin with the first line of either version
pub no_first_line : (bytes : List ℕ) → version_at bytes ≡ None → IsBadLine bytes 1
no_first_line bytes none =
    let apart : (version : Version) (rest : List ℕ) → bytes ≡ version_line version ++ rest → ⊥ = λ version rest is.
    let there = ap version_at is ∙ version_again version rest in cc in
    record {
      before = inl refl;
      bad = λ begins. apart begins.is.version (flat_map entry_line begins.journal ++ begins.rest)
          (begins.parts ∙ ap (λ text. text ++ begins.rest) begins.is.text ∙ append_assoc (version_line begins.is.version) (flat_map entry_line begins.journal) begins.rest);
      no_text = λ journal is. apart is.version (flat_map entry_line journal) is.text;
    }

-- a line that isn't an entry's has no entry that goes on with it
no_entry : (version : Version) (more : List Entry) (rest behind : List ℕ) → entry_at version rest ≡ None → 0 < length more → AllByRecursion (HasLine version) more → rest ≡ flat_map entry_line more ++ behind → ⊥
no_entry version [] rest behind bad some lines parts = omega arith
no_entry version (x ∷ more) rest behind bad some lines parts =
    let there = ap (entry_at version) (parts ∙ append_assoc (entry_line x) (flat_map entry_line more) behind) ∙ entry_again version x (flat_map entry_line more ++ behind) lines.0 in
    let none = sym there ∙ bad in
    cc

not_on : (version : Version) (fewer others : List Entry) (rest behind : List ℕ) → entry_at version rest ≡ None → length fewer < length others → GoesOn version fewer others rest behind → ⊥
not_on version fewer others rest behind bad longer on =
    no_entry version on.more rest behind bad (omega (arith, ap length on.same, length-append fewer on.more)) on.lines on.parts

-- a text that begins so has as many entries at most
no_longer : (bytes rest : List ℕ) (version : Version) (line : ℕ) → bytes ≡ version_line version ++ rest → (stops : StopsAtLine version rest line)
    → (journal : List Entry) (behind : List ℕ) (w : Version) → AllByRecursion (HasLine w) journal → bytes ≡ version_line w ++ (flat_map entry_line journal ++ behind)
    → length stops.journal < length journal → ⊥
no_longer bytes rest version line first stops journal behind w lines is longer =
    let same = same_version version w rest (flat_map entry_line journal ++ behind) (sym first ∙ is) in
    let lines' : AllByRecursion (HasLine version) journal = rw same.0 lines in
    not_on version stops.journal journal stops.rest behind stops.bad longer
    (goes_on version stops.journal journal stops.rest behind stops.read.lines lines' (omega arith) (sym stops.read.parts ∙ same.1))

-- a whole text isn't shorter than what was read
no_shorter : (bytes rest : List ℕ) (version : Version) (line : ℕ) → bytes ≡ version_line version ++ rest → (stops : StopsAtLine version rest line)
    → (journal : List Entry) (w : Version) → AllByRecursion (HasLine w) journal → bytes ≡ version_line w ++ flat_map entry_line journal → length journal ≤ length stops.journal → ⊥
no_shorter bytes rest version line first stops journal w lines is shorter =
    let same = same_version version w rest (flat_map entry_line journal) (sym first ∙ is) in
    let lines' : AllByRecursion (HasLine version) journal = rw same.0 lines in
    let on = goes_on version journal stops.journal [] stops.rest lines' stops.read.lines shorter (append-nil (flat_map entry_line journal) ∙ sym same.1 ∙ stops.read.parts) in
    let some = stops.some in
    omega (arith, ap length on.parts, length-append (flat_map entry_line on.more) stops.rest)

pub bad_line : (bytes rest : List ℕ) (version : Version) (line : ℕ) → bytes ≡ version_line version ++ rest → StopsAtLine version rest line → IsBadLine bytes line
bad_line bytes rest version line first stops =
    let number = stops.number in
    record {
      before = inr (record {
        journal = stops.journal;
        text = journal_text version stops.journal;
        rest = stops.rest;
        is = record { version = version; lines = stops.read.lines; text = refl };
        parts = first ∙ ap (λ more. version_line version ++ more) stops.read.parts ∙ sym (append_assoc (version_line version) (flat_map entry_line stops.journal) stops.rest);
        count = omega arith;
      });
      bad = λ begins.
          let count = begins.count in
          no_longer bytes rest version line first stops begins.journal begins.rest begins.is.version begins.is.lines
          (begins.parts ∙ ap (λ text. text ++ begins.rest) begins.is.text ∙ append_assoc (version_line begins.is.version) (flat_map entry_line begins.journal) begins.rest)
          (omega arith);
      no_text = λ journal is. ⊎_elim
          (λ more. no_longer bytes rest version line first stops journal [] is.version is.lines
          (is.text ∙ ap (λ text. version_line is.version ++ text) (sym (append-nil (flat_map entry_line journal)))) (ltb-true _ _ more))
          (λ fewer. no_shorter bytes rest version line first stops journal is.version is.lines is.text (ltb-false _ _ fewer))
          (cases_Bool (nat_lt (length stops.journal) (length journal)));
    }

-- ---- one line more

lines-more : (version : Version) (journal : List Entry) (entry : Entry) → AllByRecursion (HasLine version) journal → HasLine version entry → AllByRecursion (HasLine version) (journal ++ entry ∷ [])
lines-more version [] entry lines has = (has, tt)
lines-more version (x ∷ journal) entry lines has = (lines.0, lines-more version journal entry lines.1 has)

pub read_more : (version : Version) (bytes : List ℕ) (journal after : List Entry) (rest behind : List ℕ) (entry : Entry) → HasRead version bytes journal rest → after ≡ journal ++ entry ∷ []
    → entry_at version rest ≡ Some (entry, behind) → HasRead version bytes after behind
read_more version bytes journal after rest behind entry read put is =
    let next = entry_sound version rest entry behind is in
    let all : flat_map entry_line after ≡ flat_map entry_line journal ++ entry_line entry =
    ap (flat_map entry_line) put ∙ flat_map-append entry_line journal (entry ∷ []) ∙ ap (λ more. flat_map entry_line journal ++ more) (append-nil (entry_line entry)) in
    record {
      lines = rw put (lines-more version journal entry read.lines next.1);
      parts = read.parts ∙ ap (λ more. flat_map entry_line journal ++ more) next.0 ∙ sym (append_assoc (flat_map entry_line journal) (entry_line entry) behind) ∙ ap (λ front. front ++ behind) (sym all);
    }

pub shorter : (version : Version) (rest behind : List ℕ) (entry : Entry) → entry_at version rest ≡ Some (entry, behind) → length behind < length rest
shorter version rest behind entry is =
    let next = entry_sound version rest entry behind is in
    omega (arith, ap length next.0, length-append (entry_line entry) behind, length-entry_line entry)

read_whole : (version : Version) (bytes rest : List ℕ) (journal : List Entry) → version_at bytes ≡ Some (version, rest) → HasRead version rest journal [] → IsJournalText journal bytes
read_whole version bytes rest journal is read = record {
  version = version;
  lines = read.lines;
  text = version_sound bytes version rest is ∙ ap (λ more. version_line version ++ more) (read.parts ∙ append-nil (flat_map entry_line journal));
}

pub one_longer : (journal after : List Entry) (entry : Entry) → after ≡ journal ++ entry ∷ [] → length after ≡ length journal + 1
one_longer journal after entry put = ap length put ∙ length_push journal entry

pub texts_so : (version : Version) (bytes rest : List ℕ) (read : Result (List Entry) JournalError) → version_at bytes ≡ Some (version, rest)
    → IfOk read (λ journal. HasRead version rest journal []) → IfOk read (λ journal. IsJournalText journal bytes)
texts_so version bytes rest (Ok journal) is has = read_whole version bytes rest journal is has
texts_so version bytes rest (Err error) is has = tt

stops_so : (version : Version) (bytes rest : List ℕ) (error : JournalError) → version_at bytes ≡ Some (version, rest) → StopsReading version rest error → RefusesJournal bytes error
stops_so version bytes rest (BadLine line) is stops = bad_line bytes rest version line (version_sound bytes version rest is) stops
stops_so version bytes rest NoMemory is stops = tt

pub refusals_so : (version : Version) (bytes rest : List ℕ) (read : Result (List Entry) JournalError) → version_at bytes ≡ Some (version, rest)
    → IfErr read (λ error. StopsReading version rest error) → IfErr read (λ error. RefusesJournal bytes error)
refusals_so version bytes rest (Ok journal) is stops = tt
refusals_so version bytes rest (Err error) is stops = stops_so version bytes rest error is stops

-- a text is read, unless an allocation fails
pub text_is_read : (bytes : List ℕ) (read : Result (List Entry) JournalError) → IfOk read (λ journal. IsJournalText journal bytes) → IfErr read (λ error. RefusesJournal bytes error)
    → (journal : List Entry) → IsJournalText journal bytes → (read ≡ Ok journal) ⊎ (read ≡ Err NoMemory)
text_is_read bytes (Ok other) is refused journal text = inl (ap Ok (one_journal other journal bytes is text))
text_is_read bytes (Err (BadLine line)) is refused journal text = absurd (refused.no_text journal text)
text_is_read bytes (Err NoMemory) is refused journal text = inr refl

-- ---- laws

pub one_version : (v w : Version) (journal other : List Entry) → journal_text v journal ≡ journal_text w other → v ≡ w
one_version v w journal other same = (same_version v w (flat_map entry_line journal) (flat_map entry_line other) same).0

lines-take : (version : Version) (n : ℕ) (journal : List Entry) → AllByRecursion (HasLine version) journal → AllByRecursion (HasLine version) (take n journal)
lines-take version zero journal lines = tt
lines-take version (suc n) [] lines = tt
lines-take version (suc n) (x ∷ journal) lines = (lines.0, lines-take version n journal lines.1)

-- what begins with a text begins with the text of its first entries
fewer_lines : (bytes : List ℕ) (few many : ℕ) → 0 < few → few ≤ many → BeginsWithText bytes many → BeginsWithText bytes few
fewer_lines bytes few many some less begins =
    let count = begins.count in
    let first = take (few - 1) begins.journal in
    let others = drop (few - 1) begins.journal in
    let split : flat_map entry_line begins.journal ≡ flat_map entry_line first ++ flat_map entry_line others =
    ap (flat_map entry_line) (sym (take-append-drop (few - 1) begins.journal)) ∙ flat_map-append entry_line first others in
    let version = begins.is.version in
    record {
      journal = first;
      text = journal_text version first;
      rest = flat_map entry_line others ++ begins.rest;
      is = record { version = version; lines = lines-take version (few - 1) begins.journal begins.is.lines; text = refl };
      parts = begins.parts
          ∙ ap (λ text. text ++ begins.rest) (begins.is.text ∙ ap (λ lines. version_line version ++ lines) split ∙ sym (append_assoc (version_line version) (flat_map entry_line first) (flat_map entry_line others)))
          ∙ append_assoc (journal_text version first) (flat_map entry_line others) begins.rest;
      count = omega (arith, length-take-le (few - 1) begins.journal (omega arith));
    }

not_before : (bytes : List ℕ) (m n : ℕ) → IsBadLine bytes m → IsBadLine bytes n → 0 < m → m < n → ⊥
not_before bytes m n bad later some less = ⊎_elim
    (λ first. omega arith)
    (λ begins. bad.bad (fewer_lines bytes m (n - 1) some (omega arith) begins))
    later.before

from_one : (bytes : List ℕ) (n : ℕ) → IsBadLine bytes n → 0 < n
from_one bytes n bad = ⊎_elim
    (λ first. omega arith)
    (λ begins. let count = begins.count in omega arith)
    bad.before

pub one_line : (bytes : List ℕ) (m n : ℕ) → IsBadLine bytes m → IsBadLine bytes n → m ≡ n
one_line bytes m n bad other = ⊎_elim
    (λ less. absurd (not_before bytes m n bad other (from_one bytes m bad) (ltb-true _ _ less)))
    (λ no_less. ⊎_elim
    (λ more. absurd (not_before bytes n m other bad (from_one bytes n other) (ltb-true _ _ more)))
    (λ no_more. let one = ltb-false _ _ no_less in let two = ltb-false _ _ no_more in omega arith)
    (cases_Bool (nat_lt n m)))
    (cases_Bool (nat_lt m n))
