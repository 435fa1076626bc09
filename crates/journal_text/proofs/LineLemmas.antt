-- Lines of a journal's text, read and written.
use Rattle.std.proofs.Common.{◌≡◌, ℕ, ◌<◌, ◌^◌, Bool, List, ◌∷◌, ◌++◌, refl, sym, ap, ◌∙◌, append_assoc, Some, inl, inr, decimal, codes}
use Rattle.journal_rules.specs.declared.entry.Cause.{Cause}
use Rattle.journal_rules.specs.declared.entry.Entry.{Entry}
use Rattle.journal_rules.specs.declared.entry.Entry.TheVariants.{Start, End, Fault, Drop}
use Rattle.journal_text.specs.declared.version.Version.{Version}
use Rattle.journal_text.specs.declared.version.Version.TheVariants.{One, Two}
use Rattle.journal_text.specs.JournalText.{cause_field, part_field, list_field, inner_field, fault_field, drop_field, entry_line, version_line, FitsCause, HasLine}
use Rattle.journal_text.specs.inside.Reading.{ReadFront, ◌>>=◌, or_else, word_at, number_at, index_at, cause_at, part_at, list_at, inner_field_at, why_at, drop_why_at, place_at, task_at, release_at, start_line_at, end_line_at, last_inner_field_at, fault_line_at, drop_line_at, unlisted_at, entry_at, version_at}
use Rattle.journal_text.proofs.Steps.{bind_some, or_some}
use Rattle.journal_text.proofs.NumberLemmas.{number_sound, number_again, index_sound, index_again}
use Rattle.journal_text.proofs.FieldLemmas.{Stands, stands_at, word_sound, cause_sound, cause_again, inner_sound, inner_again, why_sound, why_again, drop_why_sound, drop_why_again}
use Rattle.journal_text.proofs.ItemLemmas.{list_sound, list_again, are_edges, are_parts}

-- ---- what is written

-- the lines of entries, with what stands behind them
start_line : (task : ℕ) (cause : Cause) (ins rest : List ℕ)
    → (codes "start " ++ decimal task ++ codes " " ++ cause_field cause ++ codes " " ++ ins ++ codes "\n") ++ rest
    ≡ codes "start " ++ (decimal task ++ 32 ∷ (cause_field cause ++ 32 ∷ (ins ++ 10 ∷ rest)))
start_line task cause ins rest = simp append_assoc

end_line : (start gives inner rest : List ℕ)
    → (codes "end " ++ start ++ codes " " ++ gives ++ codes " " ++ inner ++ codes "\n") ++ rest
    ≡ codes "end " ++ (start ++ 32 ∷ (gives ++ 32 ∷ (inner ++ 10 ∷ rest)))
end_line start gives inner rest = simp append_assoc

fault_line : (start why rest : List ℕ)
    → (codes "fault " ++ start ++ codes " " ++ why ++ codes "\n") ++ rest ≡ codes "fault " ++ (start ++ 32 ∷ (why ++ 10 ∷ rest))
fault_line start why rest = simp append_assoc

drop_line : (task cause why rest : List ℕ)
    → (codes "drop " ++ task ++ codes " " ++ cause ++ codes " " ++ why ++ codes "\n") ++ rest
    ≡ codes "drop " ++ (task ++ 32 ∷ (cause ++ 32 ∷ (why ++ 10 ∷ rest)))
drop_line task cause why rest = simp append_assoc

place_again : (place : ℕ) (rest : List ℕ) → place < 2 ^ 64 → place_at (decimal place ++ 32 ∷ rest) ≡ Some (place, rest)
unfolding place_at
place_again place rest fits = rw (number_again place 32 rest fits refl) refl

release_again : (task : ℕ) (cause : Cause) (rest : List ℕ) → task < 2 ^ 32 → FitsCause cause
    → release_at (decimal task ++ 32 ∷ (cause_field cause ++ 32 ∷ rest)) ≡ Some ((task, cause), rest)
unfolding release_at task_at
release_again task cause rest fits cause_fits =
    rw (index_again task 32 (cause_field cause ++ 32 ∷ rest) fits refl, cause_again cause 32 rest cause_fits refl) refl

pub entry_again : (version : Version) (entry : Entry) (rest : List ℕ) → HasLine version entry → entry_at version (entry_line entry ++ rest) ≡ Some (entry, rest)
unfolding entry_at unlisted_at start_line_at end_line_at last_inner_field_at fault_line_at drop_line_at
entry_again version (Start task cause ins) rest has =
    ap (entry_at version) (start_line task cause (list_field part_field ins) rest)
    ∙ rw (release_again task cause (list_field part_field ins ++ 10 ∷ rest) has.0 has.1, list_again are_parts ins 10 rest has.2 refl refl) refl
entry_again version (End start gives inner) rest has =
    ap (entry_at version) (end_line (decimal start) (list_field decimal gives) (inner_field inner) rest)
    ∙ rw (place_again start (list_field decimal gives ++ 32 ∷ (inner_field inner ++ 10 ∷ rest)) has.0, list_again are_edges gives 32 (inner_field inner ++ 10 ∷ rest) has.1 refl refl, inner_again inner (10 ∷ rest)) refl
entry_again version (Fault start why) rest has =
    ap (entry_at version) (fault_line (decimal start) (fault_field why) rest)
    ∙ rw (place_again start (fault_field why ++ 10 ∷ rest) has.0, why_again version why 10 rest has.1 refl) refl
entry_again version (Drop task cause why) rest has =
    ap (entry_at version) (drop_line (decimal task) (cause_field cause) (drop_field why) rest)
    ∙ rw (release_again task cause (drop_field why ++ 10 ∷ rest) has.0 has.1, drop_why_again version why 10 rest has.2 refl) refl

pub version_again : (version : Version) (rest : List ℕ) → version_at (version_line version ++ rest) ≡ Some (version, rest)
unfolding version_at
version_again One rest = refl
version_again Two rest = refl

-- ---- what is read

-- two fields, one behind the other
chain : (a b c x y : List ℕ) → a ≡ x ++ b → b ≡ y ++ c → a ≡ (x ++ y) ++ c
chain a b c x y first second = first ∙ ap (λ more. x ++ more) second ∙ sym (append_assoc x y c)

-- a field with a space behind it
abbrev spaced : {A : Type 0} → (A → List ℕ) → A → List ℕ
spaced text x = text x ++ codes " "

spaced_sound : {A : Type 0} (text : A → List ℕ) (Fits : A → Type 0) (bytes : List ℕ) (read : ReadFront A)
    → ((x : A) (rest : List ℕ) → read ≡ Some (x, rest) → Stands text Fits bytes x rest)
    → (y : A) (rest : List ℕ) → ◌>>=◌ {B = A × List ℕ} read (λ x. word_at (codes " ") x.1 >>= λ rest. Some (x.0, rest)) ≡ Some (y, rest) → Stands (spaced text) Fits bytes y rest
spaced_sound {A = A} text Fits bytes read sound y rest is =
    let one = bind_some {B = A × List ℕ} read (λ x. word_at (codes " ") x.1 >>= λ rest. Some (x.0, rest)) (y, rest) is in
    let two = bind_some {B = A × List ℕ} (word_at (codes " ") one.0.1) (λ rest. Some (one.0.0, rest)) (y, rest) one.2 in
    let first = sound one.0.0 one.0.1 one.1 in
    stands_at (spaced text) Fits bytes one.0.0 y two.0 rest two.2 (chain _ _ _ (text one.0.0) (codes " ") first.0 (word_sound (codes " ") one.0.1 two.0 two.1), first.1)

place_sound : (bytes : List ℕ) (place : ℕ) (rest : List ℕ) → place_at bytes ≡ Some (place, rest) → Stands (spaced decimal) (λ n. n < 2 ^ 64) bytes place rest
unfolding place_at
place_sound bytes place rest is = spaced_sound decimal (λ n. n < 2 ^ 64) bytes (number_at bytes) (number_sound bytes) place rest is

task_sound : (bytes : List ℕ) (task : ℕ) (rest : List ℕ) → task_at bytes ≡ Some (task, rest) → Stands (spaced decimal) (λ n. n < 2 ^ 32) bytes task rest
unfolding task_at
task_sound bytes task rest is = spaced_sound decimal (λ n. n < 2 ^ 32) bytes (index_at bytes) (index_sound bytes) task rest is

-- a task and what its release comes from, as they are written
abbrev release_field : ℕ × Cause → List ℕ
release_field release = decimal release.0 ++ codes " " ++ cause_field release.1 ++ codes " "

abbrev FitsRelease : ℕ × Cause → Type 0
FitsRelease release = (release.0 < 2 ^ 32) × FitsCause release.1

release_sound : (bytes : List ℕ) (release : ℕ × Cause) (rest : List ℕ) → release_at bytes ≡ Some (release, rest) → Stands release_field FitsRelease bytes release rest
unfolding release_at
release_sound bytes release rest is =
    let one = bind_some (task_at bytes) _ (release, rest) is in
    let two = bind_some (cause_at one.0.1) _ (release, rest) one.2 in
    let three = bind_some (word_at (codes " ") two.0.1) _ (release, rest) two.2 in
    let task = task_sound bytes one.0.0 one.0.1 one.1 in
    let cause = cause_sound one.0.1 two.0.0 two.0.1 two.1 in
    stands_at release_field FitsRelease bytes (one.0.0, two.0.0) release three.0 rest three.2 (
      chain _ _ _ (spaced decimal one.0.0 ++ cause_field two.0.0) (codes " ")
          (chain _ _ _ (spaced decimal one.0.0) (cause_field two.0.0) task.0 cause.0) (word_sound (codes " ") two.0.1 three.0 three.1),
      (task.1, cause.1),
    )

-- the rest of a line, behind its first word
abbrev StandsBehind : List ℕ → Version → List ℕ → Entry → List ℕ → Type 0
StandsBehind word version bytes entry rest = (word ++ bytes ≡ entry_line entry ++ rest) × HasLine version entry

stands_behind : (word : List ℕ) (version : Version) (bytes : List ℕ) (x entry : Entry) (behind rest : List ℕ) → ◌≡◌ {A = ReadFront Entry} (Some (x, behind)) (Some (entry, rest))
    → StandsBehind word version bytes x behind → StandsBehind word version bytes entry rest
stands_behind word version bytes x entry behind rest is stands = stands_at entry_line (HasLine version) (word ++ bytes) x entry behind rest is stands

start_sound : (version : Version) (bytes : List ℕ) (entry : Entry) (rest : List ℕ) → start_line_at bytes ≡ Some (entry, rest) → StandsBehind (codes "start ") version bytes entry rest
unfolding start_line_at
start_sound version bytes entry rest is =
    let one = bind_some (release_at bytes) _ (entry, rest) is in
    let two = bind_some (list_at part_at one.0.1) _ (entry, rest) one.2 in
    let three = bind_some (word_at (codes "\n") two.0.1) _ (entry, rest) two.2 in
    let release = release_sound bytes one.0.0 one.0.1 one.1 in
    let ins = list_sound are_parts one.0.1 two.0.0 two.0.1 two.1 in
    let ended = word_sound (codes "\n") two.0.1 three.0 three.1 in
    let behind = chain _ _ _ (release_field one.0.0 ++ list_field part_field two.0.0) (codes "\n") (chain _ _ _ (release_field one.0.0) (list_field part_field two.0.0) release.0 ins.0) ended in
    stands_behind (codes "start ") version bytes (Start one.0.0.0 one.0.0.1 two.0.0) entry three.0 rest three.2
    (ap (λ more. codes "start " ++ more) behind ∙ simp append_assoc, (release.1.0, release.1.1, ins.1))

last_inner_sound : (bytes : List ℕ) (inner : Bool) (rest : List ℕ) → last_inner_field_at bytes ≡ Some (inner, rest) → bytes ≡ (codes " " ++ inner_field inner ++ codes "\n") ++ rest
unfolding last_inner_field_at
last_inner_sound bytes inner rest is =
    let one = bind_some (word_at (codes " ") bytes) _ (inner, rest) is in
    let two = bind_some (inner_field_at one.0) _ (inner, rest) one.2 in
    let three = bind_some (word_at (codes "\n") two.0.1) _ (inner, rest) two.2 in
    let read = chain _ _ _ (codes " " ++ inner_field two.0.0) (codes "\n")
    (chain _ _ _ (codes " ") (inner_field two.0.0) (word_sound (codes " ") bytes one.0 one.1) (inner_sound one.0 two.0.0 two.0.1 two.1))
    (word_sound (codes "\n") two.0.1 three.0 three.1) in
    (stands_at (λ inner. codes " " ++ inner_field inner ++ codes "\n") (λ _. Unit {0}) bytes two.0.0 inner three.0 rest three.2 (read, tt)).0

end_sound : (version : Version) (bytes : List ℕ) (entry : Entry) (rest : List ℕ) → end_line_at bytes ≡ Some (entry, rest) → StandsBehind (codes "end ") version bytes entry rest
unfolding end_line_at
end_sound version bytes entry rest is =
    let one = bind_some (place_at bytes) _ (entry, rest) is in
    let two = bind_some (list_at index_at one.0.1) _ (entry, rest) one.2 in
    let three = bind_some (last_inner_field_at two.0.1) _ (entry, rest) two.2 in
    let start = place_sound bytes one.0.0 one.0.1 one.1 in
    let gives = list_sound are_edges one.0.1 two.0.0 two.0.1 two.1 in
    let inner = last_inner_sound two.0.1 three.0.0 three.0.1 three.1 in
    let behind = chain _ _ _ (spaced decimal one.0.0 ++ list_field decimal two.0.0) (codes " " ++ inner_field three.0.0 ++ codes "\n")
    (chain _ _ _ (spaced decimal one.0.0) (list_field decimal two.0.0) start.0 gives.0) inner in
    stands_behind (codes "end ") version bytes (End one.0.0 two.0.0 three.0.0) entry three.0.1 rest three.2
    (ap (λ more. codes "end " ++ more) behind ∙ simp append_assoc, (start.1, gives.1))

fault_sound : (version : Version) (bytes : List ℕ) (entry : Entry) (rest : List ℕ) → fault_line_at version bytes ≡ Some (entry, rest) → StandsBehind (codes "fault ") version bytes entry rest
unfolding fault_line_at
fault_sound version bytes entry rest is =
    let one = bind_some (place_at bytes) _ (entry, rest) is in
    let two = bind_some (why_at version one.0.1) _ (entry, rest) one.2 in
    let three = bind_some (word_at (codes "\n") two.0.1) _ (entry, rest) two.2 in
    let start = place_sound bytes one.0.0 one.0.1 one.1 in
    let why = why_sound version one.0.1 two.0.0 two.0.1 two.1 in
    let behind = chain _ _ _ (spaced decimal one.0.0 ++ fault_field two.0.0) (codes "\n")
    (chain _ _ _ (spaced decimal one.0.0) (fault_field two.0.0) start.0 why.0) (word_sound (codes "\n") two.0.1 three.0 three.1) in
    stands_behind (codes "fault ") version bytes (Fault one.0.0 two.0.0) entry three.0 rest three.2
    (ap (λ more. codes "fault " ++ more) behind ∙ simp append_assoc, (start.1, why.1))

drop_sound : (version : Version) (bytes : List ℕ) (entry : Entry) (rest : List ℕ) → drop_line_at version bytes ≡ Some (entry, rest) → StandsBehind (codes "drop ") version bytes entry rest
unfolding drop_line_at
drop_sound version bytes entry rest is =
    let one = bind_some (release_at bytes) _ (entry, rest) is in
    let two = bind_some (drop_why_at version one.0.1) _ (entry, rest) one.2 in
    let three = bind_some (word_at (codes "\n") two.0.1) _ (entry, rest) two.2 in
    let release = release_sound bytes one.0.0 one.0.1 one.1 in
    let why = drop_why_sound version one.0.1 two.0.0 two.0.1 two.1 in
    let behind = chain _ _ _ (release_field one.0.0 ++ drop_field two.0.0) (codes "\n")
    (chain _ _ _ (release_field one.0.0) (drop_field two.0.0) release.0 why.0) (word_sound (codes "\n") two.0.1 three.0 three.1) in
    stands_behind (codes "drop ") version bytes (Drop one.0.0.0 one.0.0.1 two.0.0) entry three.0 rest three.2
    (ap (λ more. codes "drop " ++ more) behind ∙ simp append_assoc, (release.1.0, release.1.1, why.1))

-- the first word and the rest of the line
line_sound : (word : List ℕ) (version : Version) (bytes behind : List ℕ) (entry : Entry) (rest : List ℕ) → word_at word bytes ≡ Some behind
    → StandsBehind word version behind entry rest → Stands entry_line (HasLine version) bytes entry rest
line_sound word version bytes behind entry rest there stands = (word_sound word bytes behind there ∙ stands.0, stands.1)

unlisted_sound : (version : Version) (bytes : List ℕ) (entry : Entry) (rest : List ℕ) → unlisted_at version bytes ≡ Some (entry, rest) → Stands entry_line (HasLine version) bytes entry rest
unfolding unlisted_at
unlisted_sound version bytes entry rest is =
    elim (or_some (word_at (codes "fault ") bytes) (fault_line_at version) (word_at (codes "drop ") bytes >>= drop_line_at version) (entry, rest) is) [
      | inl there ↦ line_sound (codes "fault ") version bytes there.0 entry rest there.1 (fault_sound version there.0 entry rest there.2)
      | inr gone ↦
          let there = bind_some (word_at (codes "drop ") bytes) (drop_line_at version) (entry, rest) gone.1 in
          line_sound (codes "drop ") version bytes there.0 entry rest there.1 (drop_sound version there.0 entry rest there.2)
    ]

listed_sound : (version : Version) (bytes : List ℕ) (entry : Entry) (rest : List ℕ) → or_else (word_at (codes "end ") bytes) end_line_at (unlisted_at version bytes) ≡ Some (entry, rest)
    → Stands entry_line (HasLine version) bytes entry rest
listed_sound version bytes entry rest is =
    elim (or_some (word_at (codes "end ") bytes) end_line_at (unlisted_at version bytes) (entry, rest) is) [
      | inl there ↦ line_sound (codes "end ") version bytes there.0 entry rest there.1 (end_sound version there.0 entry rest there.2)
      | inr gone ↦ unlisted_sound version bytes entry rest gone.1
    ]

pub entry_sound : (version : Version) (bytes : List ℕ) (entry : Entry) (rest : List ℕ) → entry_at version bytes ≡ Some (entry, rest) → Stands entry_line (HasLine version) bytes entry rest
unfolding entry_at
entry_sound version bytes entry rest is =
    elim (or_some (word_at (codes "start ") bytes) start_line_at (or_else (word_at (codes "end ") bytes) end_line_at (unlisted_at version bytes)) (entry, rest) is) [
      | inl there ↦ line_sound (codes "start ") version bytes there.0 entry rest there.1 (start_sound version there.0 entry rest there.2)
      | inr gone ↦ listed_sound version bytes entry rest gone.1
    ]

pub version_sound : (bytes : List ℕ) (version : Version) (rest : List ℕ) → version_at bytes ≡ Some (version, rest) → bytes ≡ version_line version ++ rest
unfolding version_at
version_sound bytes version rest is =
    elim (or_some {B = Version × List ℕ} (word_at (codes "flow journal 2\n") bytes) (λ rest. Some (Two, rest)) (word_at (codes "flow journal 1\n") bytes >>= λ rest. Some (One, rest)) (version, rest) is) [
      | inl there ↦ (stands_at version_line (λ _. Unit {0}) bytes Two version there.0 rest there.2 (word_sound (codes "flow journal 2\n") bytes there.0 there.1, tt)).0
      | inr gone ↦
          let there = bind_some {B = Version × List ℕ} (word_at (codes "flow journal 1\n") bytes) (λ rest. Some (One, rest)) (version, rest) gone.1 in
          (stands_at version_line (λ _. Unit {0}) bytes One version there.0 rest there.2 (word_sound (codes "flow journal 1\n") bytes there.0 there.1, tt)).0
    ]
