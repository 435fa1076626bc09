-- The fields of a line, read and written.
use Rattle.std.proofs.Common.{◌≡◌, ℕ, ◌<◌, ◌^◌, Bool, true, false, ◌==◌, List, [], ◌∷◌, ◌++◌, length, refl, sym, ap, ◌∙◌, arith, append_assoc, Some, None, ⊎_elim, inl, inr, decimal, codes}
use Rattle.std.specs.Char.{is_ascii_digit}
use Rattle.std.proofs.lemmas.Bool.{cases_Bool, cond-true, cond-false, eqb-true, ne_eqb}
use Rattle.journal_rules.specs.declared.entry.Cause.{Cause}
use Rattle.journal_rules.specs.declared.entry.Cause.TheVariants.{Source, Strong, Weak}
use Rattle.journal_rules.specs.declared.entry.Part.{Part}
use Rattle.journal_rules.specs.declared.entry.Part.TheVariants.{From, First, Nothing}
use Rattle.journal_rules.specs.declared.entry.Why.{Why}
use Rattle.journal_rules.specs.declared.entry.Why.TheVariants.{Long, Wide, Unmet, Inner, OverRelease}
use Rattle.journal_rules.specs.declared.entry.DropWhy.{DropWhy}
use Rattle.journal_rules.specs.declared.entry.DropWhy.TheVariants.{Halted, Limit, Stuck}
use Rattle.journal_text.specs.declared.version.Version.{Version}
use Rattle.journal_text.specs.declared.version.Version.TheVariants.{One, Two}
use Rattle.journal_text.specs.JournalText.{cause_field, part_field, inner_field, fault_field, drop_field, FitsCause, FitsPart, FitsWhy, FitsDropWhy}
use Rattle.journal_text.specs.inside.Reading.{ReadFront, ◌>>=◌, or_else, word_at, number_at, named_number_at, named_index_at, cause_at, part_at, inner_field_at, over_fault_at, why_at, stuck_drop_at, drop_why_at}
use Rattle.journal_text.proofs.Steps.{bind_some, or_some, first_of_both}
use Rattle.journal_text.proofs.NumberLemmas.{number_sound, number_again, index_sound, index_again, decimal_digits}
use Rattle.std.specs.Str.{all_ascii_digits}
use Rattle.std.proofs.lemmas.Fmt.{decimal_nonempty}

-- a word that is read stands there
pub word_sound : (word bytes rest : List ℕ) → word_at word bytes ≡ Some rest → bytes ≡ word ++ rest
word_sound [] bytes rest is = cc
word_sound (w ∷ ws) [] rest is = absurd (cc)
word_sound (w ∷ ws) (b ∷ bs) rest is = ⊎_elim
    (λ it. let more = word_sound ws bs rest (sym (cond-true (b == w) (word_at ws bs) None it) ∙ is) in let first = eqb-true b w it in cc)
    (λ other. absurd (let h = sym (cond-false (b == w) (word_at ws bs) None other) ∙ is in cc))
    (cases_Bool (b == w))

named_number_sound : (word bytes : List ℕ) (n : ℕ) (rest : List ℕ) → named_number_at word bytes ≡ Some (n, rest) → (bytes ≡ word ++ decimal n ++ rest) × (n < 2 ^ 64)
unfolding named_number_at
named_number_sound word bytes n rest is =
    let step = bind_some _ _ _ is in
    let read = number_sound step.0 n rest step.2 in
    (word_sound word bytes step.0 step.1 ∙ ap (λ more. word ++ more) read.0 ∙ sym (append_assoc word (decimal n) rest), read.1)

named_index_sound : (word bytes : List ℕ) (n : ℕ) (rest : List ℕ) → named_index_at word bytes ≡ Some (n, rest) → (bytes ≡ word ++ decimal n ++ rest) × (n < 2 ^ 32)
unfolding named_index_at
named_index_sound word bytes n rest is =
    let step = bind_some _ _ _ is in
    let read = index_sound step.0 n rest step.2 in
    (word_sound word bytes step.0 step.1 ∙ ap (λ more. word ++ more) read.0 ∙ sym (append_assoc word (decimal n) rest), read.1)

-- ---- alternatives

-- what is read stands there, and has a line
abbrev pub Stands : {A : Type 0} → (A → List ℕ) → (A → Type 0) → List ℕ → A → List ℕ → Type 0
Stands text Fits bytes x rest = (bytes ≡ text x ++ rest) × Fits x

pub stands_at : {A : Type 0} (text : A → List ℕ) (Fits : A → Type 0) (bytes : List ℕ) (x y : A) (behind rest : List ℕ) → ◌≡◌ {A = ReadFront A} (Some (x, behind)) (Some (y, rest))
    → Stands text Fits bytes x behind → Stands text Fits bytes y rest
stands_at {A = A} text Fits bytes x y behind rest is stands =
    let same : ◌≡◌ {A = A × List ℕ} (x, behind) (y, rest) = cc in
    let one : x ≡ y = ap (λ (read : A × List ℕ). read.0) same in
    let two : behind ≡ rest = ap (λ (read : A × List ℕ). read.1) same in
    rw (← one, ← two) stands

pub word_case : {A : Type 0} (text : A → List ℕ) (Fits : A → Type 0) (word bytes : List ℕ) (x : A) (other : ReadFront A) (y : A) (rest : List ℕ)
    → text x ≡ word → Fits x → (other ≡ Some (y, rest) → Stands text Fits bytes y rest)
    → or_else (word_at word bytes) (λ behind. Some (x, behind)) other ≡ Some (y, rest) → Stands text Fits bytes y rest
word_case text Fits word bytes x other y rest spelt fits more is = elim (or_some (word_at word bytes) (λ behind. Some (x, behind)) other (y, rest) is) [
  | inl there ↦ stands_at text Fits bytes x y there.0 rest there.2 (word_sound word bytes there.0 there.1 ∙ ap (λ front. front ++ there.0) (sym spelt), fits)
  | inr gone ↦ more gone.1
]

pub number_case : {A : Type 0} (text : A → List ℕ) (Fits : A → Type 0) (word bytes : List ℕ) (make : ℕ → A) (other : ReadFront A) (y : A) (rest : List ℕ)
    → ((n : ℕ) → text (make n) ≡ word ++ decimal n) → ((n : ℕ) → n < 2 ^ 64 → Fits (make n)) → (other ≡ Some (y, rest) → Stands text Fits bytes y rest)
    → or_else (named_number_at word bytes) (λ n. Some (make n.0, n.1)) other ≡ Some (y, rest) → Stands text Fits bytes y rest
number_case text Fits word bytes make other y rest spelt fits more is = elim (or_some (named_number_at word bytes) (λ n. Some (make n.0, n.1)) other (y, rest) is) [
  | inl there ↦
      let read = named_number_sound word bytes there.0.0 there.0.1 there.1 in
      stands_at text Fits bytes (make there.0.0) y there.0.1 rest there.2 (read.0 ∙ ap (λ front. front ++ there.0.1) (sym (spelt there.0.0)), fits there.0.0 read.1)
  | inr gone ↦ more gone.1
]

pub index_case : {A : Type 0} (text : A → List ℕ) (Fits : A → Type 0) (word bytes : List ℕ) (make : ℕ → A) (y : A) (rest : List ℕ)
    → ((n : ℕ) → text (make n) ≡ word ++ decimal n) → ((n : ℕ) → n < 2 ^ 32 → Fits (make n))
    → ◌>>=◌ {B = A × List ℕ} (named_index_at word bytes) (λ n. Some (make n.0, n.1)) ≡ Some (y, rest) → Stands text Fits bytes y rest
index_case text Fits word bytes make y rest spelt fits is =
    let there = bind_some (named_index_at word bytes) _ _ is in
    let read = named_index_sound word bytes there.0.0 there.0.1 there.1 in
    stands_at text Fits bytes (make there.0.0) y there.0.1 rest there.2 (read.0 ∙ ap (λ front. front ++ there.0.1) (sym (spelt there.0.0)), fits there.0.0 read.1)

-- ---- what a release comes from

pub cause_sound : (bytes : List ℕ) (cause : Cause) (rest : List ℕ) → cause_at bytes ≡ Some (cause, rest) → Stands cause_field FitsCause bytes cause rest
unfolding cause_at
cause_sound bytes cause rest is =
    word_case cause_field FitsCause (codes "source") bytes Source _ cause rest refl tt
    (word_case cause_field FitsCause (codes "strong") bytes Strong _ cause rest refl tt
    (index_case cause_field FitsCause (codes "weak:") bytes Weak cause rest (λ n. refl) (λ n fits. fits)))
    is

pub cause_again : (cause : Cause) (byte : ℕ) (rest : List ℕ) → FitsCause cause → is_ascii_digit byte ≡ false → cause_at (cause_field cause ++ byte ∷ rest) ≡ Some (cause, byte ∷ rest)
unfolding cause_at named_index_at
cause_again Source byte rest fits other = refl
cause_again Strong byte rest fits other = refl
cause_again (Weak edge) byte rest fits other = rw (index_again edge byte rest fits other) refl

-- ---- what a start finds at an edge

-- digits begin with no letter
digits_no : (ds more : List ℕ) (first : ℕ) (word : List ℕ) → 0 < length ds → all_ascii_digits ds ≡ true → is_ascii_digit first ≡ false → word_at (first ∷ word) (ds ++ more) ≡ None
digits_no [] more first word some digits other = absurd (omega arith)
digits_no (d ∷ ds) more first word some digits other =
    let one : is_ascii_digit d ≡ true = first_of_both (is_ascii_digit d) (all_ascii_digits ds) digits in
    cond-false _ _ _ (ne_eqb d first (λ same. absurd (let e = ap is_ascii_digit same in cc)))

pub word_no : (n : ℕ) (more : List ℕ) (first : ℕ) (word : List ℕ) → n < 2 ^ 64 → is_ascii_digit first ≡ false → word_at (first ∷ word) (decimal n ++ more) ≡ None
word_no n more first word fits other = digits_no (decimal n) more first word (decimal_nonempty n fits) (decimal_digits n fits) other

pub part_sound : (bytes : List ℕ) (part : Part) (rest : List ℕ) → part_at bytes ≡ Some (part, rest) → Stands part_field FitsPart bytes part rest
unfolding part_at
part_sound bytes part rest is =
    word_case part_field FitsPart (codes "first") bytes First _ part rest refl tt
    (word_case part_field FitsPart (codes "nothing") bytes Nothing _ part rest refl tt
    (λ more.
    let there = bind_some (number_at bytes) _ _ more in
    let read = number_sound bytes there.0.0 there.0.1 there.1 in
    stands_at part_field FitsPart bytes (From there.0.0) part there.0.1 rest there.2 read))
    is

pub part_again : (part : Part) (byte : ℕ) (rest : List ℕ) → FitsPart part → is_ascii_digit byte ≡ false → part_at (part_field part ++ byte ∷ rest) ≡ Some (part, byte ∷ rest)
unfolding part_at
part_again (From place) byte rest fits other =
    rw (word_no place (byte ∷ rest) 102 (codes "irst") fits refl, word_no place (byte ∷ rest) 110 (codes "othing") fits refl, number_again place byte rest fits other) refl
part_again First byte rest fits other = refl
part_again Nothing byte rest fits other = refl

-- ---- whether a start's work was a run of its own

pub inner_sound : (bytes : List ℕ) (inner : Bool) (rest : List ℕ) → inner_field_at bytes ≡ Some (inner, rest) → bytes ≡ inner_field inner ++ rest
unfolding inner_field_at
inner_sound bytes inner rest is =
    (word_case inner_field (λ _. Unit {0}) (codes "plain") bytes false _ inner rest refl tt
    (λ more.
    let there = bind_some (word_at (codes "inner") bytes) _ _ more in
    stands_at inner_field (λ _. Unit {0}) bytes true inner there.0 rest there.2 (word_sound (codes "inner") bytes there.0 there.1, tt))
    is).0

pub inner_again : (inner : Bool) (rest : List ℕ) → inner_field_at (inner_field inner ++ rest) ≡ Some (inner, rest)
unfolding inner_field_at
inner_again true rest = refl
inner_again false rest = refl

-- ---- why a start faulted

over_sound : (version : Version) (bytes : List ℕ) (why : Why) (rest : List ℕ) → over_fault_at version bytes ≡ Some (why, rest) → Stands fault_field (FitsWhy version) bytes why rest
over_sound One bytes why rest is = absurd (cc)
over_sound Two bytes why rest is = index_case fault_field (FitsWhy Two) (codes "over:") bytes OverRelease why rest (λ n. refl) (λ n fits. fits) is

pub why_sound : (version : Version) (bytes : List ℕ) (why : Why) (rest : List ℕ) → why_at version bytes ≡ Some (why, rest) → Stands fault_field (FitsWhy version) bytes why rest
unfolding why_at
why_sound version bytes why rest is =
    number_case fault_field (FitsWhy version) (codes "long:") bytes Long _ why rest (λ n. refl) (λ n fits. fits)
    (number_case fault_field (FitsWhy version) (codes "wide:") bytes Wide _ why rest (λ n. refl) (λ n fits. fits)
    (number_case fault_field (FitsWhy version) (codes "unmet:") bytes Unmet _ why rest (λ n. refl) (λ n fits. fits)
    (word_case fault_field (FitsWhy version) (codes "inner") bytes Inner _ why rest refl tt
    (over_sound version bytes why rest))))
    is

pub why_again : (version : Version) (why : Why) (byte : ℕ) (rest : List ℕ) → FitsWhy version why → is_ascii_digit byte ≡ false → why_at version (fault_field why ++ byte ∷ rest) ≡ Some (why, byte ∷ rest)
unfolding why_at named_number_at named_index_at
why_again version (Long n) byte rest fits other = rw (number_again n byte rest fits other) refl
why_again version (Wide n) byte rest fits other = rw (number_again n byte rest fits other) refl
why_again version (Unmet n) byte rest fits other = rw (number_again n byte rest fits other) refl
why_again version Inner byte rest fits other = refl
why_again One (OverRelease sem) byte rest fits other = absurd fits
why_again Two (OverRelease sem) byte rest fits other = rw (index_again sem byte rest fits other) refl

-- ---- why a release was dropped

stuck_sound : (version : Version) (bytes : List ℕ) (why : DropWhy) (rest : List ℕ) → stuck_drop_at version bytes ≡ Some (why, rest) → Stands drop_field (FitsDropWhy version) bytes why rest
stuck_sound One bytes why rest is = absurd (cc)
stuck_sound Two bytes why rest is = index_case drop_field (FitsDropWhy Two) (codes "stuck:") bytes Stuck why rest (λ n. refl) (λ n fits. fits) is

pub drop_why_sound : (version : Version) (bytes : List ℕ) (why : DropWhy) (rest : List ℕ) → drop_why_at version bytes ≡ Some (why, rest) → Stands drop_field (FitsDropWhy version) bytes why rest
unfolding drop_why_at
drop_why_sound version bytes why rest is =
    word_case drop_field (FitsDropWhy version) (codes "halted") bytes Halted _ why rest refl tt
    (word_case drop_field (FitsDropWhy version) (codes "limit") bytes Limit _ why rest refl tt
    (stuck_sound version bytes why rest))
    is

pub drop_why_again : (version : Version) (why : DropWhy) (byte : ℕ) (rest : List ℕ) → FitsDropWhy version why → is_ascii_digit byte ≡ false → drop_why_at version (drop_field why ++ byte ∷ rest) ≡ Some (why, byte ∷ rest)
unfolding drop_why_at named_index_at
drop_why_again version Halted byte rest fits other = refl
drop_why_again version Limit byte rest fits other = refl
drop_why_again One (Stuck sem) byte rest fits other = absurd fits
drop_why_again Two (Stuck sem) byte rest fits other = rw (index_again sem byte rest fits other) refl
