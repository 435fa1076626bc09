-- What holds of the lines of a text.
use Rattle.std.proofs.Common.{◌≡◌, ℕ, zero, suc, ◌+◌, ◌-◌, Bool, true, false, cond, ◌==◌, List, [], ◌∷◌, ◌++◌, length, drop, get_or, refl, sym, ap, ◌∙◌, arith, length-drop, get_or-drop, ⊎_elim, count_by, zero-add, Some, slice_get, ◌↔◌}
use Rattle.std.proofs.lemmas.Option.{slice_get_within, get_or_from_slice_get}
use Rattle.std.proofs.lemmas.Bool.{cases_Bool, cond-true, cond-false, cond_both, eqb-true, eq-eqb, ne_eqb}
use Rattle.std.proofs.lemmas.List.Sums.{sum_by-cons}
use Rattle.std.specs.List.{onto_first, AllByRecursion}
use Rattle.text_ops.specs.Lines.{line_end, lines_of, ended, text_of, is_normal, IsNormal, normal, IsPlain}

-- the lines of a text whose first byte is a line end, and of one whose first byte isn't
pub lines_of-at_end : (byte : ℕ) (rest : List ℕ) → (byte == line_end) ≡ true → lines_of (byte ∷ rest) ≡ [] ∷ lines_of rest
lines_of-at_end byte rest ends = cond-true _ _ _ ends

pub lines_of-within : (byte : ℕ) (rest : List ℕ) → (byte == line_end) ≡ false → lines_of (byte ∷ rest) ≡ onto_first byte (lines_of rest)
lines_of-within byte rest within = cond-false _ _ _ within

-- a text that isn't empty has a first line
onto_first_is : (byte : ℕ) (parts : List (List ℕ)) → (line : List ℕ) × (more : List (List ℕ)) × (onto_first byte parts ≡ line ∷ more)
onto_first_is byte [] = (byte ∷ [], [], refl)
onto_first_is byte (line ∷ more) = (byte ∷ line, more, refl)

pub first_line : (byte : ℕ) (rest : List ℕ) → (line : List ℕ) × (more : List (List ℕ)) × (lines_of (byte ∷ rest) ≡ line ∷ more)
first_line byte rest =
    cond_both (byte == line_end) ([] ∷ lines_of rest) (onto_first byte (lines_of rest)) (λ parts. (line : List ℕ) × (more : List (List ℕ)) × (parts ≡ line ∷ more))
    (λ _. ([], lines_of rest, refl))
    (λ _. onto_first_is byte (lines_of rest))

onto_first-append : (byte : ℕ) (xs ys : List (List ℕ)) (line : List ℕ) (more : List (List ℕ)) → xs ≡ line ∷ more → onto_first byte (xs ++ ys) ≡ onto_first byte xs ++ ys
onto_first-append byte xs ys line more is = rw is refl

text_of-onto_first : (byte : ℕ) (xs : List (List ℕ)) (line : List ℕ) (more : List (List ℕ)) → xs ≡ line ∷ more → text_of (onto_first byte xs) ≡ byte ∷ text_of xs
text_of-onto_first byte xs line more is = rw is refl

length-onto_first : (byte : ℕ) (xs : List (List ℕ)) (line : List ℕ) (more : List (List ℕ)) → xs ≡ line ∷ more → length (onto_first byte xs) ≡ length xs
length-onto_first byte xs line more is = rw is refl

-- a cut behind a line end is a cut between lines
pub lines_of-append : (xs ys : List ℕ) → IsNormal xs → lines_of (xs ++ ys) ≡ lines_of xs ++ lines_of ys
lines_of-append [] ys ends = refl
lines_of-append (byte ∷ []) ys ends = lines_of-at_end byte ys ends ∙ sym (ap (λ lines. lines ++ lines_of ys) (lines_of-at_end byte [] ends))
lines_of-append (byte ∷ next ∷ rest) ys ends =
    let later = lines_of-append (next ∷ rest) ys ends in
    let first = first_line next rest in
    ⊎_elim
    (λ yes. lines_of-at_end byte (next ∷ rest ++ ys) yes ∙ ap (λ lines. [] ∷ lines) later ∙ sym (ap (λ lines. lines ++ lines_of ys) (lines_of-at_end byte (next ∷ rest) yes)))
    (λ no.
    lines_of-within byte (next ∷ rest ++ ys) no
    ∙ ap (onto_first byte) later
    ∙ onto_first-append byte (lines_of (next ∷ rest)) (lines_of ys) first.0 first.1 first.2
    ∙ sym (ap (λ lines. lines ++ lines_of ys) (lines_of-within byte (next ∷ rest) no)))
    (cases_Bool (byte == line_end))

normal-cons : (ends : Bool) (byte : ℕ) (rest : List ℕ) → cond ends (byte ∷ rest) (ended (byte ∷ rest)) ≡ byte ∷ cond ends rest (ended rest)
normal-cons true byte rest = refl
normal-cons false byte rest = refl

-- the lines of a text, each with its end, are the text made normal
pub text_of-lines_of : (text : List ℕ) → text_of (lines_of text) ≡ normal text
text_of-lines_of [] = refl
text_of-lines_of (byte ∷ []) =
    ⊎_elim
    (λ yes. ap text_of (lines_of-at_end byte [] yes) ∙ sym (cond-true _ _ _ yes ∙ ap (λ b. b ∷ []) (eqb-true byte line_end yes)))
    (λ no. ap text_of (lines_of-within byte [] no) ∙ sym (cond-false _ _ _ no))
    (cases_Bool (byte == line_end))
text_of-lines_of (byte ∷ next ∷ rest) =
    let later = text_of-lines_of (next ∷ rest) in
    let first = first_line next rest in
    let one_more = normal-cons (is_normal (next ∷ rest)) byte (next ∷ rest) in
    ⊎_elim
    (λ yes.
    ap text_of (lines_of-at_end byte (next ∷ rest) yes)
    ∙ ap (λ text. line_end ∷ text) later
    ∙ sym (one_more ∙ ap (λ b. b ∷ normal (next ∷ rest)) (eqb-true byte line_end yes)))
    (λ no.
    ap text_of (lines_of-within byte (next ∷ rest) no)
    ∙ text_of-onto_first byte (lines_of (next ∷ rest)) first.0 first.1 first.2
    ∙ ap (λ text. byte ∷ text) later
    ∙ sym one_more)
    (cases_Bool (byte == line_end))

pub IsNormal-append : (xs ys : List ℕ) → IsNormal xs → IsNormal ys → IsNormal (xs ++ ys)
IsNormal-append [] ys left right = right
IsNormal-append (byte ∷ []) [] left right = left
IsNormal-append (byte ∷ []) (next ∷ rest) left right = right
IsNormal-append (byte ∷ next ∷ rest) ys left right = IsNormal-append (next ∷ rest) ys left right

pub IsNormal-ended : (line : List ℕ) → IsNormal (ended line)
IsNormal-ended [] = refl
IsNormal-ended (byte ∷ []) = refl
IsNormal-ended (byte ∷ next ∷ rest) = IsNormal-ended (next ∷ rest)

-- lines with their ends are a normal text
pub IsNormal-text_of : (lines : List (List ℕ)) → IsNormal (text_of lines)
IsNormal-text_of [] = refl
IsNormal-text_of (line ∷ lines) = IsNormal-append (ended line) (text_of lines) (IsNormal-ended line) (IsNormal-text_of lines)

pub IsNormal-normal : (text : List ℕ) → IsNormal (normal text)
IsNormal-normal text = cond_both (is_normal text) text (ended text) IsNormal (λ is. is) (λ _. IsNormal-ended text)

pub normal_same : (text : List ℕ) → IsNormal text → normal text ≡ text
normal_same text is = cond-true _ _ _ is

-- a text is normal where its last byte, if there is one, is a line end
pub IsNormal-from_last : (text : List ℕ) → ((k : ℕ) → suc k ≡ length text → get_or text k 0 ≡ line_end) → IsNormal text
IsNormal-from_last [] last = refl
IsNormal-from_last (byte ∷ []) last = eq-eqb byte line_end (last 0 refl)
IsNormal-from_last (byte ∷ next ∷ rest) last = IsNormal-from_last (next ∷ rest) (λ k is. last (suc k) (ap suc is))

pub last_of_normal : (text : List ℕ) (k : ℕ) → IsNormal text → suc k ≡ length text → get_or text k 0 ≡ line_end
last_of_normal [] k is last = absurd (omega arith)
last_of_normal (byte ∷ []) zero is last = eqb-true byte line_end is
last_of_normal (byte ∷ []) (suc k) is last = absurd (omega arith)
last_of_normal (byte ∷ next ∷ rest) zero is last = absurd (omega arith)
last_of_normal (byte ∷ next ∷ rest) (suc k) is last = last_of_normal (next ∷ rest) k is (omega arith)

pub last_decides : (text : List ℕ) (byte : ℕ) → Some byte ≡ slice_get text (length text - 1) → ((byte == line_end) ≡ true) ↔ IsNormal text
last_decides text byte last =
    let within = slice_get_within text (length text - 1) byte (sym last) in
    let read = get_or_from_slice_get text (length text - 1) byte 0 (sym last) in (
      λ ends. IsNormal-from_last text
          (λ k at_last.
          let place : k ≡ length text - 1 = omega arith in
          ap (λ j. get_or text j 0) place ∙ read ∙ eqb-true byte line_end ends),
      λ is. eq-eqb byte line_end (sym read ∙ last_of_normal text (length text - 1) is (omega arith)),
    )

-- the rest of a normal text
pub IsNormal-drop : (text : List ℕ) (n : ℕ) → IsNormal text → IsNormal (drop n text)
IsNormal-drop text n is =
    IsNormal-from_last (drop n text)
    (λ k last. get_or-drop n text k 0 ∙ last_of_normal text (n + k) is (omega (arith, length-drop n text)))

-- a line with its end is that line
pub lines_of-ended : (line : List ℕ) → IsPlain line → lines_of (ended line) ≡ line ∷ []
lines_of-ended [] plain = refl
lines_of-ended (byte ∷ rest) plain =
    lines_of-within byte (ended rest) (ne_eqb byte line_end (plain 0 (omega arith)))
    ∙ ap (onto_first byte) (lines_of-ended rest (λ k low. plain (suc k) (omega arith)))

suc_is : (n : ℕ) → suc n ≡ 1 + n
suc_is n = omega arith

-- a normal text has as many lines as line ends
pub count_by-lines_of : (text : List ℕ) → IsNormal text → count_by (λ byte. byte == line_end) text ≡ length (lines_of text)
count_by-lines_of [] is = refl
count_by-lines_of (byte ∷ []) is = sum_by-cons (λ b. cond (b == line_end) 1 0) byte [] ∙ ap (λ ends. cond ends 1 0 + 0) is ∙ sym (ap length (lines_of-at_end byte [] is))
count_by-lines_of (byte ∷ next ∷ rest) is =
    let later = count_by-lines_of (next ∷ rest) is in
    let first = first_line next rest in
    let one_more = sum_by-cons (λ b. cond (b == line_end) 1 0) byte (next ∷ rest) in
    ⊎_elim
    (λ yes.
    one_more
    ∙ ap (λ n. n + count_by (λ b. b == line_end) (next ∷ rest)) (cond-true (byte == line_end) 1 0 yes)
    ∙ ap (λ n. 1 + n) later
    ∙ sym (ap length (lines_of-at_end byte (next ∷ rest) yes) ∙ suc_is (length (lines_of (next ∷ rest)))))
    (λ no.
    one_more
    ∙ ap (λ n. n + count_by (λ b. b == line_end) (next ∷ rest)) (cond-false (byte == line_end) 1 0 no)
    ∙ zero-add _
    ∙ later
    ∙ sym (ap length (lines_of-within byte (next ∷ rest) no) ∙ length-onto_first byte (lines_of (next ∷ rest)) first.0 first.1 first.2))
    (cases_Bool (byte == line_end))

-- lines without line ends are the lines of their text
pub lines_of-text_of : (lines : List (List ℕ)) → AllByRecursion IsPlain lines → lines_of (text_of lines) ≡ lines
lines_of-text_of [] plain = refl
lines_of-text_of (line ∷ lines) plain =
    lines_of-append (ended line) (text_of lines) (IsNormal-ended line)
    ∙ ap (λ first. first ++ lines_of (text_of lines)) (lines_of-ended line plain.0)
    ∙ ap (λ more. line ∷ more) (lines_of-text_of lines plain.1)

-- a line with its end has one line end
pub ended_once : (line : List ℕ) → IsPlain line → count_by (λ byte. byte == line_end) (ended line) ≡ 1
ended_once line plain = count_by-lines_of (ended line) (IsNormal-ended line) ∙ ap length (lines_of-ended line plain)
