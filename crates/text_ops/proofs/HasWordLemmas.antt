-- Whether a word occurs in some line.
use Rattle.std.proofs.Common.{◌≡◌, ℕ, ◌==◌, Bool, true, false, not, ◌||◌, List, [], ◌∷◌, length, drop, Option, Some, None, is_some, refl, sym, ap, ◌∙◌, arith, ⊎_elim, filter, length-append, IfSome, IfNone}
use Rattle.std.specs.List.{list_any, between}
use Rattle.std.proofs.lemmas.Bool.{cases_Bool, cond-true, cond-false, or_left, ne_eqb}
use Rattle.std.proofs.lemmas.List.{length_push}
use Rattle.std.proofs.lemmas.List.Edits.{length-between}
use Rattle.text_ops.specs.declared.found_line.FoundLine.{FoundLine}
use Rattle.text_ops.specs.Lines.{line_end, lines_of, text_of, ended, occurs, IsNormal, IsPlain}
use Rattle.text_ops.specs.TextMeaning.{keep_meaning, has_word}
use Rattle.text_ops.specs.inside.FoundLine.{IsFirstKept, IsNowhere}
use Rattle.text_ops.proofs.KeepLemmas.{all_kept, keep_meaning-broken_word}
use Rattle.text_ops.proofs.LineSteps.{text_is}

any_none : {X : Type 0} (p : X → Bool) (xs : List X) → filter p xs ≡ [] → list_any p xs ≡ false
any_none p [] none = refl
any_none p (x ∷ xs) none =
    ⊎_elim
    (λ passes. let some : x ∷ filter p xs ≡ [] = sym (cond-true (p x) (x ∷ filter p xs) (filter p xs) passes) ∙ none in absurd (omega (arith, ap length some)))
    (λ fails. ap (λ b. b || list_any p xs) fails ∙ any_none p xs (sym (cond-false (p x) (x ∷ filter p xs) (filter p xs) fails) ∙ none))
    (cases_Bool (p x))

none_any : {X : Type 0} (p : X → Bool) (xs : List X) → list_any p xs ≡ false → filter p xs ≡ []
none_any p [] none = refl
none_any p (x ∷ xs) none =
    ⊎_elim
    (λ passes. let never : true ≡ false = sym (or_left (p x) (list_any p xs) passes) ∙ none in cc)
    (λ fails. cond-false (p x) (x ∷ filter p xs) (filter p xs) fails ∙ none_any p xs (second (p x) (list_any p xs) fails none))
    (cases_Bool (p x))
  where
    second : (a b : Bool) → a ≡ false → a || b ≡ false → b ≡ false
    second true b is both = cc
    second false b is both = both

no_text : (lines : List (List ℕ)) → text_of lines ≡ [] → lines ≡ []
no_text [] none = refl
no_text (line ∷ lines) none = absurd (omega (arith, ap length none, length-append (ended line) (text_of lines), length_push line line_end))

pub has_word-nowhere : (word text : List ℕ) → IsNowhere word text → has_word word text ≡ false
has_word-nowhere word text none = any_none (occurs word) (lines_of text) (no_text (filter (occurs word) (lines_of text)) none.kept)

pub has_word-found : (word text : List ℕ) (line : FoundLine) → IsFirstKept word text line → has_word word text ≡ true
has_word-found word text line found =
    ⊎_elim
    (λ is. is)
    (λ is.
    let empty = sym found.kept ∙ ap text_of (none_any (occurs word) (lines_of text) is) in
    absurd (omega (arith, ap length empty, length-append (between line.start line.end text) (keep_meaning word (drop line.end text)), length-between text line.start line.end found.within, found.rising)))
    (cases_Bool (has_word word text))

pub has_word-first : (word text : List ℕ) (line : Option FoundLine) → IfSome line (IsFirstKept word text) → IfNone line (IsNowhere word text) → is_some line ≡ has_word word text
has_word-first word text None found none = sym (has_word-nowhere word text none)
has_word-first word text (Some line) found none = sym (has_word-found word text line found)

-- the empty word occurs in each line
pub has_word-empty : (word text : List ℕ) → length word ≡ 0 → IsNormal text → has_word word text ≡ not (length text == 0)
has_word-empty [] [] empty is = refl
has_word-empty [] (byte ∷ rest) empty is =
    ⊎_elim
    (λ is_true. is_true ∙ sym (ap not (ne_eqb (length (byte ∷ rest)) 0 (λ none. absurd (omega arith)))))
    (λ fails.
    let none = sym (all_kept (lines_of (byte ∷ rest))) ∙ none_any (occurs []) (lines_of (byte ∷ rest)) fails in
    absurd (omega (arith, ap length (text_is (byte ∷ rest) is ∙ ap text_of none))))
    (cases_Bool (has_word [] (byte ∷ rest)))
has_word-empty (b ∷ word) text empty is = absurd (omega arith)

pub has_word-broken : (word text : List ℕ) → ¬ IsPlain word → has_word word text ≡ false
has_word-broken word text broken = any_none (occurs word) (lines_of text) (no_text (filter (occurs word) (lines_of text)) (keep_meaning-broken_word word text broken))
