-- Counts of lines, on both sides of each line. Under the name `t` the text `ab`, `c` and `xb` is held, without a last
-- line end.
use Rattle.std.proofs.Common.{◌≡◌, ℕ, List, [], ◌∷◌, ◌++◌, length, Option, Some, None, inl, inr, refl, sym, ap, ◌∙◌, subst, arith, codes}
use Rattle.std.specs.Prelude.{if◌then◌else◌, bytes_eq}
use Rattle.std.specs.Fmt.{digits}
use Rattle.call_status.specs.declared.status.Status.{Status}
use Rattle.call_status.specs.declared.status.Status.TheVariants.{Done, BadWords, NoText, LongText, ReadFault, WriteFault, NoMemory}
use Rattle.call_status.specs.declared.stop.Stop.TheVariants as stop
use Rattle.command_line.specs.Requests.{asked_by, count as count_asked}
use Rattle.flow_run.specs.declared.conclusion.Conclusion.{Conclusion}
use Rattle.flow_run.specs.declared.conclusion.Conclusion.TheVariants as conclusion
use Rattle.text_ops.specs.TextMeaning.{word_lines}
use Rattle.flow_run.specs.Answers.{AskedEnds, CallEnds, conclusion_text, output_of}
use Rattle.flow_run.specs.Completion.{IsAtHand}
use Rattle.flow_run.specs.Counted.{CountEnds, EndsCounted, HoldsText, IsLineCount, count_text}
use Rattle.flow_run.specs.Requests.{SourceTexts, IsTextOf}

abbrev t : List ℕ
t = 1 ∷ []

abbrev u : List ℕ
u = 2 ∷ []

abbrev b : List ℕ
b = codes "b"

abbrev texts : List ℕ → Option (List ℕ)
texts name = if bytes_eq name t then Some (codes "ab\nc\nxb") else None

abbrev held : SourceTexts
held = Some texts

-- ---- the lines in which the word occurs

text_of_t : IsTextOf held t (codes "ab\nc\nxb\n")
text_of_t = record { bytes = codes "ab\nc\nxb"; read = (refl, omega arith); is = refl }

two_lines : IsLineCount held b t 2
two_lines = record { text = codes "ab\nc\nxb\n"; read = text_of_t; counted = refl }

every_line_has_the_empty_word : IsLineCount held [] t 3
every_line_has_the_empty_word = record { text = codes "ab\nc\nxb\n"; read = text_of_t; counted = refl }

no_line_has_a_line_end : IsLineCount held (codes "b\n") t 0
no_line_has_a_line_end = record { text = codes "ab\nc\nxb\n"; read = text_of_t; counted = refl }

one_text : (text : List ℕ) → IsTextOf held t text → text ≡ codes "ab\nc\nxb\n"
one_text text is =
    let same : Some is.bytes ≡ Some (codes "ab\nc\nxb") = sym is.read.0 in
    is.is ∙ ap Rattle.text_ops.specs.Lines.normal (let bytes : is.bytes ≡ codes "ab\nc\nxb" = cc in bytes)

words_in_place_of_lines : ¬ IsLineCount held b t 3
words_in_place_of_lines is =
    let counted : 3 ≡ word_lines b (codes "ab\nc\nxb\n") = is.counted ∙ ap (word_lines b) (one_text is.text is.read) in
    absurd (omega (arith, counted))

lines_of_a_missing_text : (lines : ℕ) → ¬ IsLineCount held b u lines
lines_of_a_missing_text lines is = let none : None ≡ Some is.read.bytes = is.read.read.0 in absurd (cc)

-- ---- how the call ends

counted : EndsCounted held b t Done (Some (conclusion.WordLines 2))
counted = record { lines = 2; only = refl; counted = two_lines; after = inl refl }

counted_but_not_written : EndsCounted held b t WriteFault (Some (conclusion.WordLines 2))
counted_but_not_written = record { lines = 2; only = refl; counted = two_lines; after = inr (inl refl) }

no_lines_said : ¬ EndsCounted held b t Done None
no_lines_said ends = let only : None ≡ Some (conclusion.WordLines ends.lines) = ends.only in absurd (cc)

other_lines_said : ¬ EndsCounted held b t Done (Some (conclusion.WordLines 3))
other_lines_said ends =
    let only : Some (conclusion.WordLines 3) ≡ Some (conclusion.WordLines ends.lines) = ends.only in
    let same : 3 ≡ ends.lines = cc in
    words_in_place_of_lines (subst (IsLineCount held b t) (sym same) ends.counted)

refused_after_counting : ¬ EndsCounted held b t BadWords (Some (conclusion.WordLines 2))
refused_after_counting ends = by_status ends.after
  where
    by_status : ¬ Rattle.flow_run.specs.PlanFiles.IsAfterConclusion BadWords
    by_status (inl same) = absurd (cc)
    by_status (inr (inl same)) = absurd (cc)
    by_status (inr (inr same)) = absurd (cc)

stopped_at_a_missing_text : CountEnds held b u (NoText u) None
stopped_at_a_missing_text = inl (record { why = stop.NoText u; stops = (refl, refl); reported = refl; none = refl })

lines_beside_a_stop : ¬ CountEnds held b u (NoText u) (Some (conclusion.WordLines 0))
lines_beside_a_stop (inl stopped) = let none = stopped.none in absurd (cc)
lines_beside_a_stop (inr ended) = lines_of_a_missing_text ended.lines ended.counted

at_its_limit : (bytes : List ℕ) → length bytes ≡ 16777215 → ¬ CountEnds (Some (λ name. Some bytes)) b t (LongText t) None
at_its_limit bytes long (inl stopped) = by_reason stopped.why stopped.stops stopped.reported
  where
    by_reason : (why : Rattle.call_status.specs.declared.stop.Stop.Stop) → Rattle.flow_run.specs.Requests.StopsAtName (Some (λ name. Some bytes)) t 16777215 why → LongText t ≡ Rattle.call_status.specs.Statuses.status_of why → ⊥
    by_reason (stop.BadGraph error) stops same = absurd (cc)
    by_reason (stop.NoSource spot) stops same = absurd (cc)
    by_reason (stop.NoText name) stops same = absurd (cc)
    by_reason (stop.LongText name) stops same = absurd (omega (arith, stops.1, long))
    by_reason (stop.ReadFault name) stops same = absurd (cc)
    by_reason (stop.BadJournal line) stops same = absurd (cc)
    by_reason stop.NoMemory stops same = absurd (cc)
at_its_limit bytes long (inr ended) = let only : None ≡ Some (conclusion.WordLines ended.lines) = ended.only in absurd (cc)

module _ (arguments : List (List ℕ)) (asks : asked_by arguments ≡ Some (count_asked b t 1000 4)) where
  call_of_a_count : CallEnds held arguments Done [] (Some (conclusion.WordLines 2))
  call_of_a_count = inl (subst (λ asked. AskedEnds held asked Done [] (Some (conclusion.WordLines 2))) (sym asks) (inr counted, refl))

  verdict_on_a_count : ¬ CallEnds held arguments Done [] (Some (conclusion.GraphFile []))
  verdict_on_a_count (inl ends) = by_end (subst (λ asked. AskedEnds held asked Done [] (Some (conclusion.GraphFile []))) asks ends).0
    where
      by_end : ¬ CountEnds held b t Done (Some (conclusion.GraphFile []))
      by_end (inl stopped) = let none = stopped.none in absurd (cc)
      by_end (inr ended) = let only : Some (conclusion.GraphFile []) ≡ Some (conclusion.WordLines ended.lines) = ended.only in absurd (cc)
  verdict_on_a_count (inr (memory, none, nothing)) = absurd (cc)

  -- ---- what is written

  line_is_written : output_of arguments [] (Some (conclusion.WordLines 2)) ≡ codes "lines 2\n"
  unfolding digits
  line_is_written = rw asks refl

no_line : count_text 0 ≡ codes "lines 0\n"
unfolding digits
no_line = refl

many_lines : conclusion_text (Some (conclusion.WordLines 16777216)) ≡ codes "lines 16777216\n"
unfolding digits
many_lines = refl

-- ---- what the call needs

text_at_its_limit : (bytes : List ℕ) → length bytes ≡ 16777215 → IsAtHand (Some (λ name. Some bytes)) (Some (count_asked b t 1 4))
text_at_its_limit bytes long = omega (arith, long)

text_past_its_limit : (bytes : List ℕ) → length bytes ≡ 16777216 → ¬ IsAtHand (Some (λ name. Some bytes)) (Some (count_asked b t 1 4))
text_past_its_limit bytes long hand = absurd (omega (arith, long, hand))

missing_text_can_not_be_counted : ¬ HoldsText texts u
missing_text_can_not_be_counted can = can

nothing_specified : ¬ IsAtHand None (Some (count_asked b t 1 4))
nothing_specified hand = hand
