-- The first line with a key, by slots.
use Rattle.std.proofs.Common.{◌≡◌, ◌≢◌, ℕ, zero, suc, ◌+◌, ◌<◌, ◌≤◌, List, [], ◌∷◌, length, get_or, Some, None, sym, ap, subst, ◌∙◌, arith}
use Rattle.std.specs.Prelude.{All}
use Rattle.std.specs.Option.{option_map}
use Rattle.std.proofs.lemmas.Option.{slice_get_within, slice_get-get_or, get_or_from_slice_get}
use Rattle.text_ops.specs.declared.sort_key.Piece.TheVariants.{Key}
use Rattle.text_ops.specs.declared.slots.Probed.TheVariants.{Row}
use Rattle.text_ops.specs.Lines.{lines_of, IsNormal}
use Rattle.text_ops.specs.MatchKeys.{behind_key, first_with}
use Rattle.text_ops.specs.inside.SortKeys.{SortKeyRow, keyed_piece, sort_keys_of}
use Rattle.text_ops.specs.inside.Matching.{behind_sort_key}
use Rattle.text_ops.specs.inside.Slots.{first_slot}
use Rattle.text_ops.specs.inside.KeySlots.{look_up, AreFilled, LeadToFirst}
use Rattle.text_ops.proofs.KeepLemmas.{lines_plain}
use Rattle.text_ops.proofs.LineSteps.{text_is}
use Rattle.text_ops.proofs.FoundKeys.{NotBefore, starts, find_first, find_none}
use Rattle.text_ops.proofs.SlotLemmas.{place_of, row_is}

-- sort keys stand in the order of their places
in_place : (at : ℕ) (lines : List (List ℕ)) (j k : ℕ) (d : SortKeyRow) → j ≤ k → k < length (sort_keys_of Key at lines) → (get_or (sort_keys_of Key at lines) j d).start ≤ (get_or (sort_keys_of Key at lines) k d).start
in_place at [] j k d up low = absurd (omega arith)
in_place at (line ∷ lines) zero k d up low = starts at at (line ∷ lines) (omega arith) k d low
in_place at (line ∷ lines) (suc j) zero d up low = absurd (omega arith)
in_place at (line ∷ lines) (suc j) (suc k) d up low = in_place (at + (length line + 1)) lines j k d (omega arith) (omega arith)

module _ (text key : List ℕ) (slots : List ℕ) (is : IsNormal text) (filled : AreFilled text (sort_keys_of Key 0 (lines_of text)) slots (length (sort_keys_of Key 0 (lines_of text)))) where
  abbrev pub rows : List SortKeyRow
  rows = sort_keys_of Key 0 (lines_of text)

  -- what is found for the key of a sort key
  leads_before : (k : ℕ) (d : SortKeyRow) → k < length rows → keyed_piece text (get_or rows k d) ≡ key → (j : ℕ) × (j ≤ k) × (look_up text rows slots key ≡ Row j)
  leads_before k d low same =
      let earlier = filled k (get_or rows k d) low (slice_get-get_or rows k d low) in
      (earlier.0, earlier.1, ap (look_up text rows slots) (sym same) ∙ earlier.2)

  pub first_found : (j : ℕ) (d : SortKeyRow) → look_up text rows slots key ≡ Row j → option_map behind_key (first_with key (lines_of text)) ≡ Some (behind_sort_key text (get_or rows j d))
  first_found j d found =
      let has = row_is text rows key slots 16 (first_slot key (length slots)) j found in
      let sort_key = has.0 in
      let low = slice_get_within rows j sort_key has.1 in
      let read : get_or rows j d ≡ sort_key = get_or_from_slice_get rows j sort_key d has.1 in
      let not_before : All (NotBefore text key sort_key) rows = λ k e within other.
      let earlier = leads_before k e within other in
      let one : earlier.0 ≡ j = ap place_of (sym earlier.2 ∙ found) in
      let up = in_place 0 (lines_of text) j k e (omega (arith, one, earlier.1)) within in
      let first : get_or rows j e ≡ sort_key = get_or_from_slice_get rows j sort_key e has.1 in
      omega (arith, up, ap (λ (r : SortKeyRow). r.start) first) in
      find_first text key sort_key 0 (lines_of text) (text_is text is) (lines_plain text) has.2 not_before (j, low, get_or_from_slice_get rows j sort_key sort_key has.1)
      ∙ ap (λ r. Some (behind_sort_key text r)) (sym read)

  pub none_found : ((j : ℕ) → look_up text rows slots key ≢ Row j) → first_with key (lines_of text) ≡ None
  none_found never =
      find_none text key 0 (lines_of text) (text_is text is)
      (λ k d low same. let earlier = leads_before k d low same in never earlier.0 earlier.2)

-- The same of slots that lead to a text's keys.
module _ (text key : List ℕ) (rows : List SortKeyRow) (slots : List ℕ) (is : IsNormal text) (leads : LeadToFirst text rows slots) where
  all_filled : AreFilled text (sort_keys_of Key 0 (lines_of text)) slots (length (sort_keys_of Key 0 (lines_of text)))
  all_filled = subst (λ r. AreFilled text r slots (length r)) leads.rows_are leads.filled

  pub behind_row : (j : ℕ) (d : SortKeyRow) → look_up text rows slots key ≡ Row j → option_map behind_key (first_with key (lines_of text)) ≡ Some (behind_sort_key text (get_or rows j d))
  behind_row j d found =
      first_found text key slots is all_filled j d (ap (λ r. look_up text r slots key) (sym leads.rows_are) ∙ found)
      ∙ ap (λ r. Some (behind_sort_key text (get_or r j d))) (sym leads.rows_are)

  pub no_row : ((j : ℕ) → look_up text rows slots key ≢ Row j) → first_with key (lines_of text) ≡ None
  no_row never = none_found text key slots is all_filled (λ j found. never j (ap (λ r. look_up text r slots key) leads.rows_are ∙ found))

  -- a row that is found is one of them
  pub row_inside : (j : ℕ) → look_up text rows slots key ≡ Row j → j < length rows
  row_inside j found =
      let has = row_is text rows key slots 16 (first_slot key (length slots)) j found in
      slice_get_within rows j has.0 has.1
