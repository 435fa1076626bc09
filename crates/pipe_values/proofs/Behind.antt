-- The text of a token behind each pipe, and where no text on its way is too long.
use Rattle.std.proofs.Common.{◌≡◌, ℕ, zero, suc, ◌+◌, ◌<◌, ◌≤◌, Bool, true, false, cond, List, [], ◌∷◌, ◌++◌, length, get_or, Option, Some, None, sym, refl, ap, ◌∙◌, subst, arith}
use Rattle.std.specs.Prelude.{nat_le, slice_get}
use Rattle.std.specs.List.{flat_map, range_with_len}
use Rattle.std.specs.Option.{option_and_then, option_map}
use Rattle.std.proofs.lemmas.Bool.Decides.{nat_tests}
use Rattle.std.proofs.lemmas.Option.{none-some, same_Some}
use Rattle.graph_plans.specs.declared.pipes.LineOp.{LineOp}
use Rattle.graph_plans.specs.declared.pipes.LineOp.TheVariants.{Number}
use Rattle.text_ops.specs.Values.{value_limit}
use Rattle.text_tasks.specs.CellMeaning.{line_op_value}
use Rattle.text_tasks.specs.PipeWork.{PipeWork}
use Rattle.pipe_values.specs.PipeValue.{text_behind, texts_behind}

-- the text behind the first p pipes
abbrev pub text_after : List LineOp → ℕ → ℕ → List ℕ → ℕ → List ℕ
text_after ops token place text zero = text
text_after ops token place text (suc p) = line_op_value (get_or ops p Number) token place (text_after ops token place text p)

-- none of these texts is too long
abbrev pub AllShort : List LineOp → ℕ → ℕ → List ℕ → Type 0
AllShort ops token place text = (p : ℕ) → p < length ops → length (text_after ops token place text (suc p)) ≤ value_limit

pub is_short : (text : List ℕ) → length text ≤ value_limit → nat_le (length text) value_limit ≡ true
is_short text few = grind (arith, nat_tests)

pub short_is : (text : List ℕ) → nat_le (length text) value_limit ≡ true → length text ≤ value_limit
short_is text is = grind (arith, nat_tests)

-- ---- one token

module _ (token place : ℕ) where
  -- behind one pipe more
  after_first : (op : LineOp) (ops : List LineOp) (text : List ℕ) (p : ℕ) → text_after (op ∷ ops) token place text (suc p) ≡ text_after ops token place (line_op_value op token place text) p
  after_first op ops text zero = refl
  after_first op ops text (suc p) = ap (line_op_value (get_or ops p Number) token place) (after_first op ops text p)

  pub behind_short : (ops : List LineOp) (text : List ℕ) → AllShort ops token place text → text_behind ops token place text ≡ Some (text_after ops token place text (length ops))
  behind_short [] text short = refl
  behind_short (op ∷ ops) text short =
      let made : List ℕ = line_op_value op token place text in
      ap (λ b. cond b (text_behind ops token place made) None) (is_short made (short 0 (omega arith)))
      ∙ behind_short ops made (λ p below. subst (λ t. length t ≤ value_limit) (after_first op ops text (suc p)) (short (suc p) (omega (arith, below))))
      ∙ ap Some (sym (after_first op ops text (length ops)))

  pub short_behind : (ops : List LineOp) (text last : List ℕ) → text_behind ops token place text ≡ Some last → AllShort ops token place text
  short_behind [] text last is = λ p below. absurd (omega (arith, below))
  short_behind (op ∷ ops) text last is = by_test (nat_le (length made) value_limit) refl is (short_behind ops (line_op_value op token place text) last)
    where
      made : List ℕ
      made = line_op_value op token place text

      by_test : (b : Bool) → nat_le (length made) value_limit ≡ b → cond b (text_behind ops token place made) None ≡ Some last → (text_behind ops token place made ≡ Some last → AllShort ops token place made) → AllShort (op ∷ ops) token place text
      by_test false long none later p below = absurd (none-some _ none)
      by_test true short rest later zero below = short_is made short
      by_test true short rest later (suc p) below = subst (λ t. length t ≤ value_limit) (sym (after_first op ops text (suc p))) (later rest p (omega (arith, below)))

-- ---- all tokens

module _ (work : PipeWork) where
  -- the text of a token of the order
  abbrev pub part_of : ℕ → List ℕ
  part_of token = get_or work.parts token []

  -- where each has a text behind all pipes
  pub texts_are : (f : ℕ → List ℕ) (place : ℕ) (tokens : List ℕ) → ((i k : ℕ) → slice_get tokens i ≡ Some k → text_behind work.ops k (place + i) (part_of k) ≡ Some (f (place + i)))
      → texts_behind work place tokens ≡ Some (flat_map f (range_with_len place (length tokens)))
  texts_are f place [] each = refl
  texts_are f place (k ∷ tokens) each =
      let here : place + 0 ≡ place = omega arith in
      ap (option_and_then (λ text. option_map (λ texts. text ++ texts) (texts_behind work (place + 1) tokens))) (subst (λ n. text_behind work.ops k n (part_of k) ≡ Some (f n)) here (each 0 k refl))
      ∙ ap (option_map (λ texts. f place ++ texts)) (texts_are f (place + 1) tokens (λ i j at. let next : place + suc i ≡ (place + 1) + i = omega arith in subst (λ n. text_behind work.ops j n (part_of j) ≡ Some (f n)) next (each (suc i) j at)))

  -- where all have one, each has
  pub texts_each : (place : ℕ) (tokens texts : List ℕ) → texts_behind work place tokens ≡ Some texts → (i k : ℕ) → slice_get tokens i ≡ Some k → AllShort work.ops k (place + i) (part_of k)
  texts_each place [] texts is = λ i k at. absurd (none-some k at)
  texts_each place (j ∷ tokens) texts is = by_text (text_behind work.ops j place (part_of j)) refl is (texts_each (place + 1) tokens)
    where
      Each : Type 0
      Each = (i k : ℕ) → slice_get (j ∷ tokens) i ≡ Some k → AllShort work.ops k (place + i) (part_of k)

      Later : Type 0
      Later = (ts : List ℕ) → texts_behind work (place + 1) tokens ≡ Some ts → (i k : ℕ) → slice_get tokens i ≡ Some k → AllShort work.ops k ((place + 1) + i) (part_of k)

      by_rest : (text : List ℕ) → text_behind work.ops j place (part_of j) ≡ Some text → Later → (rest : Option (List ℕ)) → texts_behind work (place + 1) tokens ≡ rest → option_map (λ ts. text ++ ts) rest ≡ Some texts → Each
      by_rest text here later None none all i k at = absurd (none-some _ all)
      by_rest text here later (Some ts) there all zero k at =
          let same : j ≡ k = same_Some _ _ at in
          let first : place ≡ place + 0 = omega arith in
          subst (λ n. AllShort work.ops k n (part_of k)) first (subst (λ t. AllShort work.ops t place (part_of t)) same (short_behind j place work.ops (part_of j) text here))
      by_rest text here later (Some ts) there all (suc i) k at =
          let next : (place + 1) + i ≡ place + suc i = omega arith in
          subst (λ n. AllShort work.ops k n (part_of k)) next (later ts there i k at)

      by_text : (text : Option (List ℕ)) → text_behind work.ops j place (part_of j) ≡ text
          → option_and_then (λ t. option_map (λ ts. t ++ ts) (texts_behind work (place + 1) tokens)) text ≡ Some texts → Later → Each
      by_text None none all later = absurd (none-some _ all)
      by_text (Some text) here all later = by_rest text here later (texts_behind work (place + 1) tokens) refl all
