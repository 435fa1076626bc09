-- What a pipeline's run comes to, token by token.
use Rattle.std.proofs.Common.{◌≡◌, ℕ, ◌+◌, ◌<◌, Bool, true, false, List, [], ◌∷◌, ◌++◌, length, Option, Some, None, refl, sym, ap, ◌∙◌, arith, append-nil}
use Rattle.std.specs.Prelude.{◌==◌, if◌then◌else◌}
use Rattle.std.specs.List.{flat_map, range_with_len}
use Rattle.std.specs.Option.{option_and_then, option_map, option_map_or}
use Rattle.std.proofs.lemmas.List.Concat.{flat_map-append}
use Rattle.journal_rules.specs.declared.entry.Entry.{Entry}
use Rattle.run_frame.specs.declared.run.FrameRun.{FrameRun}
use Rattle.run_frame.specs.declared.run.ValueRow.{ValueRow}
use Rattle.run_frame.specs.LastEnds.{ended_at}
use Rattle.run_frame.specs.NestedRule.{journal_of}
use Rattle.run_frame.specs.Runs.{value_at, values_of}
use Rattle.run_frame.proofs.EndsLemmas.{counting_more}
use Rattle.text_tasks.specs.declared.gathered.LastValues.{LastValues}
use Rattle.text_tasks.specs.declared.item.Item.{Item}
use Rattle.text_tasks.specs.declared.job.TextJob.{TextJob}
use Rattle.text_tasks.specs.Items.{item_place, item_text}
use Rattle.text_tasks.specs.PipeEnds.{ends_token, in_last_pipe, text_at_place, token_end_before}
use Rattle.text_tasks.specs.inside.Gathering.{AreTokenValues, last_held, token_ended, value_held}
use Rattle.text_tasks.proofs.GatherLemmas.{value_is_held}
use Rattle.text_tasks.proofs.LastLemmas.{last_next, last_within}

-- ---- the last End of a token

ends_token_is : (pipes : ℕ) (journal : List Entry) (values : List (ValueRow Item)) (place n : ℕ) → ends_token pipes journal values place n ≡ option_map_or (λ p. p == place) (token_ended pipes journal values n) false
ends_token_is pipes journal values place n = by_test (option_map_or (in_last_pipe pipes) (ended_at journal n) false) (value_at values n)
  where
    by_test : (b : Bool) (o : Option Item) → (if b then option_map_or (λ item. item_place item == place) o false else false) ≡ option_map_or (λ p. p == place) (if b then option_map item_place o else None) false
    by_test true None = refl
    by_test true (Some item) = refl
    by_test false o = refl

-- with one entry more
pub token_end_more : (pipes : ℕ) (journal : List Entry) (values : List (ValueRow Item)) (place n : ℕ) (ended : Option ℕ) → ended ≡ token_ended pipes journal values n → token_end_before pipes journal values (n + 1) place ≡ (if option_map_or (λ p. p == place) ended false then Some n else token_end_before pipes journal values n place)
token_end_more pipes journal values place n ended is =
    last_next (ends_token pipes journal values place) n
    ∙ ap (λ b. if b then Some n else token_end_before pipes journal values n place) (ends_token_is pipes journal values place n ∙ ap (λ o. option_map_or (λ p. p == place) o false) (sym is))

-- its value is put down
pub token_value_held : (run : FrameRun TextJob Item) (pipes places : ℕ) (last : LastValues) (place : ℕ) → AreTokenValues run pipes places last → place < places → last_held last place ≡ option_and_then (value_at (values_of run)) (token_end_before pipes (journal_of run) (values_of run) (length (journal_of run)) place)
token_value_held run pipes places last place are below =
    let journal = journal_of run in
    ap (option_and_then (value_held last.values.items)) (are.ends place below)
    ∙ value_is_held run last.values.items (token_end_before pipes journal (values_of run) (length journal) place) are.values (last_within (ends_token pipes journal (values_of run) place) (length journal))

-- ---- the texts of the tokens

-- with one token more
pub texts_next : (f : ℕ → List ℕ) (n : ℕ) → flat_map f (range_with_len 0 (n + 1)) ≡ flat_map f (range_with_len 0 n) ++ f n
texts_next f n =
    ap (flat_map f) (counting_more 0 n n (omega arith)) ∙ flat_map-append f (range_with_len 0 n) (n ∷ [])
    ∙ ap (λ l. flat_map f (range_with_len 0 n) ++ l) (append-nil (f n))

pub token_text_held : (run : FrameRun TextJob Item) (pipes places : ℕ) (last : LastValues) (place : ℕ) → AreTokenValues run pipes places last → place < places → option_map_or item_text (last_held last place) [] ≡ text_at_place pipes run place
token_text_held run pipes places last place are below = ap (λ o. option_map_or item_text o []) (token_value_held run pipes places last place are below)
