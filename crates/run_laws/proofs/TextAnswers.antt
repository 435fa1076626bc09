-- What text jobs do is what their meaning allows.
use Rattle.std.proofs.Common.{◌≡◌, ℕ, ◌<◌, ◌≤◌, Bool, true, false, cond, List, length, Option, Some, None, sym, refl, ap, ◌∙◌, subst, arith}
use Rattle.std.specs.Prelude.{All, nat_le, slice_get, IsSomeAnd}
use Rattle.std.specs.Option.{option_and_then, option_map}
use Rattle.std.proofs.lemmas.Bool.Decides.{nat_tests}
use Rattle.std.proofs.lemmas.Option.{none-some, same_Some, slice_get_within, get_or_from_slice_get}
use Rattle.journal_rules.specs.declared.entry.Why.{Why}
use Rattle.journal_rules.specs.declared.entry.Why.TheVariants.{Long, Wide, Unmet, Inner, OverRelease}
use Rattle.run_frame.specs.declared.job.Answer.{Answer}
use Rattle.run_frame.specs.declared.job.Answer.TheVariants.{All as Each}
use Rattle.run_frame.specs.declared.job.Done.{Done}
use Rattle.run_frame.specs.declared.job.Done.TheVariants.{Value, Inner as InnerJob}
use Rattle.text_ops.specs.Values.{value_limit}
use Rattle.text_tasks.specs.declared.item.Item.{Item}
use Rattle.text_tasks.specs.declared.item.Item.TheVariants.{Text, Cell}
use Rattle.graph_plans.specs.declared.ops.TextOp.{TextOp}
use Rattle.text_tasks.specs.declared.job.TextJob.{TextJob}
use Rattle.text_tasks.specs.declared.job.TextJob.TheVariants.{Graph, Parts}
use Rattle.text_tasks.specs.GraphWork.{GraphWork}
use Rattle.text_tasks.specs.PartsWork.{PartsWork}
use Rattle.text_tasks.specs.JobMeaning.{AnswersAs, FaultsAs, FaultsLong}
use Rattle.text_tasks.specs.OpMeaning.{OpMeaning, hands_over, moves_on, never_passes, runs, text_op_value, too_wide}
use Rattle.run_laws.specs.TextAnswers.{as_value, done_by}

-- ---- what tasks do

short_test : (text : List ℕ) → length text ≤ value_limit → nat_le (length text) value_limit ≡ true
short_test text few = grind (arith, nat_tests)

long_test : (text : List ℕ) (n : ℕ) → n ≡ length text → value_limit < n → nat_le (length text) value_limit ≡ false
long_test text n is over = let longer : value_limit < length text = omega (arith, is, over) in grind (arith, nat_tests)

-- an answer that is allowed is what is done
value_done : (meaning : OpMeaning) (item : Item) (answer : Answer) → AnswersAs meaning (Value item answer) → done_by meaning ≡ Some (Value item answer)
value_done (hands_over text chosen) item answer is =
    ap (λ b. cond b (Some (Value (Text text) chosen)) None) (short_test text is.2)
    ∙ ap (λ i. Some (Value i chosen)) (sym is.0)
    ∙ ap (λ a. Some (Value item a)) (sym is.1)
value_done (moves_on cell chosen) item answer is =
    ap (λ b. cond b (Some (Value (Cell cell) chosen)) None) (short_test cell.text is.2)
    ∙ ap (λ i. Some (Value i chosen)) (sym is.0)
    ∙ ap (λ a. Some (Value item a)) (sym is.1)
value_done (runs inner) item answer is = absurd is
value_done (too_wide parts) item answer is = absurd is
value_done (never_passes token) item answer is = absurd is

-- a value, where its text isn't too long
abbrev finished : List ℕ → Item → Answer → Option (Done TextJob Item)
finished text item chosen = cond (nat_le (length text) value_limit) (Some (Value item chosen)) None

long_done : (text : List ℕ) (item : Item) (chosen : Answer) (why : Why) → FaultsLong text why → finished text item chosen ≡ None
long_done text item chosen (Long n) is = ap (λ b. cond {A = Option (Done TextJob Item)} b (Some (Value item chosen)) None) (long_test text n is.0 is.1)
long_done text item chosen (Wide n) is = absurd is
long_done text item chosen (Unmet k) is = absurd is
long_done text item chosen Inner is = absurd is
long_done text item chosen (OverRelease s) is = absurd is

fault_done : (meaning : OpMeaning) (why : Why) → FaultsAs meaning why → done_by meaning ≡ None
fault_done (hands_over text chosen) why is = long_done text (Text text) chosen why is
fault_done (moves_on cell chosen) why is = long_done cell.text (Cell cell) chosen why is
fault_done (runs inner) why is = absurd is
fault_done (too_wide parts) why is = refl
fault_done (never_passes token) why is = refl

inner_done : (meaning : OpMeaning) (inner : TextJob) → AnswersAs meaning (InnerJob inner) → meaning ≡ runs inner
inner_done (hands_over text chosen) inner is = absurd is
inner_done (moves_on cell chosen) inner is = absurd is
inner_done (runs job) inner is = ap runs (sym is)
inner_done (too_wide parts) inner is = absurd is
inner_done (never_passes token) inner is = absurd is

pub value_at_task : (o : Option OpMeaning) (item : Item) (answer : Answer) → IsSomeAnd o (λ m. AnswersAs m (Value item answer)) → option_and_then done_by o ≡ Some (Value item answer)
value_at_task None item answer is = absurd is
value_at_task (Some m) item answer is = value_done m item answer is

pub fault_at_task : (o : Option OpMeaning) (why : Why) → IsSomeAnd o (λ m. FaultsAs m why) → option_and_then done_by o ≡ None
fault_at_task None why is = absurd is
fault_at_task (Some m) why is = fault_done m why is

pub inner_at_task : (o : Option OpMeaning) (inner : TextJob) → IsSomeAnd o (λ m. AnswersAs m (InnerJob inner)) → o ≡ Some (runs inner)
inner_at_task None inner is = absurd is
inner_at_task (Some m) inner is = ap Some (inner_done m inner is)

-- ---- which jobs tasks run

pub spread_runs : (few : Bool) (parts : PartsWork) (count : ℕ) (inner : TextJob) → cond few (runs (Parts parts)) (too_wide count) ≡ runs inner → (inner ≡ Parts parts) × (few ≡ true)
spread_runs true parts count inner same = (cc, refl)
spread_runs false parts count inner same = absurd (cc)

pub module_runs : (short : Bool) (work : GraphWork) (text : List ℕ) (inner : TextJob) → cond short (runs (Graph work)) (hands_over text Each) ≡ runs inner → inner ≡ Graph work
module_runs true work text inner same = cc
module_runs false work text inner same = absurd (cc)

pub parts_none : (o : Option (List ℕ)) (op : TextOp) (inner : TextJob) → option_map (λ part. hands_over (text_op_value op part) Each) o ≡ Some (runs inner) → ⊥
parts_none None op inner same = none-some _ same
parts_none (Some part) op inner same = let is : hands_over (text_op_value op part) Each ≡ runs inner = same_Some _ _ same in cc

-- ---- what runs are gathered to

pub gather_value : (text : List ℕ) (item : Item) → item ≡ Text text → length text ≤ value_limit → as_value text ≡ Some item
gather_value text item is short = ap (λ b. cond b (Some (Text text)) None) (short_test text short) ∙ ap Some (sym is)

pub gather_long : (text : List ℕ) (why : Why) → FaultsLong text why → as_value text ≡ None
gather_long text (Long n) is = ap (λ b. cond b (Some (Text text)) None) (long_test text n is.0 is.1)
gather_long text (Wide n) is = absurd is
gather_long text (Unmet k) is = absurd is
gather_long text Inner is = absurd is
gather_long text (OverRelease s) is = absurd is

-- ---- lists

-- an item that is there meets what all meet
pub item_meets : {X : Type 0} (P : X → Type 0) (xs : List X) (k : ℕ) (x : X) → All P xs → slice_get xs k ≡ Some x → P x
item_meets P xs k x all is = subst P (get_or_from_slice_get xs k x x is) (all k x (slice_get_within xs k x is))
