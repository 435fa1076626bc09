-- What is found of a worked journal.
use Rattle.std.specs.Prelude.{ℕ, Bool, true, false, List, [], ◌∷◌, ◌++◌}
use Rattle.task_graph.specs.NetRows.{NetRows}
use Rattle.journal_rules.specs.declared.entry.Entry.{Entry}
use Rattle.journal_rules.specs.ReleaseRule.{ReleaseRule}
use Rattle.journal_rules.specs.ClosingRule.{ClosingRule}
use Rattle.journal_rules.specs.ChoiceRule.{ChoiceRule}
use Rattle.journal_rules.specs.SemaphoreRule.{SemaphoreRule}
use Rattle.journal_rules.specs.HaltLimitStuckRule.{HaltLimitStuckRule}
use Rattle.journal_rules.specs.ShapeLegal.{ShapeLegal, MayFollow, MeetsDataRule, IsInRange}
use Rattle.journal_rules.specs.DataRule.{DataRule}
use Rattle.journal_rules.specs.Complete.{Complete}

-- a legal journal, in which each Start finds what it may
pub record IsLegal (net : NetRows) (limit : ℕ) (journal : List Entry) : Type 0 where
  pub shape : ShapeLegal net limit journal
  pub parts : MeetsDataRule net journal

-- the journal of a finished run
pub record IsFinished (net : NetRows) (limit : ℕ) (journal : List Entry) : Type 0 where
  pub legal : IsLegal net limit journal
  pub complete : Complete net limit journal

-- a legal journal of a run that goes on
pub record IsUnfinished (net : NetRows) (limit : ℕ) (journal : List Entry) : Type 0 where
  pub legal : IsLegal net limit journal
  pub incomplete : ¬ Complete net limit journal

-- the rules that decide whether an entry may follow a journal
pub data Rule : Type 0 where
  Range Release Closing Choosing Units Ending : Rule

abbrev pub is_range : Rule → Bool
is_range Range = true
is_range _ = false

abbrev pub is_release : Rule → Bool
is_release Release = true
is_release _ = false

abbrev pub is_closing : Rule → Bool
is_closing Closing = true
is_closing _ = false

abbrev pub is_choosing : Rule → Bool
is_choosing Choosing = true
is_choosing _ = false

abbrev pub is_units : Rule → Bool
is_units Units = true
is_units _ = false

abbrev pub is_ending : Rule → Bool
is_ending Ending = true
is_ending _ = false

-- a fact holds, or where it is the broken one fails
abbrev pub Unless : Bool → Type 0 → Type 0
Unless true P = ¬ P
Unless false P = P

-- The journal is legal, and not with the entry, which breaks this rule and no other.
pub record BreaksOnly (rule : Rule) (net : NetRows) (limit : ℕ) (journal : List Entry) (entry : Entry) : Type 0 where
  pub before : ShapeLegal net limit journal
  pub illegal : ¬ ShapeLegal net limit (journal ++ entry ∷ [])
  pub in_range : Unless (is_range rule) (IsInRange net entry)
  pub release : Unless (is_release rule) (ReleaseRule net journal entry)
  pub closing : Unless (is_closing rule) (ClosingRule journal entry)
  pub choice : Unless (is_choosing rule) (ChoiceRule net journal entry)
  pub semaphore : Unless (is_units rule) (SemaphoreRule net journal entry)
  pub halt_limit_stuck : Unless (is_ending rule) (HaltLimitStuckRule net limit journal entry)

-- The journal is legal, and not with the entry, of which a number is out of range.
pub record IsOutOfRange (net : NetRows) (limit : ℕ) (journal : List Entry) (entry : Entry) : Type 0 where
  pub before : ShapeLegal net limit journal
  pub illegal : ¬ MayFollow net limit journal entry
  pub range : ¬ IsInRange net entry

-- The journal is legal, with the entry too, but the entry is a Start that finds what it may not.
pub record FindsWrong (net : NetRows) (limit : ℕ) (journal : List Entry) (entry : Entry) : Type 0 where
  pub before : IsLegal net limit journal
  pub shape : ShapeLegal net limit (journal ++ entry ∷ [])
  pub broken : ¬ DataRule net journal entry
