-- The account of slots: what lies on the edges, and what the seats hold of it.
use Rattle.std.specs.Prelude.{◌≡◌, ◌≢◌, ℕ, ◌+◌, ◌≤◌, Bool, true, false, ◌&&◌, ◌==◌, List, [], ◌∷◌, count_by, slice_get}
use Rattle.std.specs.Option.{option_map_or}
use Rattle.task_graph.specs.NetRows.{NetRows}
use Rattle.journal_rules.specs.declared.entry.Part.{Part}
use Rattle.journal_rules.specs.declared.entry.Part.TheVariants.{From, First, Nothing}
use Rattle.journal_rules.specs.declared.entry.Entry.{Entry}
use Rattle.journal_rules.specs.Counts.{gives_edge, first_tokens}
use Rattle.journal_rules.specs.Calm.{IsCalm}
use Rattle.journal_rules.specs.DataRule.{has_part, is_from, is_first, last_part}
use Rattle.journal_rules.specs.ShapeLegal.{MeetsDataRule}
use Rattle.table_steps.specs.Giving.{one_if}

abbrev pub same_part : Part → Part → Bool
same_part (From a) (From b) = a == b
same_part First First = true
same_part Nothing Nothing = true
same_part _ _ = false

-- how often a part is at an edge
abbrev pub parts_count : ℕ → Part → List ℕ → List Part → ℕ
parts_count e p (g ∷ es) (q ∷ ps) = one_if ((g == e) && same_part q p) + parts_count e p es ps
parts_count e p _ _ = 0

-- how often a part is in a list
abbrev pub part_times : Part → List Part → ℕ
part_times p [] = 0
part_times p (q ∷ ps) = one_if (same_part q p) + part_times p ps

-- P e p is how many parcels p of edge e the seats have; Q e p how many lie in the slot of e, or did when it was taken;
-- F e how many of the seats have a parcel of e whose token is still in the word; R e how many have put theirs and owe
-- the token still.
pub record DataPart (net : NetRows) (journal : List Entry) (edge : ℕ → ℕ) (P Q : ℕ → Part → ℕ) (F R : ℕ → ℕ) : Type 0 where
  pub meets : MeetsDataRule net journal
  pub froms : (e n : ℕ) → P e (From n) + Q e (From n) + count_by (has_part net e (is_from n)) journal ≤ one_if (option_map_or (gives_edge e) (slice_get journal n) false)
  pub firsts : (e : ℕ) → P e First + Q e First + count_by (has_part net e is_first) journal ≤ first_tokens net e
  -- on a calm edge there is no parcel but the due one
  pub stale : (e : ℕ) → IsCalm net e journal → (p : Part) → p ≢ last_part e journal → P e p + Q e p ≡ 0
  pub due : (e : ℕ) → IsCalm net e journal → Q e (last_part e journal) + F e ≡ edge e + R e

-- what the other accounts say of these; K e is how many tokens of e the seats owe or hold
pub record Owned (K : ℕ → ℕ) (edge : ℕ → ℕ) (P : ℕ → Part → ℕ) (F R : ℕ → ℕ) : Type 0 where
  pub owned : (e : ℕ) (p : Part) → P e p ≤ K e + F e
  pub fetched : (e : ℕ) → F e ≤ edge e
  pub owing : (e : ℕ) → R e ≤ K e
