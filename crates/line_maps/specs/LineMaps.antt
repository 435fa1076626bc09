-- An operation on each line of a text, as a fold.
use Rattle.std.specs.Prelude.{ℕ, List, [], ◌++◌, length, slice_index_or, refl}
use Rattle.std.proofs.Common.{append-nil, append_assoc}
use Rattle.graph_plans.specs.declared.ops.TextOp.{TextOp}
use Rattle.text_ops.specs.Lines.{ended, lines_of}
use Rattle.text_tasks.specs.OpMeaning.{text_op_value}
use Rattle.grain_tasks.specs.Folds.{Folding, IsLawful}

-- an operation, and the text to whose lines it is done
pub record LineMap : Type 0 where
  pub op : TextOp
  pub text : List ℕ

abbrev pub line_map : TextOp → List ℕ → LineMap
line_map op text = record { op = op; text = text }

-- the most bytes of a text, of which no line has a value that is too long
abbrev pub line_map_limit : ℕ
line_map_limit = 16777213

-- what the operation makes of each line, one behind the other
abbrev pub mapping : Folding LineMap (List ℕ)
mapping = record {
  count = λ f. length (lines_of f.text);
  at = λ f i. text_op_value f.op (ended (slice_index_or (lines_of f.text) i []));
  unit = λ f. [];
  join = λ f x y. x ++ y;
  allowed = λ f x. Unit {0};
}

pub mapping_lawful : (f : LineMap) → IsLawful mapping f
mapping_lawful f = record {
  unit_allowed = tt;
  value_allowed = λ i below. tt;
  join_allowed = λ x y a b. tt;
  associative = λ x y z a b c. append_assoc x y z;
  left_neutral = λ x a. refl;
  right_neutral = λ x a. append-nil x;
}
