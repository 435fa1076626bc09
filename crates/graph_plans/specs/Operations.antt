-- What operations are to a plan: the shapes of their tasks, and what they may name.
use Rattle.std.specs.Prelude.{◌≡◌, ℕ, ◌<◌, ◌≤◌, true, List, length, slice_get, All, Some}
use Rattle.task_graph.specs.declared.net.Shape.{Shape}
use Rattle.task_graph.specs.declared.net.Shape.TheVariants.{Plain, Choice, Many, Nested}
use Rattle.graph_plans.specs.declared.ops.Op.{Op}
use Rattle.graph_plans.specs.declared.ops.Op.TheVariants.{Input, Read, Text, Match, Back, IfMore, IfHas, Route, Spread, Module, Pipe}
use Rattle.graph_plans.specs.declared.ops.TextOp.{TextOp}
use Rattle.graph_plans.specs.declared.ops.TextOp.TheVariants.{Pass, Keep, Without, Head, Tail, Skip, Sort, Uniq, Count, Tally}
use Rattle.graph_plans.specs.declared.pipes.LineOp.{LineOp}
use Rattle.graph_plans.specs.declared.pipes.LineOp.TheVariants.{Text as LineText, Number, Stamp}
use Rattle.graph_plans.specs.declared.pipes.PipePlan.{PipePlan}
use Rattle.pipe_lines.specs.DeferRows.{AreDeferRows}
use Rattle.pipe_lines.specs.Pipelines.{IsPipeline}

-- the shape of the task of an operation
abbrev pub shape_of : Op → Shape
shape_of Input = Plain
shape_of (Read text) = Plain
shape_of (Text op) = Plain
shape_of Match = Plain
shape_of Back = Choice
shape_of (IfMore n) = Choice
shape_of (IfHas word) = Choice
shape_of (Route words) = Many
shape_of (Spread n each) = Nested
shape_of (Module m) = Nested
shape_of (Pipe plan) = Nested

-- the greatest number of lines that an operation may name
abbrev pub line_limit : ℕ
line_limit = 1000000000

-- the most bytes of a word
abbrev pub word_limit : ℕ
word_limit = 4096

-- the most words of a route
abbrev pub route_limit : ℕ
route_limit = 256

-- a word has at most 4,096 bytes
abbrev pub IsWord : List ℕ → Type 0
IsWord word = length word ≤ word_limit

-- the words and numbers of an operation on one text are within their limits
abbrev pub IsTextOp : TextOp → Type 0
IsTextOp Pass = Unit {0}
IsTextOp (Keep word) = IsWord word
IsTextOp (Without word) = IsWord word
IsTextOp (Head n) = n ≤ line_limit
IsTextOp (Tail n) = n ≤ line_limit
IsTextOp (Skip n) = n ≤ line_limit
IsTextOp Sort = Unit {0}
IsTextOp Uniq = Unit {0}
IsTextOp Count = Unit {0}
IsTextOp Tally = Unit {0}

-- the lines of a part: one at least
pub record IsPartSize (n : ℕ) : Type 0 where
  pub least : 1 ≤ n
  pub most : n ≤ line_limit

-- the same of the operation of a pipe
abbrev pub IsLineOp : LineOp → Type 0
IsLineOp (LineText op) = IsTextOp op
IsLineOp Number = Unit {0}
IsLineOp Stamp = Unit {0}

-- Each pipe has an operation, which writes places only where the pipe is serial; a part has a line at least, and the
-- rows that defer tokens keep their limits.
pub record IsPipePlan (plan : PipePlan) : Type 0 where
  pub op_count : length plan.ops ≡ length plan.spec.serial
  pub ops : All IsLineOp plan.ops
  pub stamps : (p : ℕ) → slice_get plan.ops p ≡ Some Stamp → slice_get plan.spec.serial p ≡ Some true
  pub chunk : IsPartSize plan.chunk
  pub defers : AreDeferRows plan.defers

-- the same of any operation, where so many texts are named and there are so many modules
abbrev pub IsOp : ℕ → ℕ → Op → Type 0
IsOp texts modules Input = Unit {0}
IsOp texts modules (Read text) = text < texts
IsOp texts modules (Text op) = IsTextOp op
IsOp texts modules Match = Unit {0}
IsOp texts modules Back = Unit {0}
IsOp texts modules (IfMore n) = n ≤ line_limit
IsOp texts modules (IfHas word) = IsWord word
IsOp texts modules (Route words) = (length words ≤ route_limit) × All IsWord words
IsOp texts modules (Spread n each) = IsPartSize n × IsTextOp each
IsOp texts modules (Module m) = m < modules
IsOp texts modules (Pipe plan) = IsPipePlan plan

-- the pipes of an operation are a pipeline, if it has some
abbrev pub HasPipeline : Op → Type 0
HasPipeline Input = Unit {0}
HasPipeline (Read text) = Unit {0}
HasPipeline (Text op) = Unit {0}
HasPipeline Match = Unit {0}
HasPipeline Back = Unit {0}
HasPipeline (IfMore n) = Unit {0}
HasPipeline (IfHas word) = Unit {0}
HasPipeline (Route words) = Unit {0}
HasPipeline (Spread n each) = Unit {0}
HasPipeline (Module m) = Unit {0}
HasPipeline (Pipe plan) = IsPipeline plan.spec
