-- What a pipeline is, and why a specification is refused as none.
use Rattle.std.specs.Prelude.{◌≡◌, ◌==◌, ℕ, suc, ◌<◌, ◌≤◌, nat_le, Bool, true, false, List, [], ◌∷◌, length, slice_get, Option, Some, None, if◌then◌else◌}
use Rattle.task_graph.specs.NetRows.{NetRows}
use Rattle.pipe_lines.specs.declared.pipeline.PipeSpec.{PipeSpec}
use Rattle.pipe_lines.specs.declared.pipeline.PipeError.{PipeError}
use Rattle.pipe_lines.specs.declared.pipeline.PipeError.TheVariants.{NoLines, NoPipes, FirstParallel, TooManyLines, TooManyPipes, NoMemory}
use Rattle.pipe_lines.specs.PipeNet.{pipe_net}

-- how many lines a pipeline may have
abbrev pub line_limit : ℕ
line_limit = 64

-- how many pipes
abbrev pub pipe_limit : ℕ
pipe_limit = 32

-- There are lines and pipes, and not too many, and the first pipe is serial.
pub record IsPipeline (spec : PipeSpec) : Type 0 where
  pub some_lines : 1 ≤ spec.lines
  pub first_serial : slice_get spec.serial 0 ≡ Some true
  pub few_lines : spec.lines ≤ line_limit
  pub few_pipes : length spec.serial ≤ pipe_limit

-- The net is that of these lines and pipes, which are a pipeline.
pub record IsPipeNet (spec : PipeSpec) (net : NetRows) : Type 0 where
  pub pipeline : IsPipeline spec
  pub rows : net ≡ pipe_net spec.lines spec.serial

-- Why a pipeline is refused. No two of these hold of one, so each but `NoMemory` is returned exactly where it holds.
abbrev pub RefusesPipes : PipeSpec → PipeError → Type 0
RefusesPipes spec NoLines = spec.lines ≡ 0
RefusesPipes spec NoPipes = (1 ≤ spec.lines) × (spec.serial ≡ [])
RefusesPipes spec FirstParallel = (1 ≤ spec.lines) × (slice_get spec.serial 0 ≡ Some false)
RefusesPipes spec TooManyLines = (slice_get spec.serial 0 ≡ Some true) × (line_limit < spec.lines)
RefusesPipes spec TooManyPipes = (1 ≤ spec.lines) × (slice_get spec.serial 0 ≡ Some true) × (spec.lines ≤ line_limit) × (pipe_limit < length spec.serial)
RefusesPipes spec NoMemory = IsPipeline spec

-- why pipes of which the first is serial or not are none of a pipeline with so many lines, if they are none
abbrev pub limit_fault : Bool → ℕ → ℕ → Option PipeError
limit_fault false lines pipes = Some FirstParallel
limit_fault true lines pipes = if nat_le lines line_limit then (if nat_le pipes pipe_limit then None else Some TooManyPipes) else Some TooManyLines

abbrev pub pipes_fault : ℕ → List Bool → Option PipeError
pipes_fault lines [] = Some NoPipes
pipes_fault lines (first ∷ rest) = limit_fault first lines (suc (length rest))

-- why a specification is none of a pipeline, if it is none: the first reason
abbrev pub spec_fault : PipeSpec → Option PipeError
spec_fault spec = if spec.lines == 0 then Some NoLines else pipes_fault spec.lines spec.serial
