-- How long the value of an operation may be.
use Rattle.std.specs.Prelude.{◌≡◌, ℕ, ◌<◌, ◌≤◌, List, length, Result, Ok, Err}
use Rattle.text_ops.specs.declared.text.Text.{Text}
use Rattle.text_ops.specs.declared.gathered.ApplyError.{ApplyError}
use Rattle.text_ops.specs.declared.gathered.ApplyError.TheVariants.{Long, NoMemory}

-- the most bytes of a value
abbrev pub value_limit : ℕ
value_limit = 16777216

-- The value isn't made because it would have so many bytes, which are too many; memory may be refused at any time.
abbrev pub MayRefuse : List ℕ → ApplyError → Type 0
MayRefuse value (Long n) = (n ≡ length value) × (value_limit < n)
MayRefuse value NoMemory = Unit {0}

-- The value, which isn't too long, or why it isn't made.
abbrev pub Makes : List ℕ → Result Text ApplyError → Type 0
Makes value (Ok text) = (text ≡ value) × (length value ≤ value_limit)
Makes value (Err error) = MayRefuse value error
