-- Places between lines.
use Rattle.std.specs.Prelude.{◌≡◌, ℕ, ◌+◌, ◌<◌, ◌≤◌, ◌==◌, List, length, take, drop, count_by}
use Rattle.text_ops.specs.Lines.{line_end}

-- how many line ends there are
abbrev pub end_count : List ℕ → ℕ
end_count text = count_by (λ byte. byte == line_end) text

-- Of n line ends so many are left behind this place.
pub record LeftBehind (text : List ℕ) (n place left : ℕ) : Type 0 where
  pub within : place ≤ length text
  pub some : 0 < left
  pub ends : end_count (take place text) + left ≡ n

-- Of n line ends from the end of the text back, so many are left before this place.
pub record LeftBefore (text : List ℕ) (n place left : ℕ) : Type 0 where
  pub within : place ≤ length text
  pub some : 0 < left
  pub ends : end_count (drop place text) + left ≡ n
