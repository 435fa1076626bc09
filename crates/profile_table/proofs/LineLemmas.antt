-- The lines of tasks, written one after another.
use Rattle.std.proofs.Common.{◌≡◌, ◌∙◌, ap, sym, ℕ, ◌<◌, ◌≤◌, List, length, take, get_or, arith}
use Rattle.std.specs.List.{zip}
use Rattle.std.proofs.lemmas.List.{get_or_default, take_all}
use Rattle.std.proofs.lemmas.Slice.Zip.{get_or-zip, length-zip}
use Rattle.profile_table.specs.declared.row.TableRow.{TableRow}

-- A task's name and its row are the pair at its number.
pub record ArePair (names : List (List ℕ)) (rows : List TableRow) (task : ℕ) (name : List ℕ) (row : TableRow) : Type 0 where
  pub inside : task < length (zip names rows)
  pub is : (name, row) ≡ get_or (zip names rows) task (name, row)

pub pair_at : (names : List (List ℕ)) (rows : List TableRow) (task : ℕ) (name other : List ℕ) (d : TableRow) → length names ≡ length rows → task < length names → other ≡ name → name ≡ get_or names task name → ArePair names rows task other (get_or rows task d)
pair_at names rows task name other d same inside other_is is =
    let row = get_or rows task d in
    let inside_rows : task < length rows = omega arith in
    let name_is : other ≡ get_or names task other = other_is ∙ is ∙ get_or_default names task name other inside in
    let row_is : row ≡ get_or rows task row = get_or_default rows task d row inside_rows in
    record {
      inside = omega (arith, length-zip names rows, same, inside);
      is = ap (λ n. (n, row)) name_is ∙ ap (λ r. (get_or names task other, r)) row_is ∙ sym (get_or-zip names rows task (other, row) inside inside_rows);
    }

-- So many lines as there are tasks are all lines.
pub all_lines : (names : List (List ℕ)) (rows : List TableRow) (task : ℕ) → length names ≤ task → take task (zip names rows) ≡ zip names rows
all_lines names rows task all = take_all task (zip names rows) (omega (arith, length-zip names rows, all))
