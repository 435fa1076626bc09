-- A builder takes the adds of a book.
use Rattle.std.proofs.Common.{◌≡◌, ℕ, suc, ◌+◌, ◌*◌, ◌<◌, ◌≤◌, List, [], ◌∷◌, ◌++◌, length, length-append, refl, ap, arith}
use Rattle.std.specs.Prelude.{Result, Ok, Err, IfErr, IsErrAnd}
use Rattle.std.specs.List.{flat_map, AllByRecursion}
use Rattle.task_graph.specs.NetRows.{NetRows}
use Rattle.task_graph.specs.NetBuilder.{task_limit, empty_net}
use Rattle.task_graph.specs.declared.builder.BuildError.{BuildError}
use Rattle.task_graph.specs.declared.builder.BuildError.TheVariants.{NoMemory}
use Rattle.journal_rules.specs.Entries.{EachAfterThese}
use Rattle.async_tasks.specs.Adds.{after_limit}
use Rattle.async_tasks.specs.Histories.{RowRule}
use Rattle.async_tasks.specs.declared.history.AddRow.{AddRow}
use Rattle.async_journal.specs.RunNets.{edges_into, edges_of_add, FitsBuilder, JoinsTasks}
use Rattle.async_journal.specs.WholeJournals.{AreBookAdds}
use Rattle.async_journal.proofs.Refusing.{adds_refused}

all_both : {X : Type 0} (P : X → Type 0) (xs ys : List X) → AllByRecursion P xs → AllByRecursion P ys → AllByRecursion P (xs ++ ys)
all_both P [] ys front behind = behind
all_both P (x ∷ xs) ys front behind = (front.0, all_both P xs ys front.1 behind)

-- the ends of the edges
joins_into : (n id bound : ℕ) (after : List ℕ) → id < n → bound ≤ n → AllByRecursion (λ a. a < bound) after → AllByRecursion (JoinsTasks n) (edges_into id after)
joins_into n id bound [] is few each = tt
joins_into n id bound (a ∷ more) is few each =
    let first = each.0 in
    ((omega (arith, first, few), is), joins_into n id bound more is few each.1)

joins_all : (callers n : ℕ) (before rows : List AddRow) → EachAfterThese (RowRule callers) before rows → length before + length rows ≤ n → AllByRecursion (JoinsTasks n) (flat_map edges_of_add rows)
joins_all callers n before [] each few = tt
joins_all callers n before (r ∷ rs) each few =
    let rule = each.0 in
    let id = rule.id in
    let more = length-append before (r ∷ []) in
    let fewer : length before + suc (length rs) ≤ n = few in
    all_both (JoinsTasks n) (edges_of_add r) (flat_map edges_of_add rs) (joins_into n r.id (length before) r.after (omega (arith, id, fewer)) (omega (arith, fewer)) rule.after)
    (joins_all callers n (before ++ r ∷ []) rs each.1 (omega (arith, more, fewer)))

-- how many there are
count_into : (id : ℕ) (after : List ℕ) → length (edges_into id after) ≡ length after
count_into id [] = refl
count_into id (a ∷ more) = ap suc (count_into id more)

count_all : (rows : List AddRow) → AllByRecursion (λ (row : AddRow). length row.after ≤ after_limit) rows → length (flat_map edges_of_add rows) ≤ 64 * length rows
count_all [] each = let none : 0 ≤ 64 * 0 = omega arith in none
count_all (r ∷ rs) each =
    let first : length r.after ≤ 64 = each.0 in
    let into = count_into r.id r.after in
    let both = length-append (edges_of_add r) (flat_map edges_of_add rs) in
    let rest = count_all rs each.1 in
    let all : length (edges_of_add r ++ flat_map edges_of_add rs) ≤ 64 * suc (length rs) = omega (arith, first, into, both, rest) in
    all

book_fits : (adds : List AddRow) → AreBookAdds adds → FitsBuilder adds
book_fits adds book =
    let few : length adds ≤ 100000 = book.count in
    let edges = count_all adds book.after in
    record {
      tasks = omega (arith, few);
      edges = omega (arith, few, edges);
      known = joins_all book.history.callers (length adds) [] adds book.history.history.each_row (omega arith);
    }

-- so what it refuses only of adds that don't fit it refuses of none of a book
pub book_refused : {T : Type 0} (adds : List AddRow) (result : Result T BuildError) → IfErr result (λ error. FitsBuilder adds → error ≡ NoMemory) → IfErr result (λ error. AreBookAdds adds → error ≡ NoMemory)
book_refused adds (Ok net) refused = tt
book_refused adds (Err error) refused = λ book. refused (book_fits adds book)

pub book_adds_refused : {T : Type 0} (adds : List AddRow) (start : NetRows) (count : ℕ) (error : BuildError) (result : Result T BuildError) → start ≡ empty_net → count ≡ length adds →
    (length start.tasks + count ≤ task_limit → error ≡ NoMemory) → IsErrAnd result (λ e. e ≡ error) →
    IfErr result (λ e. AreBookAdds adds → e ≡ NoMemory)
book_adds_refused adds start count error result empty all refused same = book_refused adds result (adds_refused adds start count error result empty all refused same)
