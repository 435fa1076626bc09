-- The releases that are left, each with how often it can be used.
use Rattle.std.specs.Prelude.{ℕ, ◌==◌, List, [], ◌∷◌, ◌++◌, length, if◌then◌else◌}
use Rattle.std.specs.List.{range_with_len}
use Rattle.task_graph.specs.NetRows.{NetRows}
use Rattle.task_graph.specs.Net.{weak_in}
use Rattle.journal_rules.specs.declared.entry.Cause.{Cause}
use Rattle.journal_rules.specs.declared.entry.Cause.TheVariants.{Source, Strong, Weak}
use Rattle.journal_rules.specs.declared.entry.Entry.{Entry}
use Rattle.net_machine.specs.declared.ready.ReadyRelease.{ReadyRelease}
use Rattle.journal_rules.specs.TimesLeft.{times_left}

-- a release, unless it can't be used any more
abbrev pub ready_row : ℕ → Cause → ℕ → List ReadyRelease
ready_row t cause times = if times == 0 then [] else record { task = t; cause = cause; times = times } ∷ []

-- what is left by these weak edges into a task
abbrev pub ready_weak : NetRows → List Entry → ℕ → List ℕ → List ReadyRelease
ready_weak net journal t [] = []
ready_weak net journal t (e ∷ es) = ready_row t (Weak e) (times_left net journal t (Weak e)) ++ ready_weak net journal t es

-- what is left of a task: as a source, by its strong in-edges, and by its weak ones in order
abbrev pub ready_of : NetRows → List Entry → ℕ → List ReadyRelease
ready_of net journal t =
    ready_row t Source (times_left net journal t Source) ++ (ready_row t Strong (times_left net journal t Strong)
    ++ ready_weak net journal t (weak_in net t))

-- what is left of these tasks
abbrev pub ready_of_each : NetRows → List Entry → List ℕ → List ReadyRelease
ready_of_each net journal [] = []
ready_of_each net journal (t ∷ ts) = ready_of net journal t ++ ready_of_each net journal ts

-- what is left, by rising task
abbrev pub ready_list : NetRows → List Entry → List ReadyRelease
ready_list net journal = ready_of_each net journal (range_with_len 0 (length net.tasks))
