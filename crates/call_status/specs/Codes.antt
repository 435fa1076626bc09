-- The exit codes.
use Rattle.std.specs.Prelude.{ℕ}
use Rattle.call_status.specs.declared.status.Status.{Status}
use Rattle.call_status.specs.declared.status.Status.TheVariants.{Done, BadWords, BadGraph, NoSource, NoText, LongText, ReadFault, WriteFault, Limit, TaskFault, Stuck, NotLegal, BadJournal, NoMemory}

-- 0 where the command did what it was to do; another number for each kind of reason that it didn't
abbrev pub code_of : Status → ℕ
code_of Done = 0
code_of BadWords = 2
code_of (BadGraph error) = 3
code_of (NoSource spot) = 4
code_of (NoText name) = 5
code_of (LongText name) = 5
code_of (ReadFault name) = 6
code_of WriteFault = 7
code_of (Limit path limit) = 8
code_of (TaskFault path why) = 9
code_of (Stuck path) = 10
code_of (NotLegal place why) = 11
code_of (BadJournal line) = 12
code_of NoMemory = 13
