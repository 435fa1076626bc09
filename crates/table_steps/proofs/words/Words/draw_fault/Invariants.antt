use Rattle.table_steps.proofs.words.Words.draw_fault.Given as goal

abbrev pub ghosts-fault_told : goal.ghosts-fault_told
ghosts-fault_told g a = record { why = a._why }
