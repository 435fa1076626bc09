use Rattle.table_steps.proofs.words.Words.put_slot_back.Given as goal

abbrev pub ghosts-put_back_told : goal.ghosts-put_back_told
ghosts-put_back_told g a = record { edge = a.edge }
