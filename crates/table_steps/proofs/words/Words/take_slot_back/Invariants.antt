use Rattle.table_steps.proofs.words.Words.take_slot_back.Given as goal

abbrev pub ghosts-take_back_told : goal.ghosts-take_back_told
ghosts-take_back_told g a = record { edge = a.edge }
