use Rattle.table_steps.proofs.words.Words.draw_last_drop.Given as goal

abbrev pub ghosts-drop_last_told : goal.ghosts-drop_last_told
ghosts-drop_last_told g a = record { why = a._why }
