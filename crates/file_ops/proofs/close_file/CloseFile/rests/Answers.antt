use Rattle.file_ops.proofs.Resting.{saves-rests, queued-rests, removing-rests}
use Rattle.file_ops.proofs.close_file.CloseFile.rests.Goals as goal

pub returns-in-Queued : goal.returns-in-Queued
returns-in-Queued c = queued-rests c.args.self.now _ c.args.shelf.now _ c.in-Queued.is c.is_first.ensures

pub returns-in-Saves : goal.returns-in-Saves
returns-in-Saves c = saves-rests c.args.self.now _ c.args.shelf.now _ c.in-Saves.is c.rests_in_turn.ensures

pub returns-in-Removing : goal.returns-in-Removing
returns-in-Removing c = removing-rests c.args.self.now _ c.args.shelf.now c.in-Removing.is
