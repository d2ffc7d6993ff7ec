use Rattle.file_ops.proofs.Resting.{sync-rests}
use Rattle.file_ops.proofs.sync_file.SyncFile.rests.Goals as goal

pub returns-in-Saves : goal.returns-in-Saves
returns-in-Saves c = sync-rests c.args.self.now _ c.args.shelf.now _ c.in-Saves.is c.rests_in_turn.ensures
