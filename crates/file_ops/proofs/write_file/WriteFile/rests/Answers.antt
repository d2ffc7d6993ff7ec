use Rattle.file_ops.proofs.Resting.{write-rests}
use Rattle.file_ops.proofs.write_file.WriteFile.rests.Goals as goal

pub returns-in-Room : goal.returns-in-Room
returns-in-Room c = write-rests c.args.self.now.state c.args.self.now.lane _ _ c.args.shelf.now _ c.in-Room.is c.rests_in_turn.ensures
