use Rattle.std.proofs.Common.{refl}
use Rattle.file_ops.proofs.Resting.{opens-rests, adds-rests, put-rests}
use Rattle.file_ops.proofs.put_file.PutFile.rests.Goals as goal

pub returns-in-Opens : goal.returns-in-Opens
returns-in-Opens c = opens-rests c.args.self.now c.args.shelf.now _ c.in-Opens.is refl

pub returns-in-Adds : goal.returns-in-Adds
returns-in-Adds c = adds-rests c.args.self.now _ c.args.shelf.now _ c.in-Adds.is c.rests.ensures

pub returns-in-Saves : goal.returns-in-Saves
returns-in-Saves c = put-rests c.args.self.now _ c.args.shelf.now _ c.in-Saves.is c.rests_in_turn.ensures
