use Rattle.std.proofs.Common.{rules}
use Rattle.file_ops.specs.WriteFile.{made_bytes}
use Rattle.file_ops.proofs.Rooms.{full-writes}
use Rattle.file_ops.proofs.write_file.WriteFile.write.Goals as goal

-- src/write_file.rt:162:5
pub returns-in-Full-clause-step : goal.returns-in-Full-clause-step
returns-in-Full-clause-step c = full-writes c.args.wsize c.args.self.now.lane c.args.file.now c.args.self.now.offset (made_bytes c.args.self.now.text) c.args.turn c.args.shelf.now _ _ _ _ (search rules) (search rules) c.make_room.ensures.step
