use Rattle.std.proofs.Common.{◌+◌}
use Rattle.client_shelf.specs.Coming.{reply_of}
use Rattle.file_ops.proofs.Fewer.{fewer-newest, fewer-unused}
use Rattle.file_ops.proofs.SaveEnds.{takes-fewer}
use Rattle.file_ops.proofs.write_file.WriteFile.took.Goals as goal

-- src/write_file.rt:170:17
pub follow-requires-clause-newest : goal.follow-requires-clause-newest
follow-requires-clause-newest c = λ ended. fewer-newest (c.args.shelf.now.seq + 1) c.args.shelf.now.back c.took-told.new.back
    (takes-fewer c.args.wsize c.args.sent c.args.turn (reply_of c.args.came.now) c.args.shelf.now.repeats c.in-Room.saving c.args.shelf.now.back c.took-told.result c.took-told.new.self c.took-told.new.back c.took-told.new.repeats c.took-told.ensures.step ended) c.requires.newest

pub follow-requires-clause-free : goal.follow-requires-clause-free
follow-requires-clause-free c = λ ended. fewer-unused c.args.turn.xid c.args.shelf.now.back c.took-told.new.back
    (takes-fewer c.args.wsize c.args.sent c.args.turn (reply_of c.args.came.now) c.args.shelf.now.repeats c.in-Room.saving c.args.shelf.now.back c.took-told.result c.took-told.new.self c.took-told.new.back c.took-told.new.repeats c.took-told.ensures.step ended) c.requires.free
