use Rattle.client_shelf.specs.Coming.{reply_of}
use Rattle.file_ops.proofs.Puts.{takes-unused, writes-on}
use Rattle.file_ops.proofs.put_file.PutFile.take_room.Goals as goal

pub wrote-requires-clause-free : goal.wrote-requires-clause-free
wrote-requires-clause-free c = takes-unused c.args.self.now.write.state c.args.wsize c.args.self.now.write c.args.sent c.args.turn (reply_of c.args.came.now) c.args.shelf.now c.took-next.result c.took-next.new.self.state c.took-next.new.shelf c.took-next.ensures.step c.requires.free

pub returns : goal.returns
returns c = record {
  step = record {
    told = c.took-next.result;
    written = c.took-next.new.self.state;
    mid = c.took-next.new.shelf;
    takes = c.took-next.ensures.step;
    goes = writes-on c.args.wsize c.args.self.now c.args.file.now c.args.turn c.took-next.result c.took-next.new.self c.took-next.new.shelf _ _ _ c.took-next.ensures.machine c.wrote.ensures.step c.wrote.ensures.machine;
  };
}
