use Rattle.file_ops.proofs.Puts.{resumes-unused, writes-on}
use Rattle.file_ops.proofs.put_file.PutFile.resume_room.Goals as goal

pub wrote-requires-clause-free : goal.wrote-requires-clause-free
wrote-requires-clause-free c = resumes-unused c.args.self.now.write.state c.args.wsize c.args.self.now.write.lane c.args.turn c.args.shelf.now c.resume-next.result c.resume-next.new.self.state c.resume-next.new.shelf c.resume-next.ensures.step

pub returns : goal.returns
returns c = record {
  step = record {
    told = c.resume-next.result;
    written = c.resume-next.new.self.state;
    mid = c.resume-next.new.shelf;
    resumes = c.resume-next.ensures.step;
    goes = writes-on c.args.wsize c.args.self.now c.args.file.now c.args.turn c.resume-next.result c.resume-next.new.self c.resume-next.new.shelf _ _ _ c.resume-next.ensures.machine c.wrote.ensures.step c.wrote.ensures.machine;
  };
}
