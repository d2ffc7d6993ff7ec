use Rattle.std.proofs.Common.{subst}
use Rattle.file_ops.specs.WriteFile.{made_bytes, Writes}
use Rattle.file_ops.proofs.Puts.{writes-unused, writes-on}
use Rattle.file_ops.proofs.put_file.PutFile.add.Goals as goal

pub wrote-requires-clause-free : goal.wrote-requires-clause-free
wrote-requires-clause-free c = writes-unused c.args.wsize _ _ _ _ c.args.turn _ _ _ _ c.write-next.ensures.step c.requires.free

pub returns : goal.returns
returns c =
    let m = c.args.self.now in
    record {
      step = record {
        told = c.write-next.result;
        written = c.write-next.new.self.state;
        mid = c.write-next.new.shelf;
        writes = subst (λ puts. Writes c.args.wsize m.write.lane c.args.file.now m.write.offset (made_bytes m.write.text) c.args.turn (record c.args.shelf.now { puts = puts }) c.write-next.result c.write-next.new.self.state c.write-next.new.shelf) c.join.ensures c.write-next.ensures.step;
        goes = writes-on c.args.wsize m c.args.file.now c.args.turn c.write-next.result c.write-next.new.self c.write-next.new.shelf _ _ _ c.write-next.ensures.machine c.wrote.ensures.step c.wrote.ensures.machine;
      };
    }
