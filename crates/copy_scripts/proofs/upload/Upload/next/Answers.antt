use Rattle.std.proofs.Common.{[]}
use Rattle.copy_scripts.proofs.Nexts.{next-files, next-names}
use Rattle.copy_scripts.proofs.Uploads.{gives-none, takes-none}
use Rattle.copy_scripts.proofs.upload.Upload.next.Goals as goal

pub returns-then-count-gt0-clause-goes : goal.returns-then-count-gt0-clause-goes
returns-then-count-gt0-clause-goes g c =
    let gave = c.in_ok-is_over.ensures.takes in
    record {
      more = gave.more;
      told = gave.told;
      so = next-names c.args.status gave.more c.args.self.now c.judge.new.self c.forget.new.self c.gather.new.self c.in_ok-judge.ensures c.forget.ensures gave.so c.send_names.result
          c.send_names.new.self.names c.send_names.new.self c.send_names.ensures.names c.send_names.ensures.rest;
    }

pub returns-then-files_wait-clause-goes : goal.returns-then-files_wait-clause-goes
returns-then-files_wait-clause-goes g c =
    record {
      more = [];
      told = gives-none (g.T.Tree.given c.args.tree.now);
      so = next-files c.args.status [] c.args.self.now c.judge.new.self c.forget.new.self c.forget.new.self c.in_ok-judge.ensures c.forget.ensures
          (takes-none c.forget.new.self) c.send_files.result c.send_files.new.self c.send_files.ensures.is c.send_files.ensures.rest;
    }
