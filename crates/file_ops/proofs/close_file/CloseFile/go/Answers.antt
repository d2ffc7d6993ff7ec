use Rattle.std.proofs.Common.{refl}
use Rattle.file_ops.proofs.close_file.CloseFile.go.Goals as goal

pub returns-clause-step : goal.returns-clause-step
returns-clause-step c = record {
  gives = c.go-next.result;
  saved = c.go-next.new.self;
  gone = record c.args.shelf.now { back = c.go-next.new.back };
  goes = c.go-next.ensures;
  others = refl;
  follows = c.follow.ensures.step;
}
