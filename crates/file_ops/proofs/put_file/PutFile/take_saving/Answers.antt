use Rattle.std.proofs.Common.{refl}
use Rattle.file_ops.proofs.put_file.PutFile.take_saving.Goals as goal

pub returns-clause-step : goal.returns-clause-step
returns-clause-step c = record {
  gives = c.took-next.result;
  saved = c.took-next.new.self;
  took = record c.args.shelf.now { attrs = c.took-next.new.attrs; pages = c.took-next.new.pages; back = c.took-next.new.back; repeats = c.took-next.new.repeats };
  takes = c.took-next.ensures.step;
  pages = c.took-next.ensures.pages;
  attrs = c.took-next.ensures.attrs;
  others = refl;
  follows = c.follow.ensures.step;
}
