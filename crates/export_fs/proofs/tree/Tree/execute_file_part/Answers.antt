use Rattle.export_fs.proofs.PartialWrites.{other_executes}
use Rattle.export_fs.proofs.tree.Tree.execute_file_part.Goals as goal

pub returns-in_default : goal.returns-in_default
returns-in_default c = record {
  ok = other_executes _ _ c.args.call.now _ _ c.execute_file-in_default.result c.in_default.not-Write c.execute_file-in_default.ensures.ok;
  err = c.execute_file-in_default.ensures.err;
}
