use Rattle.std.proofs.Common.{rules}
use Rattle.export_fs.proofs.FreshCalls.{stamped_flushed, fresh_flush}
use Rattle.export_fs.proofs.ExportContract.{sound_flush, flushes_range}
use Rattle.export_fs.proofs.tree.Tree.flush.Goals as goal

pub returns-clause-ok : goal.returns-clause-ok
returns-clause-ok c = search rules

pub returns-clause-err : goal.returns-clause-err
returns-clause-err c = search rules

pub returns-clause-sound : goal.returns-clause-sound
returns-clause-sound c = sound_flush c.args.self.now _ c.args.file.now c.args.from c.args.len c.commit.result (returns-clause-ok c) (returns-clause-err c)

pub returns-clause-flushes : goal.returns-clause-flushes
returns-clause-flushes c = flushes_range c.args.self.now _ c.args.file.now c.args.from c.args.len c.commit.result (returns-clause-ok c) c.holds_bytes.ensures

pub returns-clause-stamped : goal.returns-clause-stamped
returns-clause-stamped c = stamped_flushed c.args.self.now _ c.args.file.now c.args.from c.args.len c.commit.result (returns-clause-ok c) (returns-clause-err c)

pub returns-clause-fresh : goal.returns-clause-fresh
returns-clause-fresh c = fresh_flush c.args.self.now _ c.args.file.now c.args.from c.args.len c.commit.result (returns-clause-ok c) (returns-clause-err c)
