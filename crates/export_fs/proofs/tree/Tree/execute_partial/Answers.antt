use Rattle.export_fs.proofs.PartialWrites.{partial_spelled, partial_sound, partial_serves, partial_stamped, partial_fresh}
use Rattle.export_fs.proofs.tree.Tree.execute_partial.Goals as goal

pub returns-clause-spelled : goal.returns-clause-spelled
returns-clause-spelled c = partial_spelled _ _ c.args.call.now _ _ c.execute_part.result c.execute_part.ensures.ok c.requires.write c.requires.fails

pub returns-clause-sound : goal.returns-clause-sound
returns-clause-sound c = partial_sound _ _ c.args.call.now _ _ c.execute_part.result c.execute_part.ensures.ok c.execute_part.ensures.err c.requires.write c.handles_fit.ensures

pub returns-clause-serves : goal.returns-clause-serves
returns-clause-serves c = partial_serves _ _ c.args.call.now _ _ c.execute_part.result c.execute_part.ensures.ok c.requires.write c.requires.fails c.handles_fit.ensures

pub returns-clause-stamped : goal.returns-clause-stamped
returns-clause-stamped c = partial_stamped _ _ c.args.call.now _ _ c.execute_part.result c.execute_part.ensures.ok c.execute_part.ensures.err

pub returns-clause-fresh : goal.returns-clause-fresh
returns-clause-fresh c = partial_fresh _ _ c.args.call.now _ _ c.execute_part.result c.execute_part.ensures.ok c.execute_part.ensures.err
