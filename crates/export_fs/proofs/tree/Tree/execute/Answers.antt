use Rattle.export_fs.proofs.FreshCalls.{stamped_call, fresh_call, rises_call}
use Rattle.export_fs.proofs.ExportContract.{sound_call, serves_call}
use Rattle.export_fs.proofs.RepliesEncode.{replies_spelled}
use Rattle.export_fs.proofs.tree.Tree.execute.Goals as goal

pub returns-clause-spelled : goal.returns-clause-spelled
returns-clause-spelled c = replies_spelled _ _ c.args.call.now c.execute_call.result c.texts_fit.ensures c.execute_call.ensures.ok

pub returns-clause-sound : goal.returns-clause-sound
returns-clause-sound c = sound_call _ _ c.args.call.now c.execute_call.result c.execute_call.ensures.ok c.execute_call.ensures.err c.handles_fit.ensures

pub returns-clause-serves : goal.returns-clause-serves
returns-clause-serves c = serves_call _ _ c.args.call.now c.execute_call.result c.execute_call.ensures.ok c.handles_fit.ensures

pub returns-clause-stamped : goal.returns-clause-stamped
returns-clause-stamped c = stamped_call _ _ c.args.call.now c.execute_call.result c.execute_call.ensures.ok c.execute_call.ensures.err

pub returns-clause-fresh : goal.returns-clause-fresh
returns-clause-fresh c = fresh_call _ _ c.args.call.now c.execute_call.result c.execute_call.ensures.ok c.execute_call.ensures.err

pub returns-clause-rises : goal.returns-clause-rises
returns-clause-rises c = rises_call _ _ c.args.call.now c.execute_call.result c.execute_call.ensures.ok
