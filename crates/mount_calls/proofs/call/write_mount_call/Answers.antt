use Rattle.mount_calls.proofs.Laws.{on_ok, call_written}
use Rattle.mount_calls.proofs.call.write_mount_call.Goals as goal

pub returns-in-Null-clause-spelled : goal.returns-in-Null-clause-spelled
returns-in-Null-clause-spelled c = call_written c.args.call.now c.requires

pub returns-in-Null-2-clause-spelled : goal.returns-in-Null-2-clause-spelled
returns-in-Null-2-clause-spelled c = call_written c.args.call.now c.requires

pub returns-in-Mnt-clause-spelled : goal.returns-in-Mnt-clause-spelled
returns-in-Mnt-clause-spelled c = on_ok _ (call_written c.args.call.now c.requires)
