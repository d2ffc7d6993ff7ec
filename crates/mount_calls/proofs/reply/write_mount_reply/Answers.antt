use Rattle.mount_calls.specs.Replies.{mount_reply_bytes}
use Rattle.mount_calls.proofs.Laws.{plain_written}
use Rattle.mount_calls.proofs.reply.write_mount_reply.Goals as goal

pub returns-in-Null-clause-spelled : goal.returns-in-Null-clause-spelled
returns-in-Null-clause-spelled c = plain_written c.args.reply.now c.in-Null.is

pub returns-in-Null-2-clause-spelled : goal.returns-in-Null-2-clause-spelled
returns-in-Null-2-clause-spelled c = plain_written c.args.reply.now c.in-Null.is

pub returns-in-MntOk-clause-spelled : goal.returns-in-MntOk-clause-spelled
unfolding mount_reply_bytes
returns-in-MntOk-clause-spelled c = rw (c.in-MntOk.is) c.write_mnt_ok.ensures.spelled

pub returns-in-MntFail-clause-spelled : goal.returns-in-MntFail-clause-spelled
unfolding mount_reply_bytes
returns-in-MntFail-clause-spelled c = rw (c.in-MntFail.is) c.write_mnt_fail.ensures.spelled

pub returns-in-Export-clause-spelled : goal.returns-in-Export-clause-spelled
unfolding mount_reply_bytes
returns-in-Export-clause-spelled c = rw (c.in-Export.is) c.write_exports.ensures.spelled
