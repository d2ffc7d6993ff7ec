use Rattle.mount_calls.proofs.Laws.{mnt_ok_written}
use Rattle.mount_calls.proofs.reply.write_mnt_ok.Goals as goal

pub returns-clause-spelled : goal.returns-clause-spelled
returns-clause-spelled c = mnt_ok_written c.args.root.now c.args.flavors.now c.bytes.ensures.bound c.in_ok-write_flavors.ensures.spelled
