use Rattle.session_setup.proofs.Hearing.{mount_heard}
use Rattle.session_setup.proofs.reply.hear_mount.Goals as goal

pub returns-in-Ok : goal.returns-in-Ok
returns-in-Ok c x has path = mount_heard x path c.in-Ok.results.now c.args.record.now c.mounted.result (c.in-Ok.ensures.means x has) c.mounted.ensures
