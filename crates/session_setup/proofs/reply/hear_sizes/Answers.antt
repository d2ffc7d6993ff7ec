use Rattle.session_setup.proofs.Hearing.{info_heard}
use Rattle.session_setup.proofs.reply.hear_sizes.Goals as goal

pub returns-in-Ok : goal.returns-in-Ok
returns-in-Ok c x has root = info_heard x root c.in-Ok.results.now c.args.record.now c.informed.result (c.in-Ok.ensures.means x has) c.informed.ensures
