use Rattle.export_serve.proofs.KeptLaws.{found_executed}
use Rattle.export_serve.proofs.kept_replies.KeptReplies.reply_to.Goals as goal

pub returns-clause-call : goal.returns-clause-call
returns-clause-call c = found_executed (λ reply. reply.now) c.args.rec.now c.self.inside.replies.items c.reply_among.result c.self.invariant.1 c.reply_among.ensures
