use Rattle.export_serve.proofs.KeptLaws.{kept_after}
use Rattle.export_serve.proofs.kept_replies.KeptReplies.keep.Goals as goal

pub invariant_of-self : goal.invariant_of-self
invariant_of-self c = kept_after c.keep_last.result c.args.new c.self.inside.replies.items c.keep_last.new.replies.items c.requires c.self.invariant c.keep_last.ensures.ok c.keep_last.ensures.err
