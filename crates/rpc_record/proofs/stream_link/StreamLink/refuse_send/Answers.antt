use Rattle.rpc_record.proofs.LineSteps.{unsent_step}
use Rattle.rpc_record.proofs.stream_link.StreamLink.refuse_send.Goals as goal

pub returns-clause-told : goal.returns-clause-told
returns-clause-told g c =
    rw (← c.self.view_is) (unsent_step _ _ c.self.inside.inbox c.args.rec.now _ c.self.invariant (rw c.in-Ok.ensures at c.if-not-place.ensures.yes)).tells
