-- The export moves, and what changed is named.
use Rattle.world_trace.proofs.Leading.{leads}
use Rattle.world_trace.proofs.top.next_update.Goals as goal

pub returns : goal.returns
returns c = leads c.args.part c.args.entry.now _ _ _ _ _ _ c.in_ok-moved.ensures c.verifier.ensures c.in_ok-objects.ensures
